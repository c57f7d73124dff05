use Rattle.std.proofs.Common.{length, arith}
use Rattle.std.proofs.lemmas.List.FromFn.{fill_by_all}
use Rattle.page.proofs.fill.decrypt_words.Goals as goal

pub returns : goal.returns
returns g c = fill_by_all _ c.loop-place.words (length c.args.words.now) 0 c.loop-place.auto.words (λ k l. c.loop-place.invariant k (omega arith))
