use Rattle.std.proofs.Common.{ap, ◌∙◌, sym, arith}
use Rattle.page.specs.Showing.{place_of}
use Rattle.page.proofs.Finding.{found_here, found_nowhere}
use Rattle.page.proofs.search.find_instruction.Goals as goal

pub returns-then-word-instruction-clause-place : goal.returns-then-word-instruction-clause-place
returns-then-word-instruction-clause-place g c =
    found_here c.args.instruction c.new-page.result.words.now c.loop-place.place c.loop-place.invariant (omega (arith, c.loop-place-test.true, c.len-place-end.ensures)) (sym c.word.ensures ∙ c.if-word-instruction.true)
    ∙ ap (place_of c.args.instruction) c.new-page.ensures.words

pub returns-clause-place : goal.returns-clause-place
returns-clause-place g c =
    found_nowhere c.args.instruction c.new-page.result.words.now c.loop-place.place c.loop-place.invariant (omega (arith, c.loop-place-test.false, c.len-place-end.ensures))
    ∙ ap (place_of c.args.instruction) c.new-page.ensures.words
