use Rattle.std.proofs.Common.{◌≡◌, ℕ, ◌+◌, ◌-◌, ◌*◌, ◌%◌, ◌^◌, List, bit_or, get_or, refl, ◌∙◌, arith, rules}
use Rattle.bits.specs.Field.{field}
use Rattle.bits.proofs.Fields.{byte_after}
use Rattle.bits.proofs.Folds.{fold_range}
use Rattle.bits.proofs.field.Span.number.Goals as goal

pub returns : goal.returns
unfolding field
returns c =
    let bs : List ℕ = c.args.bytes.now in
    let a : ℕ = c.args.self.first in
    fold_range _ _ (λ (k v : ℕ). v ≡ field bs (a * 8) (k * 8)) a (c.args.self.end - a)
    (λ v i w f' called. search rules)
    (λ k v w f' l is called. let e : w ≡ bit_or (v * 2 ^ 8 % 2 ^ 128) (get_or bs (a + k) 0) = search rules in e ∙ byte_after bs a k v (omega arith) (omega (arith, c.type_inv.bytes (a + k))) is)
    c.args.self.end _ _ refl refl refl c.fold.ensures.ran
