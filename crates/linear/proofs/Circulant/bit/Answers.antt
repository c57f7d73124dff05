use Rattle.std.proofs.Common.{◌≡◌, ℕ, Bool, List, false, refl, rules}
use Rattle.std.proofs.lemmas.Fn.{fold_over, fronts}
use Rattle.std.proofs.lemmas.Iterator.{YieldsList-from_slice}
use Rattle.bits.specs.Number.{bit}
use Rattle.linear.specs.Linear.{place, xor_all}
use Rattle.linear.proofs.Linears.{bit_more}
use Rattle.linear.proofs.Circulant.bit.Goals as goal

pub returns : goal.returns
returns c =
    let s = c.args.self in
    let f : ℕ → Bool = λ b. bit c.args.x (place s.size s.factor c.args.i b) in
    fold_over fronts (λ y. y.now) _ (λ (bs : List ℕ) (r : Bool). r ≡ xor_all f bs) _
    (λ bs r b t f' is called. (bit_more f bs b.now r t is (search rules), search rules)) _ s.offsets.now false _ (YieldsList-from_slice s.offsets.now (cc)).runs refl c.fold.ensures.ran
