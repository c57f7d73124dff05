use Rattle.std.proofs.Common.{◌≡◌, ℕ, ◌^◌, ◌<◌, sym, refl, subst, rules}
use Rattle.bits.specs.Number.{bit}
use Rattle.bits.proofs.Folds.{number_from_fold}
use Rattle.linear.specs.Linear.{linear_bit, linear}
use Rattle.linear.proofs.Linears.{linear_lt}
use Rattle.linear.proofs.Circulant.apply.Goals as goal

pub returns : goal.returns
unfolding linear
returns c =
    let s = c.args.self in
    let is : c.fold.result ≡ linear s.size s.factor s.offsets.now c.args.x =
    number_from_fold _ _ s.size (linear_bit s.size s.factor s.offsets.now (bit c.args.x)) s.most
    (λ r i t f' called. search rules) (λ r i t f' l unset called. search rules) _ refl c.fold.ensures.ran in
    record { is = is; fits = subst (λ (z : ℕ). z < 2 ^ s.size) (sym is) (linear_lt s.size s.factor s.offsets.now c.args.x) }
