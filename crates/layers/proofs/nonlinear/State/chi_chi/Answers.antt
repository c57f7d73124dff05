use Rattle.std.proofs.Common.{refl, ◌+◌, rules, arith}
use Rattle.bits.specs.Number.{bit}
use Rattle.bits.proofs.Folds.{number_from_fold}
use Rattle.layers.specs.ChiChi.{chi_bit, chichi}
use Rattle.layers.proofs.nonlinear.State.chi_chi.Goals as goal

pub returns : goal.returns
unfolding chichi
returns c =
    let s = c.args.self in
    number_from_fold _ _ (s.middle + s.middle) (chi_bit s.middle (bit s.bits)) (omega arith)
    (λ r i t f' called. search rules) (λ r i t f' l unset called. search rules) _ refl c.fold.ensures.ran
