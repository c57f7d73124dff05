use Rattle.std.proofs.Common.{ap, ◌+◌, ◌∙◌}
use Rattle.bits.specs.Number.{bit, number}
use Rattle.layers.specs.Inverse.{Pair, state_bit, chichi⁻¹}
use Rattle.layers.proofs.nonlinear.State.inverse.Goals as goal

pub returns : goal.returns
unfolding chichi⁻¹
returns c =
    let s = c.args.self in
    c.state_from.ensures ∙ ap (λ (p : Pair). number (s.middle + s.middle) (state_bit s.middle (bit s.bits) p)) c.fixed_pair.ensures
