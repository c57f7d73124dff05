use Rattle.bits.specs.Number.{bit}
use Rattle.layers.proofs.States.{state_is}
use Rattle.layers.proofs.nonlinear.State.state_from.Goals as goal

pub returns : goal.returns
returns c =
    let s = c.args.self in
    state_is s.middle s.above s.most (bit s.bits) c.args.pair c.crossing-mid.result c.crossing-mid.ensures
    _ _ _ _ _ _ c.with_bit.ensures c.with_bit-middle.ensures c.with_bit-2.ensures c.with_bit-lower.ensures
    c.with_walk-upper.ensures.inside c.with_walk-upper.ensures.outside c.with_walk.ensures.inside c.with_walk.ensures.outside
