use Rattle.std.proofs.Common.{◌≡◌, ◌-◌, ◌≤◌}
use Rattle.bits.specs.Number.{bit}
use Rattle.layers.specs.Inverse.{walk}
use Rattle.layers.proofs.nonlinear.State.walk.Given as goal

abbrev pub invariant-loop-i : goal.invariant-loop-i
invariant-loop-i l = record {
  above : l.low ≤ l.i;
  walked : l.pair ≡ walk (bit l.self.bits) l.i (l.high - l.i) l.fn.pair;
}
