use Rattle.std.proofs.Common.{◌≡◌, ℕ, ◌-◌, ◌<◌, ◌≤◌, ◌⊎◌}
use Rattle.bits.specs.Number.{bit}
use Rattle.layers.specs.Inverse.{walk}
use Rattle.layers.proofs.nonlinear.State.with_walk.Given as goal

abbrev pub invariant-loop-i : goal.invariant-loop-i
invariant-loop-i l = record {
  above : l.low ≤ l.i;
  walked : l.pair ≡ walk (bit l.self.bits) l.i (l.high - l.i) l.fn.pair;
  inside : (j : ℕ) → l.i ≤ j → j < l.high → bit l.r j ≡ (walk (bit l.self.bits) j (l.high - j) l.fn.pair).0;
  outside : (j : ℕ) → (j < l.i) ⊎ (l.high ≤ j) → bit l.r j ≡ bit l.fn.r j;
}
