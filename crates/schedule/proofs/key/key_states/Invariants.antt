use Rattle.std.proofs.Common.{◌≡◌}
use Rattle.schedule.specs.Schedule.{key_after}
use Rattle.schedule.proofs.Tables.{Filled}
use Rattle.schedule.proofs.key.key_states.Given as goal

abbrev pub invariant-loop-i : goal.invariant-loop-i
invariant-loop-i l = (l.state ≡ key_after l.mode l.key l.i) × Filled (key_after l.mode l.key) 9 l.row-items l.i
