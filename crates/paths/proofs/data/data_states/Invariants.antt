use Rattle.std.proofs.Common.{ℕ, ◌+◌, get_or}
use Rattle.schedule.proofs.Tables.{Filled}
use Rattle.paths.specs.Data.{data_after}
use Rattle.paths.proofs.data.data_states.Given as goal

abbrev pub invariant-loop-i : goal.invariant-loop-i
invariant-loop-i l = Filled (data_after l.path (λ (k : ℕ). get_or l.masks k 0) l.x) 9 l.states (l.i + 1)
