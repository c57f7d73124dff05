use Rattle.std.proofs.Common.{ℕ, ◌+◌, get_or}
use Rattle.schedule.specs.Schedule.{tweak_after, tweak_mask}
use Rattle.schedule.proofs.Tables.{Filled}
use Rattle.schedule.proofs.tweak.tweak_schedule.Given as goal

abbrev pub invariant-loop-i : goal.invariant-loop-i
invariant-loop-i l =
    Filled (tweak_after l.keys.tweak (λ (k : ℕ). get_or l.keys.rounds k 0) l.tweak) 9 l.states (l.i + 1)
    × Filled (tweak_mask l.keys.tweak (λ (k : ℕ). get_or l.keys.rounds k 0) l.tweak) 8 l.mask-items l.i
