use Rattle.std.proofs.Common.{◌≡◌}
use Rattle.voyage.proofs.story.show_all.Given as goal

abbrev pub invariant-loop-step : goal.invariant-loop-step
invariant-loop-step g l =
    let M = g.M.Memory in
    M.rest l.unit.memory ≡ M.rest l.initial.unit.memory
