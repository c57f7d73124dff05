use Rattle.std.proofs.Common.{◌≡◌}
use Rattle.voyage.proofs.story.fetch_all.Given as goal

abbrev pub invariant-loop-index : goal.invariant-loop-index
invariant-loop-index g l =
    let M = g.M.Memory in
    M.rest l.unit.memory ≡ M.rest l.initial.unit.memory
