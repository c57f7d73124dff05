use Rattle.std.proofs.Common.{◌≡◌, ◌≤◌, ◌++◌, take, drop}
use Rattle.image.specs.Reading.{head_of, records_in}
use Rattle.unit.proofs.slots.write_records.Given as goal

abbrev pub invariant-loop-index : goal.invariant-loop-index
invariant-loop-index g l =
    let M = g.M.Memory in
    (M.held l.memory ≡ take l.index (records_in l.image (head_of l.header)) ++ drop l.index (M.held l.initial.memory))
    × (M.rest l.memory ≡ M.rest l.initial.memory)
    × (l.header.count ≤ l.index → M.held l.memory ≡ records_in l.image (head_of l.header) ++ drop l.header.count (M.held l.initial.memory))
