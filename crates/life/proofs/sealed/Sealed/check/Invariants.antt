use Rattle.std.proofs.Common.{◌≡◌, ◌-◌, ◌≤◌, None}
use Rattle.life.specs.Checks.{foul_from}
use Rattle.life.specs.Records.{opens}
use Rattle.life.proofs.sealed.Sealed.check.Given as goal

-- the records before those still to come were good
abbrev pub invariant-loop-index : goal.invariant-loop-index
invariant-loop-index g l =
    let yield_at = opens g.C.WordCipher l.self in
    let asked = l.fn.records in
    let left = l.index-iterator in
    let found = foul_from yield_at asked.start (asked.end - asked.start) in
    record {
      come : foul_from yield_at left.start (asked.end - left.start) ≡ found;
      same : left.end ≡ l.initial.index-iterator.end;
      within : left.end ≤ asked.end;
      over : asked.end ≤ left.start → None ≡ found;
    }
