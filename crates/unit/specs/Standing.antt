-- How a unit stands, and its program, as the machine tells them.
use Rattle.std.specs.Prelude.{ℕ, Some, None, Option}
use Rattle.image.specs.declared.header.Header.{Header}
use Rattle.life.specs.declared.Condition.{Condition}
use Rattle.life.specs.declared.Condition.TheVariants as is
use Rattle.unit.specs.declared.standing.Standing.{Standing}
use Rattle.unit.specs.declared.standing.Standing.TheVariants.{Unkeyed, Live, Locked}

abbrev pub condition_of : Standing → Condition
condition_of Unkeyed = is.Unkeyed
condition_of (Live strikes) = is.Live
condition_of Locked = is.Locked

-- the strikes since the last accepted load; the fourth locked the unit
abbrev pub strikes_of : Standing → ℕ
strikes_of Unkeyed = 0
strikes_of (Live strikes) = strikes
strikes_of Locked = 4

-- those that a live unit has had
abbrev pub live_strikes : Standing → ℕ
live_strikes Unkeyed = 0
live_strikes (Live strikes) = strikes
live_strikes Locked = 0

-- the version in force, the first address in words and the number of records, 0 without a program
abbrev pub version_in : Option Header → Option ℕ
version_in (Some h) = Some h.version
version_in None = None

abbrev pub base_in : Option Header → ℕ
base_in (Some h) = h.base
base_in None = 0

abbrev pub count_in : Option Header → ℕ
count_in (Some h) = h.count
count_in None = 0
