-- A unit's fields as the machine's state.
use Rattle.std.specs.Prelude.{◌≡◌, ℕ, List, length, Ok, Err, Option, Result}
use Rattle.cipher.specs.declared.WordCipher.{Ghosts as WordCipher}
use Rattle.memory.specs.declared.Memory.{Ghosts as Memory}
use Rattle.image.specs.Reading.{or_else}
use Rattle.refusal.specs.declared.Refusal.{Refusal}
use Rattle.unit.specs.declared.unit_core.Core.{Core}
use Rattle.unit.specs.declared.unit.Unit.{Unit}
use Rattle.unit.specs.Standing.{condition_of, strikes_of, version_in, base_in, count_in}
use Rattle.life.specs.Coding.{coding}
pub use Rattle.life.specs.Coding.{suite_of}
use Rattle.life.specs.declared.sealed.Sealed.{Sealed}
use Rattle.life.specs.Checks.{stale_refusal, size_refusal, foul_from, install_refusal, fetch_row}
use Rattle.life.specs.Records.{opens}
use Rattle.life.specs.State.{CoreState, State, Did, known_by, strikes_left_of}
use Rattle.life.specs.Life.{Step}
use Rattle.life.specs.declared.Answer.{Answer}
use Rattle.life.specs.declared.Answer.TheVariants.{Instruction, Refused}
use Rattle.life.specs.declared.Call.{Call}
use Rattle.life.specs.declared.Status.{Status}

abbrev pub core_of : {C : Type 0} → WordCipher C → Core C → CoreState
core_of c u = record {
  condition = condition_of u.standing;
  key = c.key_of u.cipher;
  strikes = strikes_of u.standing;
  version = version_in u.program;
  base = base_in u.program;
  count = count_in u.program;
}

abbrev pub state_of : {C M : Type 0} → WordCipher C → Memory M → Unit C M → State
state_of c m u = record { core = core_of c u.core; held = m.held u.memory }

-- ---- what a live core answers
-- the first refusal that fits an image, with so many slots
abbrev pub install_refusal_by : {C : Type 0} → WordCipher C → Core C → ℕ → List ℕ → Option Refusal
install_refusal_by c u slots image = install_refusal (coding (suite_of c u.cipher)) (c.key_of u.cipher) (version_in u.program) slots image

-- and that fits an image that was read
abbrev pub sealed_refusal : {C : Type 0} → WordCipher C → Core C → ℕ → Sealed C → Option Refusal
sealed_refusal c u slots s =
    or_else (stale_refusal (version_in u.program) s.header.version)
    (or_else (size_refusal slots s.header.count)
    (foul_from (opens c s) 0 s.header.count))

-- the row of a fetch, with those numbers in the slots
abbrev pub fetch_row_by : {C : Type 0} → WordCipher C → Core C → List ℕ → ℕ → Answer
fetch_row_by c u held address = fetch_row (coding (suite_of c u.cipher)) (c.key_of u.cipher) (known_by (core_of c u) held).program held address

abbrev pub fetched : Result ℕ Refusal → Answer
fetched (Ok i) = Instruction i
fetched (Err e) = Refused e

-- what a unit tells of itself
abbrev pub status_of : State → Status
status_of s = record {
  slots = length s.held;
  installed = s.core.count;
  strikes_left = strikes_left_of s.core.condition s.core.strikes;
  in_force = s.core.version;
}

-- a core before and after, as f turns it, its cipher's rule, mode and tag length as they were
pub record Turned {C : Type 0} (c : WordCipher C) (f : CoreState → CoreState) (before after : Core C) : Type 0 where
  pub core : core_of c after ≡ f (core_of c before)
  pub suite : suite_of c after.cipher ≡ suite_of c before.cipher

-- what no call changes: the cipher's rule, mode and tag length, and the rest of the memory
pub record Keeps {C M : Type 0} (c : WordCipher C) (m : Memory M) (cipher : C) (memory : M) (u : Unit C M) : Type 0 where
  pub suite : suite_of c u.core.cipher ≡ suite_of c cipher
  pub rest : m.rest u.memory ≡ m.rest memory

-- what a call does to a unit
pub record Does {C M : Type 0} (c : WordCipher C) (m : Memory M) (before : Unit C M) (call : Call) (answer : Answer) (after : Unit C M) : Type 0 where
  pub machine : Did (suite_of c before.core.cipher) (state_of c m before) call answer (suite_of c after.core.cipher) (state_of c m after)
  pub rest : m.rest after.memory ≡ m.rest before.memory

-- the law of a unit's life
abbrev pub Lives : {C M : Type 0} → WordCipher C → Memory M → Unit C M → Call → Answer → Unit C M → Type 0
Lives c m before call answer after =
    Step (suite_of c before.core.cipher) (state_of c m before) call answer (suite_of c after.core.cipher) (state_of c m after)
