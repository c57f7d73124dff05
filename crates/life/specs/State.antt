-- The machine: what a unit is to its reader, and what each call answers and changes.
use Rattle.std.specs.Prelude.{◌≡◌, ℕ, ◌+◌, ◌-◌, min, cond, List, ◌++◌, length, drop, Some, None, Option, nat_lt, slice_set}
use Rattle.image.specs.Layout.{Head}
use Rattle.image.specs.Reading.{head_in, records_in}
use Rattle.life.specs.declared.Answer.{Answer}
use Rattle.life.specs.declared.Call.{Call}
use Rattle.life.specs.declared.Condition.{Condition}
use Rattle.life.specs.declared.Condition.TheVariants.{Unkeyed, Live, Locked}
use Rattle.life.specs.Coding.{Coding, Suite, coding, tells}
use Rattle.life.specs.Checks.{Program, Known, row_of}
use Rattle.life.specs.Deeds.{Deed, deed_of}
use Rattle.life.specs.Deeds.Deed.{loaded, installed, overwrote, rejected, nothing}

-- a unit without its memory: the key is the cipher's; base and count are the installed program's, and 0 without one
pub record CoreState : Type 0 where
  pub condition : Condition
  pub key : ℕ
  pub strikes : ℕ
  pub version : Option ℕ
  pub base : ℕ
  pub count : ℕ

-- and with it: the number in each slot
pub record State : Type 0 where
  pub core : CoreState
  pub held : List ℕ

-- a unit when it is made
abbrev pub unkeyed : ℕ → CoreState
unkeyed key = record { condition = Unkeyed; key = key; strikes = 0; version = None; base = 0; count = 0 }

abbrev pub fresh : ℕ → List ℕ → State
fresh key held = record { core = unkeyed key; held = held }

abbrev pub live_key : Condition → ℕ → Option ℕ
live_key Unkeyed key = None
live_key Live key = Some key
live_key Locked key = None

abbrev pub program_by : Option ℕ → ℕ → ℕ → Option Program
program_by (Some version) base count = Some (record { version = version; base = base; count = count })
program_by None base count = None

-- what the checks go by; an address whose slot the memory does not have counts as not installed
abbrev pub known_by : CoreState → List ℕ → Known
known_by s held = record {
  key = live_key s.condition s.key;
  program = program_by s.version s.base (min s.count (length held));
  held = held;
}

abbrev pub answer_of : Coding → State → Call → Answer
answer_of c s call = row_of c (known_by s.core s.held) call

-- one strike more; at the fourth the unit is locked and the cipher's key is zero
abbrev pub struck : CoreState → CoreState
struck s =
    cond (nat_lt s.strikes 3)
    (record { condition = s.condition; key = s.key; strikes = s.strikes + 1; version = s.version; base = s.base; count = s.count })
    (record { condition = Locked; key = 0; strikes = s.strikes + 1; version = s.version; base = s.base; count = s.count })

-- the program of a header is installed
abbrev pub placed : Head → CoreState → CoreState
placed h s = record {
  condition = s.condition;
  key = s.key;
  strikes = s.strikes;
  version = Some h.version;
  base = h.base;
  count = h.count;
}

abbrev pub core_after : Deed → CoreState → CoreState
core_after (loaded key) s = record { condition = Live; key = key; strikes = 0; version = None; base = 0; count = 0 }
core_after (installed image) s = placed (head_in image) s
core_after (overwrote slot number) s = s
core_after rejected s = struck s
core_after nothing s = s

abbrev pub held_after : Deed → List ℕ → List ℕ
held_after (loaded key) held = held
held_after (installed image) held = records_in image (head_in image) ++ drop (head_in image).count held
held_after (overwrote slot number) held = slice_set held slot number
held_after rejected held = held
held_after nothing held = held

abbrev pub after : Deed → State → State
after d s = record { core = core_after d s.core; held = held_after d s.held }

-- the state after a call, by its answer
abbrev pub next : State → Call → Answer → State
next s call answer = after (deed_of call (tells answer)) s

-- what one call does: its answer, the state after it, and the cipher's rule, mode and tag length as they were
pub record Did (u : Suite) (s : State) (call : Call) (answer : Answer) (u' : Suite) (s' : State) : Type 0 where
  pub answers : answer ≡ answer_of (coding u) s call
  pub becomes : s' ≡ next s call answer
  pub suite : u' ≡ u

-- the strikes before the lock, none without a live key
abbrev pub strikes_left_of : Condition → ℕ → ℕ
strikes_left_of Unkeyed strikes = 0
strikes_left_of Live strikes = 4 - strikes
strikes_left_of Locked strikes = 0
