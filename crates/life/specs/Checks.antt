-- The row of checks of each call.
use Rattle.std.specs.Prelude.{ℕ, zero, suc, ◌+◌, ◌-◌, ◌*◌, ◌/◌, ◌%◌, Bool, cond, ◌&&◌, List, length, Some, None, Ok, Err, Option, Result, ◌==◌, nat_le, nat_lt, slice_index}
use Rattle.refusal.specs.declared.Refusal.{Refusal}
use Rattle.refusal.specs.declared.Refusal.TheVariants.{NoKey, Stale, TooBig, FoulRecord, Odd, OffMap, Rejected, KeyInUse}
use Rattle.refusal.specs.Table.{version_or0}
use Rattle.memory.specs.Slots.{write_of}
use Rattle.image.specs.Layout.{Head}
use Rattle.image.specs.Reading.{head_in, record_in, foreign_refusal, or_else, refusal_of}
use Rattle.life.specs.declared.Call.{Call}
use Rattle.life.specs.declared.Call.TheVariants.{Load, Install, Fetch, Overwrite}
use Rattle.life.specs.declared.Answer.{Answer}
use Rattle.life.specs.declared.Answer.TheVariants.{Done, Instruction, Refused}
use Rattle.life.specs.Coding.{Coding, opened_at}

-- the program that is installed: its version, its first address in words, and the number of its instructions
pub record Program : Type 0 where
  pub version : ℕ
  pub base : ℕ
  pub count : ℕ

-- what the checks go by: the key if it is live, the program if one is installed, and the number in each slot
pub record Known : Type 0 where
  pub key : Option ℕ
  pub program : Option Program
  pub held : List ℕ

abbrev pub version_of : Option Program → Option ℕ
version_of (Some p) = Some p.version
version_of None = None

-- ---- install
abbrev pub stale_refusal : Option ℕ → ℕ → Option Refusal
stale_refusal in_force version = cond (nat_lt (version_or0 in_force) version) None (Some (Stale in_force))

abbrev pub size_refusal : ℕ → ℕ → Option Refusal
size_refusal slots count = cond (nat_le count slots) None (Some (TooBig slots))

-- what record k yields at its address
abbrev pub record_opens : Coding → ℕ → List ℕ → Head → ℕ → Option ℕ
record_opens c key bytes h k = opened_at c key h.version (4 * (h.base + k)) (record_in bytes h k)

abbrev pub passes : Option ℕ → ℕ → Option Refusal → Option Refusal
passes (Some i) k rest = rest
passes None k rest = Some (FoulRecord k)

-- the first of n records from k on that yields nothing
unfoldable pub foul_from : (ℕ → Option ℕ) → ℕ → ℕ → Option Refusal
foul_from opens k zero = None
foul_from opens k (suc n) = passes (opens k) k (foul_from opens (k + 1) n)

abbrev pub foul_refusal : Coding → ℕ → List ℕ → Head → Option Refusal
foul_refusal c key bytes h = foul_from (record_opens c key bytes h) 0 h.count

-- the first refusal that fits a good image, under a live key, with that version in force and so many slots
abbrev pub program_refusal : Coding → ℕ → Option ℕ → ℕ → List ℕ → Head → Option Refusal
program_refusal c key in_force slots bytes h =
    or_else (foreign_refusal c.mode c.tag h)
    (or_else (stale_refusal in_force h.version)
    (or_else (size_refusal slots h.count)
    (foul_refusal c key bytes h)))

-- and any bytes
abbrev pub install_refusal : Coding → ℕ → Option ℕ → ℕ → List ℕ → Option Refusal
install_refusal c key in_force slots bytes =
    or_else (refusal_of bytes) (program_refusal c key in_force slots bytes (head_in bytes))

abbrev pub answered : Option Refusal → Answer
answered (Some e) = Refused e
answered None = Done

-- ---- fetch
-- whether a program has an address that is a multiple of 4, and the slot of such an address
abbrev pub on_map : Program → ℕ → Bool
on_map p address = nat_le p.base (address / 4) && nat_lt (address / 4 - p.base) p.count

abbrev pub slot_of : Program → ℕ → ℕ
slot_of p address = address / 4 - p.base

abbrev pub decoded : Option ℕ → ℕ → Answer
decoded (Some i) address = Instruction i
decoded None address = Refused (Rejected address)

abbrev pub fetch_answer : Coding → ℕ → Option Program → List ℕ → ℕ → Answer
fetch_answer c key None held address = Refused (OffMap address)
fetch_answer c key (Some p) held address =
    cond (on_map p address) (decoded (opened_at c key p.version address (slice_index held (slot_of p address))) address) (Refused (OffMap address))

abbrev pub fetch_row : Coding → ℕ → Option Program → List ℕ → ℕ → Answer
fetch_row c key program held address = cond (address % 4 == 0) (fetch_answer c key program held address) (Refused (Odd address))

-- ---- every call
abbrev pub write_answer : Result (Unit {0}) Refusal → Answer
write_answer (Ok _) = Done
write_answer (Err e) = Refused e

abbrev pub unkeyed_row : Known → Call → Answer
unkeyed_row K (Load key) = Done
unkeyed_row K (Install image) = Refused NoKey
unkeyed_row K (Fetch address) = Refused NoKey
unkeyed_row K (Overwrite slot number) = write_answer (write_of K.held slot number)

abbrev pub keyed_row : Coding → ℕ → Known → Call → Answer
keyed_row c key K (Load _) = Refused KeyInUse
keyed_row c key K (Install image) = answered (install_refusal c key (version_of K.program) (length K.held) image.now)
keyed_row c key K (Fetch address) = fetch_row c key K.program K.held address
keyed_row c key K (Overwrite slot number) = write_answer (write_of K.held slot number)

abbrev pub row_by : Option ℕ → Coding → Known → Call → Answer
row_by None c K call = unkeyed_row K call
row_by (Some key) c K call = keyed_row c key K call

-- the answer to a call, by its row of checks
abbrev pub row_of : Coding → Known → Call → Answer
row_of c K call = row_by K.key c K call
