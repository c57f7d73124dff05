-- The words of the law, by the calls since the unit was made and their answers alone. A history has the newest first.
use Rattle.std.specs.Prelude.{◌≡◌, ℕ, zero, suc, ◌+◌, ◌*◌, ◌<◌, Bool, true, false, cond, List, [], ◌∷◌, map, length, Some, None, Option, ◌==◌, nat_lt, slice_index, slice_index_or}
use Rattle.std.specs.List.{range_with_len}
use Rattle.image.specs.Reading.{head_in, record_in}
use Rattle.life.specs.declared.Answer.{Answer}
use Rattle.life.specs.declared.Answer.TheVariants.{Done}
use Rattle.life.specs.declared.Call.{Call}
use Rattle.life.specs.declared.Call.TheVariants.{Load}
use Rattle.life.specs.declared.Condition.{Condition}
use Rattle.life.specs.declared.Condition.TheVariants.{Unkeyed, Live, Locked}
use Rattle.life.specs.Coding.{tells}
use Rattle.life.specs.Checks.{Program, Known}
use Rattle.life.specs.Deeds.{Deed, deed_of}
use Rattle.life.specs.Deeds.Deed.{loaded, installed, overwrote, rejected, nothing}

-- a call and its answer
pub record Event : Type 0 where
  pub call : Call
  pub answer : Answer

abbrev pub event : Call → Answer → Event
event c r = record { call = c; answer = r }

abbrev pub deed : Event → Deed
deed e = deed_of e.call (tells e.answer)

-- ---- the key
-- the key of the last accepted load
abbrev pub key_after : Deed → Option ℕ → Option ℕ
key_after (loaded key) o = Some key
key_after (installed image) o = o
key_after (overwrote slot number) o = o
key_after rejected o = o
key_after nothing o = o

abbrev pub key_in : List Event → Option ℕ
key_in [] = None
key_in (e ∷ h) = key_after (deed e) (key_in h)

-- the rejections answered since the last accepted load
abbrev pub rejections_after : Deed → ℕ → ℕ
rejections_after (loaded key) n = 0
rejections_after (installed image) n = n
rejections_after (overwrote slot number) n = n
rejections_after rejected n = n + 1
rejections_after nothing n = n

abbrev pub rejections : List Event → ℕ
rejections [] = 0
rejections (e ∷ h) = rejections_after (deed e) (rejections h)

-- the key is live: one was loaded, and fewer than four rejections were answered since
abbrev pub live_by : Option ℕ → ℕ → Bool
live_by (Some key) n = nat_lt n 4
live_by None n = false

abbrev pub live : List Event → Bool
live h = live_by (key_in h) (rejections h)

abbrev pub condition_by : Option ℕ → ℕ → Condition
condition_by (Some key) n = cond (nat_lt n 4) Live Locked
condition_by None n = Unkeyed

abbrev pub condition_in : List Event → Condition
condition_in h = condition_by (key_in h) (rejections h)

-- the key that the cipher has: as it came, until a key is loaded; then that key, and zero when locked
abbrev pub cipher_key_by : ℕ → Option ℕ → ℕ → ℕ
cipher_key_by first (Some key) n = cond (nat_lt n 4) key 0
cipher_key_by first None n = first

abbrev pub cipher_key_in : ℕ → List Event → ℕ
cipher_key_in first h = cipher_key_by first (key_in h) (rejections h)

-- ---- the program
-- the image of the last accepted install since the last accepted load
abbrev pub image_after : Deed → Option (List ℕ) → Option (List ℕ)
image_after (loaded key) o = None
image_after (installed image) o = Some image
image_after (overwrote slot number) o = o
image_after rejected o = o
image_after nothing o = o

abbrev pub image_in : List Event → Option (List ℕ)
image_in [] = None
image_in (e ∷ h) = image_after (deed e) (image_in h)

abbrev pub program_of : Option (List ℕ) → Option Program
program_of (Some image) = Some (record { version = (head_in image).version; base = (head_in image).base; count = (head_in image).count })
program_of None = None

abbrev pub program_in : List Event → Option Program
program_in h = program_of (image_in h)

-- address a is installed: it is that of record `slot` of the image
pub record Installed (h : List Event) (a : ℕ) : Type 0 where
  pub image : List ℕ
  pub last : image_in h ≡ Some image
  pub slot : ℕ
  pub within : slot < (head_in image).count
  pub address : a ≡ 4 * ((head_in image).base + slot)

-- ---- the slots
-- what slot s holds: what the memory held at first, until an accepted install or overwrite writes it anew
abbrev pub slot_after : ℕ → Deed → ℕ → ℕ
slot_after s (loaded key) n = n
slot_after s (installed image) n = cond (nat_lt s (head_in image).count) (record_in image (head_in image) s) n
slot_after s (overwrote slot number) n = cond (s == slot) number n
slot_after s rejected n = n
slot_after s nothing n = n

abbrev pub slot_in : List ℕ → List Event → ℕ → ℕ
slot_in start [] s = slice_index start s
slot_in start (e ∷ h) s = slot_after s (deed e) (slot_in start h s)

abbrev pub slots_in : List ℕ → List Event → List ℕ
slots_in start h = map (slot_in start h) (range_with_len 0 (length start))

-- whether slot s was overwritten since the last accepted install
abbrev pub overwritten_after : ℕ → Deed → Bool → Bool
overwritten_after s (loaded key) b = b
overwritten_after s (installed image) b = false
overwritten_after s (overwrote slot number) b = cond (s == slot) true b
overwritten_after s rejected b = b
overwritten_after s nothing b = b

abbrev pub overwritten : ℕ → List Event → Bool
overwritten s [] = false
overwritten s (e ∷ h) = overwritten_after s (deed e) (overwritten s h)

-- ---- what the checks go by
abbrev pub live_key_by : Option ℕ → ℕ → Option ℕ
live_key_by (Some key) n = cond (nat_lt n 4) (Some key) None
live_key_by None n = None

abbrev pub known_in : List ℕ → List Event → Known
known_in start h = record { key = live_key_by (key_in h) (rejections h); program = program_in h; held = slots_in start h }

-- the first n of the calls with their answers
abbrev pub past : List Call → List Answer → ℕ → List Event
past calls answers zero = []
past calls answers (suc n) = event (slice_index_or calls n (Load 0)) (slice_index_or answers n Done) ∷ past calls answers n
