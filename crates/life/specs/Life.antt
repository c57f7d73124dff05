-- The law of a unit's life.
use Rattle.std.specs.Prelude.{◌≡◌, ℕ, ◌^◌, ◌<◌, ◌≤◌, min, true, false, List, [], ◌∷◌, length, Some, None, Option, slice_index, slice_index_or}
use Rattle.refusal.specs.declared.Refusal.TheVariants.{KeyInUse}
use Rattle.refusal.specs.Table.{note_of}
use Rattle.image.specs.Reading.{head_in}
use Rattle.shore.specs.Making.{Made}
use Rattle.life.specs.declared.Answer.{Answer}
use Rattle.life.specs.declared.Answer.TheVariants.{Done}
use Rattle.life.specs.declared.Call.{Call}
use Rattle.life.specs.declared.Call.TheVariants.{Load, Fetch}
use Rattle.life.specs.Coding.{Coding, Suite, coding, sealed_at, tells}
use Rattle.life.specs.Coding.Told.{yielded, refused}
use Rattle.life.specs.Checks.{version_of, record_opens, row_of}
use Rattle.life.specs.State.{State}
use Rattle.life.specs.History.{Event, event, key_in, rejections, live, condition_in, cipher_key_in, image_in, program_in, Installed, slot_in, overwritten, known_in, past}

-- address a yields instruction i: the key is live, the address is installed, and its slot holds the encryption of i
-- under the key, the address and the version
pub record Yields (c : Coding) (start : List ℕ) (h : List Event) (a i : ℕ) : Type 0 where
  pub alive : live h ≡ true
  pub key : ℕ
  pub loaded : key_in h ≡ Some key
  pub at : Installed h a
  pub word : i < 2 ^ 32
  pub holds : slot_in start h at.slot ≡ sealed_at c key (head_in at.image).version a i

-- the key is live, address a is installed, and its slot was not overwritten since the last accepted install
pub record Untouched (h : List Event) (a : ℕ) : Type 0 where
  pub alive : live h ≡ true
  pub key : ℕ
  pub loaded : key_in h ≡ Some key
  pub at : Installed h a
  pub kept : overwritten at.slot h ≡ false

-- how a call is answered after the history h, with `start` in the slots at first
pub record Law (c : Coding) (start : List ℕ) (h : List Event) (call : Call) (answer : Answer) : Type 0 where
  -- every call is answered as its row of checks says, by what the history tells
  pub row : tells answer ≡ tells (row_of c (known_in start h) call)
  -- a fetch yields an instruction exactly when the address yields it
  pub fetched : (a i : ℕ) → call ≡ Fetch a → tells answer ≡ yielded i → Yields c start h a i
  pub yields : (a i : ℕ) → call ≡ Fetch a → Yields c start h a i → tells answer ≡ yielded i
  -- an installed address that is untouched yields what its record decrypts to, and the record does decrypt
  pub keeps : (a : ℕ) → call ≡ Fetch a → (u : Untouched h a)
      → (i : ℕ) × (record_opens c u.key u.at.image (head_in u.at.image) u.at.slot ≡ Some i) × (tells answer ≡ yielded i)
  -- and where the shore tool made the image with the same cipher and key, the very instruction put in
  pub made : (a : ℕ) → call ≡ Fetch a → (u : Untouched h a) → (version base : ℕ) (instructions : List ℕ)
      → Made (record { rule = c.rule; mode = c.mode; tag = c.tag; key = u.key }) version base instructions u.at.image
      → tells answer ≡ yielded (slice_index instructions u.at.slot)
  -- a load is refused because the key is in use exactly when the key is live
  pub in_use : (k : ℕ) → call ≡ Load k → tells answer ≡ refused (note_of KeyInUse) → live h ≡ true
  pub is_live : (k : ℕ) → call ≡ Load k → live h ≡ true → tells answer ≡ refused (note_of KeyInUse)

-- every call of a history was answered as its row of checks says
abbrev pub Answered : Coding → List ℕ → List Event → Type 0
Answered c start [] = Unit {0}
Answered c start (e ∷ h) = (tells e.answer ≡ tells (row_of c (known_in start h) e.call)) × Answered c start h

abbrev pub base_of : Option (List ℕ) → ℕ
base_of (Some image) = (head_in image).base
base_of None = 0

abbrev pub count_of : Option (List ℕ) → ℕ
count_of (Some image) = (head_in image).count
count_of None = 0

-- a unit is what the history says, with `start` in the slots and `first` the cipher's key when it was made
pub record Agrees (c : Coding) (first : ℕ) (start : List ℕ) (h : List Event) (s : State) : Type 0 where
  pub answered : Answered c start h
  -- unkeyed before the first accepted load, live while the key is live, and locked then
  pub condition : s.core.condition ≡ condition_in h
  pub strikes : s.core.strikes ≡ rejections h
  -- the cipher has the key of the last accepted load while it is live, and zero when locked
  pub key : s.core.key ≡ cipher_key_in first h
  -- the version in force and the addresses are those of the installed image
  pub version : s.core.version ≡ version_of (program_in h)
  pub base : s.core.base ≡ base_of (image_in h)
  pub count : s.core.count ≡ count_of (image_in h)
  -- the memory holds in each slot what the history says
  pub slots : length s.held ≡ length start
  pub holds : (j : ℕ) → j < length start → slice_index s.held j ≡ slot_in start h j

-- one call under the law, whatever came before it
abbrev pub Step : Suite → State → Call → Answer → Suite → State → Type 0
Step u s call answer u' s' =
    (first : ℕ) (start : List ℕ) (h : List Event) → Agrees (coding u) first start h s
    → Law (coding u) start h call answer × Agrees (coding u') first start (event call answer ∷ h) s'

-- a whole life: as many of the calls as there are places for answers, in order
abbrev pub performed : List Call → List Answer → ℕ
performed calls answers = min (length calls) (length answers)

pub record Life (c : Coding) (first : ℕ) (start : List ℕ) (calls : List Call) (before answers : List Answer) (s : State) : Type 0 where
  -- each call obeys the law after those before it
  pub law : (n : ℕ) → n < performed calls before → Law c start (past calls answers n) (slice_index_or calls n (Load 0)) (slice_index_or answers n Done)
  -- the unit is what the whole history says
  pub ends : Agrees c first start (past calls answers (performed calls before)) s
  -- there are as many places as there were, and those past the calls are as they were
  pub places : length answers ≡ length before
  pub others : (n : ℕ) → performed calls before ≤ n → slice_index_or answers n Done ≡ slice_index_or before n Done
