-- Drafts: what opening, putting and closing answer, and what they write.
use Rattle.std.specs.Prelude.{◌≡◌, ℕ, ◌+◌, ◌-◌, ◌*◌, ◌^◌, Bool, cond, ◌||◌, List, length, Some, None, Option, Result, MatchResult, ◌==◌, nat_le, nat_lt}
use Rattle.bits.specs.Field.{Written}
use Rattle.cipher.specs.declared.Mode.{Mode}
use Rattle.cipher.specs.declared.WordCipher.{Ghosts as WordCipher}
use Rattle.cipher.specs.Word.{Rule, tweak_of}
use Rattle.image.specs.Layout.{Head, head_fields, head_bits, record_bits, joined, end_of, image_length}
use Rattle.image.specs.Reading.{foreign_to, head_of}
use Rattle.refusal.specs.declared.Refusal.{Refusal}
use Rattle.refusal.specs.declared.Refusal.TheVariants.{Foreign, BadDraft, ShortBuffer, DraftFull, DraftShort}
use Rattle.shore.specs.declared.draft.Draft.{Draft}
use Rattle.shore.specs.declared.draft.ClosedDraft.{ClosedDraft}
use Rattle.shore.specs.declared.draft.HandedBack.{HandedBack}

-- a cipher under its key, as the calls use it
pub record KeyedCipher : Type 0 where
  pub rule : Rule
  pub mode : Mode
  pub tag : ℕ
  pub key : ℕ

abbrev pub keyed_by : {S : Type 0} → WordCipher S → S → KeyedCipher
keyed_by w s = record { rule = w.rule s; mode = w.mode_of s; tag = w.tag_of s; key = w.key_of s }

-- the stored number of an instruction, for a version and an address in words
abbrev pub encryption : KeyedCipher → ℕ → ℕ → ℕ → ℕ
encryption c version word instruction =
    c.rule c.key c.mode c.tag (tweak_of version (4 * word)) instruction

-- the header of a draft that is opened with this cipher
abbrev pub head_for : KeyedCipher → ℕ → ℕ → ℕ → Head
head_for c version base count =
    record { mode = c.mode; tag = c.tag; version = version; base = base; count = count }

-- what a draft says
abbrev pub draft_head : Draft → Head
draft_head d = head_of d.header

-- ---- the refusals of each call, in the order in which they are tried
abbrev pub bad_draft : ℕ → ℕ → ℕ → Bool
bad_draft version base count =
    (version == 0) || nat_lt 255 version || count == 0 || nat_lt 1048575 count || nat_lt (2 ^ 30) (base + count)

-- the buffer is shorter than the image
abbrev pub short_refusal : Head → List ℕ → Option Refusal
short_refusal h buffer = cond (nat_lt (length buffer) (image_length h)) (Some (ShortBuffer (image_length h))) None

-- the mode or the tag length of the cipher is not the draft's
abbrev pub foreign : KeyedCipher → Head → Bool
foreign c h = foreign_to c.mode c.tag h

abbrev pub open_refusal : KeyedCipher → ℕ → ℕ → ℕ → List ℕ → Option Refusal
open_refusal c version base count buffer =
    cond (bad_draft version base count) (Some BadDraft) (short_refusal (head_for c version base count) buffer)

abbrev pub put_refusal : KeyedCipher → Draft → List ℕ → Option Refusal
put_refusal c d buffer =
    cond (nat_le (draft_head d).count d.put) (Some (DraftFull d.put))
    (cond (foreign c (draft_head d)) (Some Foreign)
    (short_refusal (draft_head d) buffer))

abbrev pub close_refusal : Draft → List ℕ → Option Refusal
close_refusal d buffer =
    cond (nat_lt d.put (draft_head d).count) (Some (DraftShort d.put)) (short_refusal (draft_head d) buffer)

-- ---- what each call does: a buffer before and after it, and its answer
-- a refusal that hands the draft back: the draft and the buffer are as they were
abbrev pub Refused : Option Refusal → Draft → List ℕ → List ℕ → HandedBack → Type 0
Refused row d before after e = (row ≡ Some e.refusal) × (e.draft ≡ d) × (after ≡ before)

-- a draft with no word put, and the header written
pub record Opened (c : KeyedCipher) (version base count : ℕ) (before after : List ℕ) (d : Draft) : Type 0 where
  pub accepted : open_refusal c version base count before ≡ None
  pub head : draft_head d ≡ head_for c version base count
  pub none : d.put ≡ 0
  pub written : Written before after 0 head_bits (joined (head_fields (head_for c version base count)) 0)

abbrev pub Opens : KeyedCipher → ℕ → ℕ → ℕ → List ℕ → List ℕ → Result Draft Refusal → Type 0
Opens c version base count before after r =
    MatchResult r (Opened c version base count before after)
    (λ e. (open_refusal c version base count before ≡ Some e) × (after ≡ before))

-- one word more is put, and its record written
pub record Advanced (c : KeyedCipher) (d : Draft) (instruction : ℕ) (before after : List ℕ) (next : Draft) : Type 0 where
  pub accepted : put_refusal c d before ≡ None
  pub head : draft_head next ≡ draft_head d
  pub more : next.put ≡ d.put + 1
  pub written : Written before after (head_bits + d.put * record_bits (draft_head d)) (record_bits (draft_head d)) (encryption c (draft_head d).version ((draft_head d).base + d.put) instruction)

abbrev pub Puts : KeyedCipher → Draft → ℕ → List ℕ → List ℕ → Result Draft HandedBack → Type 0
Puts c d instruction before after r =
    MatchResult r (Advanced c d instruction before after) (Refused (put_refusal c d before) d before after)

-- what a closed draft says of an image with this header
pub record Tells (h : Head) (closed : ClosedDraft) : Type 0 where
  pub version : closed.version ≡ h.version
  pub base : closed.base ≡ h.base
  pub count : closed.count ≡ h.count
  pub length : closed.length ≡ image_length h

-- the pad bits are zero, and the closed draft tells what was made
pub record Closed (d : Draft) (before after : List ℕ) (closed : ClosedDraft) : Type 0 where
  pub accepted : close_refusal d before ≡ None
  pub told : Tells (draft_head d) closed
  pub written : Written before after (end_of (draft_head d)) (8 * image_length (draft_head d) - end_of (draft_head d)) 0

abbrev pub Closes : Draft → List ℕ → List ℕ → Result ClosedDraft HandedBack → Type 0
Closes d before after r = MatchResult r (Closed d before after) (Refused (close_refusal d before) d before after)
