-- What a chain of accepted calls makes.
use Rattle.std.specs.Prelude.{◌≡◌, ℕ, ◌+◌, ◌*◌, ◌^◌, ◌<◌, ◌≤◌, List, [], ◌∷◌, map, length, take, Some, None, Ok, Result, MatchResult, slice_index}
use Rattle.std.specs.List.{range_with_len}
use Rattle.bits.specs.Field.{bit_in}
use Rattle.cipher.specs.Word.{Lawful}
use Rattle.image.specs.Layout.{layout}
use Rattle.refusal.specs.declared.Refusal.{Refusal}
use Rattle.shore.specs.declared.draft.Draft.{Draft}
use Rattle.shore.specs.declared.draft.ClosedDraft.{ClosedDraft}
use Rattle.shore.specs.Drafting.{KeyedCipher, encryption, head_for, open_refusal, Tells, Opens, Puts, Closes}

-- the instructions are put one after the other, from one draft and buffer to another
abbrev pub PutAll : KeyedCipher → Draft → List ℕ → List ℕ → Draft → List ℕ → Type 0
PutAll c d before [] e after = (e ≡ d) × (after ≡ before)
PutAll c d before (i ∷ is) e after =
    (next : Draft) × ((mid : List ℕ) × (Puts c d i before mid (Ok next) × PutAll c next mid is e after))

-- the image is what an opened draft, these puts and a close left at the start of one buffer
pub record Made (c : KeyedCipher) (version base : ℕ) (instructions image : List ℕ) : Type 0 where
  pub count : ℕ
  pub first : List ℕ
  pub headed : List ℕ
  pub written : List ℕ
  pub last : List ℕ
  pub opened : Draft
  pub filled : Draft
  pub closed : ClosedDraft
  pub opens : Opens c version base count first headed (Ok opened)
  pub puts : PutAll c opened headed instructions filled written
  pub closes : Closes filled written last (Ok closed)
  pub is : image ≡ take closed.length last
  pub words : (k : ℕ) → k < length instructions → slice_index instructions k < 2 ^ 32

-- the stored numbers of the instructions, the first at the base
abbrev pub encryptions : KeyedCipher → ℕ → ℕ → List ℕ → List ℕ
encryptions c version base instructions =
    map (λ k. encryption c version (base + k) (slice_index instructions k)) (range_with_len 0 (length instructions))

abbrev pub image_of : KeyedCipher → ℕ → ℕ → List ℕ → List ℕ
image_of c version base instructions =
    layout (head_for c version base (length instructions)) (encryptions c version base instructions)

-- what a lawful cipher's chain makes is the layout of the encryptions, and nothing else
abbrev pub MadeIsImage : Type 0
MadeIsImage =
    (c : KeyedCipher) (version base : ℕ) (instructions image : List ℕ)
    → Lawful c.rule c.mode c.tag → c.key < 2 ^ 128 → Made c version base instructions image
    → ((k : ℕ) → slice_index image k < 256) → image ≡ image_of c version base instructions

-- ---- the call that is given all instructions at once
-- it is refused as opening is, with the buffer as it was, and else tells of the image
abbrev pub Lists : KeyedCipher → ℕ → ℕ → List ℕ → List ℕ → List ℕ → Result ClosedDraft Refusal → Type 0
Lists c version base instructions before after r =
    MatchResult r
    (λ closed. (open_refusal c version base (length instructions) before ≡ None) × Tells (head_for c version base (length instructions)) closed)
    (λ e. (open_refusal c version base (length instructions) before ≡ Some e) × (after ≡ before))

-- the calls that the list call makes
pub record Chain (c : KeyedCipher) (version base : ℕ) (instructions before after : List ℕ) (closed : ClosedDraft) : Type 0 where
  pub headed : List ℕ
  pub written : List ℕ
  pub opened : Draft
  pub filled : Draft
  pub opens : Opens c version base (length instructions) before headed (Ok opened)
  pub puts : PutAll c opened headed instructions filled written
  pub closes : Closes filled written after (Ok closed)

-- every bit past the first bytes is as it was
abbrev pub KeptPast : ℕ → List ℕ → List ℕ → Type 0
KeptPast n before after =
    (length after ≡ length before) × ((j : ℕ) → 8 * n ≤ j → bit_in after j ≡ bit_in before j)
