-- What a page shows, in the cipher's words and in the shore tool's.
use Rattle.std.specs.Prelude.{◌≡◌, ℕ, ◌+◌, ◌<◌, ◌≤◌, List, length, take, drop, Some, None, slice_index}
use Rattle.image.specs.Reading.{head_in}
use Rattle.shore.specs.Drafting.{KeyedCipher}
use Rattle.shore.specs.Making.{Made}
use Rattle.page.specs.Showing.{opened, past_refusal, page_refusal}

-- where the check accepts, word j is the instruction that record first + j decrypts to, and the record does decrypt
abbrev pub ShowsDecryptions : KeyedCipher → List ℕ → ℕ → List ℕ → Type 0
ShowsDecryptions c image first words =
    page_refusal c image first (length words) ≡ None
    → (j : ℕ) → j < length words → opened c image (head_in image) (first + j) ≡ Some (slice_index words j)

-- of an image that was made with the same cipher and key, a page of n words from record `first` on is refused only
-- where it would go past the end
abbrev pub RefusedOnlyPastEnd : KeyedCipher → List ℕ → ℕ → ℕ → Type 0
RefusedOnlyPastEnd c image first n =
    (version base : ℕ) (instructions : List ℕ) → Made c version base instructions image
    → page_refusal c image first n ≡ past_refusal (length instructions) first n

-- and else it shows the very instructions put in, from `first` on
abbrev pub ShowsWhatWasPutIn : KeyedCipher → List ℕ → ℕ → List ℕ → Type 0
ShowsWhatWasPutIn c image first words =
    (version base : ℕ) (instructions : List ℕ) → Made c version base instructions image
    → first + length words ≤ length instructions → words ≡ take (length words) (drop first instructions)
