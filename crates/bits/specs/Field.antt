-- Fields of bits in bytes, most significant bit first.
use Rattle.std.specs.Prelude.{◌≡◌, ℕ, zero, suc, ◌+◌, ◌-◌, ◌*◌, ◌/◌, ◌%◌, ◌^◌, ◌<◌, ◌≤◌, ◌⊎◌, List, length, slice_index}

-- bit j of the bytes, 0 or 1: bit 0 is the highest of the first byte, and past the end all bits are 0
unfoldable pub bit_in : List ℕ → ℕ → ℕ
bit_in bytes j = slice_index bytes (j / 8) / 2 ^ (7 - j % 8) % 2

-- the number of w bits from bit o on
unfoldable pub field : List ℕ → ℕ → ℕ → ℕ
field bytes o zero = 0
field bytes o (suc w) = field bytes o w * 2 + bit_in bytes (o + w)

-- after is before with the w bits from bit o on turned to the low w bits of v, as far as the bytes go
pub record Written (before after : List ℕ) (o w v : ℕ) : Type 0 where
  pub long : length after ≡ length before
  pub inside : (j : ℕ) → o ≤ j → j < o + w → j / 8 < length before → bit_in after j ≡ v / 2 ^ (o + w - 1 - j) % 2
  pub outside : (j : ℕ) → (j < o) ⊎ (o + w ≤ j) → bit_in after j ≡ bit_in before j

-- a field that was written whole reads back
abbrev pub ReadsBack : Type 0
ReadsBack =
    (xs ys : List ℕ) (o w v : ℕ) → Written xs ys o w v → o + w ≤ length xs * 8 → field ys o w ≡ v % 2 ^ w

-- a field that does not overlap what was written is as it was
abbrev pub KeepsOthers : Type 0
KeepsOthers =
    (xs ys : List ℕ) (o w v : ℕ) → Written xs ys o w v
    → (p u : ℕ) → (p + u ≤ o) ⊎ (o + w ≤ p) → field ys p u ≡ field xs p u

-- bytes of one length with the same bits are the same
abbrev pub BitsAreAll : Type 0
BitsAreAll =
    (xs ys : List ℕ) → ((k : ℕ) → slice_index xs k < 256) → ((k : ℕ) → slice_index ys k < 256)
    → length xs ≡ length ys → ((j : ℕ) → bit_in xs j ≡ bit_in ys j) → xs ≡ ys
