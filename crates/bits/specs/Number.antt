-- A state is a number, and its bits are counted from the lowest, bit 0.
use Rattle.std.specs.Prelude.{◌≡◌, ◌≢◌, ℕ, zero, suc, ◌+◌, ◌*◌, ◌/◌, ◌%◌, ◌^◌, ◌<◌, Bool, true, false, not, ◌==◌}

-- exclusive or
infixl 30 ◌⊕◌
abbrev pub ◌⊕◌ : Bool → Bool → Bool
true ⊕ b = not b
false ⊕ b = b

-- bit i of x
abbrev pub bit : ℕ → ℕ → Bool
bit x i = x / 2 ^ i % 2 == 1

-- the worth of a bit
abbrev pub digit : Bool → ℕ
digit true = 1
digit false = 0

-- the number of n bits whose bit i is f i
abbrev pub number : ℕ → (ℕ → Bool) → ℕ
number zero f = 0
number (suc n) f = number n f + digit (f n) * 2 ^ n

-- the n bits of x from bit a on, as a number
abbrev pub part : ℕ → ℕ → ℕ → ℕ
part x a n = x / 2 ^ a % 2 ^ n

-- of 128 bits, after is before with b as bit i
pub record SetsBit (before after i : ℕ) (b : Bool) : Type 0 where
  pub same : i < 128 → bit after i ≡ b
  pub others : (j : ℕ) → j ≢ i → bit after j ≡ bit before j

-- two numbers of n bits with the same bits are the same number
unfoldable pub BitsDetermine : Type 0
BitsDetermine = (n x y : ℕ) → x < 2 ^ n → y < 2 ^ n → ((i : ℕ) → i < n → bit x i ≡ bit y i) → x ≡ y

-- any n bits are the bits of a number of n bits
abbrev pub BitsAreFree : Type 0
BitsAreFree = (n : ℕ) (f : ℕ → Bool) → (number n f < 2 ^ n) × ((i : ℕ) → i < n → bit (number n f) i ≡ f i)

-- bit i of the part that begins at bit a is bit a + i
abbrev pub PartBits : Type 0
PartBits = (x a n i : ℕ) → i < n → bit (part x a n) i ≡ bit x (a + i)
