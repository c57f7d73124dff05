-- Hexadecimal digits, in capitals.
use Rattle.std.specs.Prelude.{ℕ, zero, suc, ◌+◌, ◌-◌, ◌*◌, ◌/◌, Bool, cond, ◌&&◌, ◌||◌, List, [], ◌∷◌, ◌++◌, length, nat_le, slice_index}

-- 0 to 9, or A to F
abbrev pub is_digit : ℕ → Bool
is_digit b = (nat_le 48 b && nat_le b 57) || (nat_le 65 b && nat_le b 70)

abbrev pub digit_of : ℕ → ℕ
digit_of b = cond (is_digit b) (cond (nat_le b 57) (b - 48) (b - 55)) 0

-- the number of the first n digits of a word, and of all of them
unfoldable pub hex_of : List ℕ → ℕ → ℕ
hex_of word zero = 0
hex_of word (suc n) = 16 * hex_of word n + digit_of (slice_index word n)

abbrev pub value_of : List ℕ → ℕ
value_of word = hex_of word (length word)

-- byte k of a word, two digits to a byte, the first n bytes, and all of them
abbrev pub byte_of : List ℕ → ℕ → ℕ
byte_of word k = 16 * digit_of (slice_index word (2 * k)) + digit_of (slice_index word (2 * k + 1))

unfoldable pub bytes_up_to : List ℕ → ℕ → List ℕ
bytes_up_to word zero = []
bytes_up_to word (suc n) = bytes_up_to word n ++ (byte_of word n ∷ [])

abbrev pub bytes_of : List ℕ → List ℕ
bytes_of word = bytes_up_to word (length word / 2)
