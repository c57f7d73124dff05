-- The slots of lent chips, and what else the chips hold.
use Rattle.std.specs.Prelude.{ℕ, ◌+◌, ◌*◌, ◌/◌, ◌%◌, min, List, [], ◌∷◌, ◌++◌, map, length, drop, slice_index}
use Rattle.std.specs.List.{range_with_len, flat_map}
use Rattle.memory.specs.Slots.{most, Rest}

-- the number in the six bytes from byte a on, most significant first
abbrev pub six_at : List ℕ → ℕ → ℕ
six_at b a = slice_index b a % 256 * 1099511627776 + (slice_index b (a + 1) % 256 * 4294967296 + (slice_index b (a + 2) % 256 * 16777216 + (slice_index b (a + 3) % 256 * 65536 + (slice_index b (a + 4) % 256 * 256 + slice_index b (a + 5) % 256))))

-- the six bytes of a number
abbrev pub six_bytes : ℕ → List ℕ
six_bytes n = n / 1099511627776 % 256 ∷ n / 4294967296 % 256 ∷ n / 16777216 % 256 ∷ n / 65536 % 256 ∷ n / 256 % 256 ∷ n % 256 ∷ []

-- packed: slot s is the six bytes from byte 6 s on
abbrev pub packed_count : ℕ → ℕ
packed_count size = min most (size / 6)

unfoldable pub packed : List ℕ → List ℕ
packed b = map (λ s. six_at b (6 * s)) (range_with_len 0 (packed_count (length b)))

-- the left-over bytes
abbrev pub left_over : List ℕ → List ℕ
left_over b = drop (6 * packed_count (length b)) b

abbrev pub packed_rest : ℕ → List ℕ → Rest
packed_rest loan b = record { chips = record { loan = loan; size = length b } ∷ []; unused = left_over b ∷ [] }

-- a whole chip, from its slots and its left-over bytes
abbrev pub bytes_of : List ℕ → List ℕ → List ℕ
bytes_of slots left = flat_map six_bytes slots ++ left

-- paired: slot s is word s of the high chip, and word s of the low chip below it
abbrev pub pair_of : ℕ → ℕ → ℕ
pair_of high low = high % 4294967296 * 65536 + low % 65536

abbrev pub paired_count : ℕ → ℕ → ℕ
paired_count highs lows = min most (min highs lows)

unfoldable pub paired : List ℕ → List ℕ → List ℕ
paired high low = map (λ s. pair_of (slice_index high s) (slice_index low s)) (range_with_len 0 (paired_count (length high) (length low)))

-- the words of a number
abbrev pub high_word : ℕ → ℕ
high_word n = n / 65536 % 4294967296

abbrev pub low_word : ℕ → ℕ
low_word n = n % 65536

-- a whole chip, from its slots and its surplus words
abbrev pub highs_of : List ℕ → List ℕ → List ℕ
highs_of slots left = map high_word slots ++ left

abbrev pub lows_of : List ℕ → List ℕ → List ℕ
lows_of slots left = map low_word slots ++ left

-- the surplus words of a chip
abbrev pub surplus_high : List ℕ → List ℕ → List ℕ
surplus_high high low = drop (paired_count (length high) (length low)) high

abbrev pub surplus_low : List ℕ → List ℕ → List ℕ
surplus_low high low = drop (paired_count (length high) (length low)) low

abbrev pub paired_rest : ℕ → ℕ → List ℕ → List ℕ → Rest
paired_rest loan_high loan_low high low =
    record {
      chips = record { loan = loan_high; size = length high } ∷ record { loan = loan_low; size = length low } ∷ [];
      unused = surplus_high high low ∷ surplus_low high low ∷ [];
    }
