-- Two memories as one.
use Rattle.std.specs.Prelude.{ℕ, ◌+◌, ◌-◌, ◌*◌, ◌/◌, min, List, [], ◌∷◌, ◌++◌, take}
use Rattle.memory.specs.Slots.{most}

-- the first's slots, then the second's
unfoldable pub joined : List ℕ → List ℕ → List ℕ
joined a b = take most (a ++ b)

-- one from each in turn, while both have one
unfoldable pub woven : List ℕ → List ℕ → List ℕ
woven [] b = []
woven (x ∷ a) [] = []
woven (x ∷ a) (y ∷ b) = x ∷ y ∷ woven a b

-- even slots from the first, odd ones from the second
unfoldable pub interleaved : List ℕ → List ℕ → List ℕ
interleaved a b = take most (woven a b)

abbrev pub joined_count : ℕ → ℕ → ℕ
joined_count m n = min most (m + n)

abbrev pub interleaved_count : ℕ → ℕ → ℕ
interleaved_count m n = min most (2 * min m n)

-- how many slots of each part are among those of a joined memory
abbrev pub joined_first : ℕ → ℕ → ℕ
joined_first m n = m

abbrev pub joined_second : ℕ → ℕ → ℕ
joined_second m n = joined_count m n - m

-- and of an interleaved one
abbrev pub interleaved_first : ℕ → ℕ → ℕ
interleaved_first m n = (interleaved_count m n + 1) / 2

abbrev pub interleaved_second : ℕ → ℕ → ℕ
interleaved_second m n = interleaved_count m n / 2
