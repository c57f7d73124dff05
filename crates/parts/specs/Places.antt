-- Where a slot of two memories lies, and what is read and written there.
use Rattle.std.specs.Prelude.{ℕ, ◌-◌, ◌/◌, ◌%◌, cond, List, Result, ◌==◌, nat_lt}
use Rattle.refusal.specs.declared.Refusal.{Refusal}
use Rattle.memory.specs.Slots.{read_of, after_write}
use Rattle.parts.specs.declared.place.Place.{Place}
use Rattle.parts.specs.declared.place.Place.TheVariants.{First, Second}

-- in the first memory while it has slots
abbrev pub joined_place : ℕ → ℕ → Place
joined_place first s = cond (nat_lt s first) (First s) (Second (s - first))

-- even slots in the first memory
abbrev pub interleaved_place : ℕ → Place
interleaved_place s = cond (s % 2 == 0) (First (s / 2)) (Second (s / 2))

abbrev pub read_at : List ℕ → List ℕ → Place → Result ℕ Refusal
read_at a b (First s) = read_of a s
read_at a b (Second s) = read_of b s

-- the first memory's slots after a write at a place
abbrev pub first_after : List ℕ → Place → ℕ → List ℕ
first_after a (First s) n = after_write a s n
first_after a (Second s) n = a

-- and the second's
abbrev pub second_after : List ℕ → Place → ℕ → List ℕ
second_after b (First s) n = b
second_after b (Second s) n = after_write b s n
