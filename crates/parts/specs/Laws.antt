-- What an arrangement of the slots of two memories keeps.
use Rattle.std.specs.Prelude.{◌≡◌, ℕ, ◌<◌, ◌≤◌, List, length, slice_index}
use Rattle.memory.specs.Slots.{most}
use Rattle.parts.specs.declared.place.Place.{Place}
use Rattle.parts.specs.declared.place.Place.TheVariants.{First, Second}

-- the number at a place
abbrev pub pick : List ℕ → List ℕ → Place → ℕ
pick a b (First i) = slice_index a i
pick a b (Second i) = slice_index b i

-- a place among the first slots of each part
abbrev pub Inside : ℕ → ℕ → Place → Type 0
Inside used_a used_b (First i) = i < used_a
Inside used_a used_b (Second i) = i < used_b

-- the slots of two memories, each at its place
pub record Laid (place : ℕ → Place) (used_a used_b : ℕ) (slots a b : List ℕ) : Type 0 where
  pub enough_a : used_a ≤ length a
  pub enough_b : used_b ≤ length b
  pub inside : (s : ℕ) → s < length slots → Inside used_a used_b (place s)
  pub value : (s : ℕ) → s < length slots → slice_index slots s ≡ pick a b (place s)

-- the law: as many slots as counted, at most the most, no two at one place, and each the number at its place
pub record Arranges (held : List ℕ → List ℕ → List ℕ) (slots used_first used_second : ℕ → ℕ → ℕ) (place : ℕ → ℕ → Place) : Type 0 where
  pub counted : (a b : List ℕ) → length (held a b) ≡ slots (length a) (length b)
  pub few : (m n : ℕ) → slots m n ≤ most
  pub apart : (m i j : ℕ) → place m i ≡ place m j → i ≡ j
  pub laid : (a b : List ℕ) → length a ≤ most → Laid (place (length a)) (used_first (length a) (length b)) (used_second (length a) (length b)) (held a b) a b
