-- What a memory is to its user: a list of slots, and a rest that no write changes.
use Rattle.std.specs.Prelude.{ℕ, ◌^◌, ◌<◌, ◌≤◌, cond, List, length, Ok, Err, Result, nat_lt, slice_index, slice_set}
use Rattle.refusal.specs.declared.Refusal.{Refusal}
use Rattle.refusal.specs.declared.Refusal.TheVariants.{NoSlot, TooWide}

-- the most slots that a memory has
abbrev pub most : ℕ
most = 1048575

-- the first number that is too wide for a slot
abbrev pub wide : ℕ
wide = 2 ^ 48

-- the law of the slots
pub record Sound (slots : List ℕ) : Type 0 where
  pub few : length slots ≤ most
  pub small : (s : ℕ) → s < length slots → slice_index slots s < wide

-- a lent chip: the name of its loan, and its length in bytes or words
pub record Chip : Type 0 where
  pub loan : ℕ
  pub size : ℕ

-- the chips that a memory stands on, and what they hold besides the slots
pub record Rest : Type 0 where
  pub chips : List Chip
  pub unused : List (List ℕ)

abbrev pub slot_check : ℕ → ℕ → Result (Unit {0}) Refusal
slot_check count s = cond (nat_lt s count) (Ok tt) (Err (NoSlot s))

abbrev pub write_check : ℕ → ℕ → ℕ → Result (Unit {0}) Refusal
write_check count s n = cond (nat_lt s count) (cond (nat_lt n wide) (Ok tt) (Err (TooWide s))) (Err (NoSlot s))

-- the answer to a read of slot s
abbrev pub read_of : List ℕ → ℕ → Result ℕ Refusal
read_of slots s = cond (nat_lt s (length slots)) (Ok (slice_index slots s)) (Err (NoSlot s))

-- the answer to a write of n into slot s
abbrev pub write_of : List ℕ → ℕ → ℕ → Result (Unit {0}) Refusal
write_of slots s n = write_check (length slots) s n

-- the slots after it
abbrev pub after_write : List ℕ → ℕ → ℕ → List ℕ
after_write slots s n = cond (nat_lt s (length slots)) (cond (nat_lt n wide) (slice_set slots s n) slots) slots
