-- Encryption and decryption undo each other: round by round, and over any masks.
use Rattle.std.proofs.lemmas.Grind.{common_steps}
use Rattle.std.proofs.Common.{length-append, length, ◌++◌, [], ◌∷◌, List, get_or, ◌≡◌, ℕ, zero, suc, ◌^◌, ◌<◌, Bool, true, false, cond, sym, refl, ap, ap₂, ◌∙◌, mod-eq_of_lt, arith, lit<}
use lib.Bits.{bit_xor, xor_assoc, xor_self, xor_zero_r, xor_lt}
use Rattle.bits.proofs.Numbers.{part_lt}
use Rattle.layers.specs.Inverse.{chichi⁻¹}
use Rattle.linear.specs.Linear.{map_of, inverse_of}
use Rattle.layers.specs.Widths.{half}
use Rattle.layers.proofs.Bijection.{chichi_undoes, chichi_undone, chichi⁻¹_lt}
use Rattle.linear.proofs.Linears.{map_undoes, map_undone, inverse_lt}
use Rattle.cipher.specs.declared.Mode.{Mode}
use Rattle.cipher.specs.declared.Mode.TheVariants.{Tagged, Block}
use Rattle.schedule.specs.declared.key.KeySchedule.{KeySchedule}
use Rattle.schedule.specs.Schedule.{◌⊻◌, inner, key_schedule}
use Rattle.paths.specs.declared.schedules.Schedules.{Schedules}
use Rattle.paths.specs.Algorithm.{decryption}
use Rattle.paths.specs.Encryption.{data_path, data_map, width, undo_round, data_before, source, encryption, EncryptionUndoes, EncryptionUndone}
use Rattle.paths.specs.Paths.{linear_of, width_of, tweak_part, chi, mixed}
use Rattle.paths.specs.Data.{data_round, data_after, word_of, schedules, masks_of, outcome}
use Rattle.paths.proofs.Rows.{chi_lt, round_lt, schedules_decrypt}

xor_back : (a b : ℕ) → (a ⊻ b) ⊻ b ≡ a
xor_back a b = xor_assoc a b b ∙ ap (bit_xor a) (xor_self b) ∙ xor_zero_r a

-- ---- what the two modes have in common
turned_back : (v : Mode) (x : ℕ) → x < 2 ^ width v → chichi⁻¹ (half (width_of (data_path v))) (chi (data_path v) x) ≡ x
turned_back Tagged x h = chichi_undoes 16 x refl (lit< tt) ∙ mod-eq_of_lt h
turned_back Block x h = chichi_undoes 20 x refl (lit< tt) ∙ mod-eq_of_lt h

turned_there : (v : Mode) (y : ℕ) → y < 2 ^ width v → chi (data_path v) (chichi⁻¹ (half (width_of (data_path v))) y) ≡ y
turned_there Tagged y h = chichi_undone 16 y refl (lit< tt) ∙ mod-eq_of_lt h
turned_there Block y h = chichi_undone 20 y refl (lit< tt) ∙ mod-eq_of_lt h

mapped_back : (v : Mode) (x : ℕ) → x < 2 ^ width v → inverse_of (data_map v) (map_of (linear_of (data_path v)) x) ≡ x
mapped_back Tagged x h = map_undoes (data_map Tagged) x ∙ mod-eq_of_lt h
mapped_back Block x h = map_undoes (data_map Block) x ∙ mod-eq_of_lt h

mapped_there : (v : Mode) (y : ℕ) → y < 2 ^ width v → map_of (linear_of (data_path v)) (inverse_of (data_map v) y) ≡ y
mapped_there Tagged y h = map_undone (data_map Tagged) y ∙ mod-eq_of_lt h
mapped_there Block y h = map_undone (data_map Block) y ∙ mod-eq_of_lt h

unmapped_lt : (v : Mode) (y : ℕ) → inverse_of (data_map v) y < 2 ^ width v
unmapped_lt Tagged y = inverse_lt (data_map Tagged) y
unmapped_lt Block y = inverse_lt (data_map Block) y

-- ---- one round
module _ (v : Mode) (i m : ℕ) where
  undo_round_lem : (x : ℕ) → x < 2 ^ width v → undo_round v i (data_round (data_path v) i x m) m ≡ x
  undo_round_lem x h =
      ap (λ (z : ℕ). chichi⁻¹ (half (width_of (data_path v))) (cond (inner i) (inverse_of (data_map v) z) z)) (xor_back _ (tweak_part (data_path v) m))
      ∙ by (inner i)
    where
      by : (b : Bool) → chichi⁻¹ (half (width_of (data_path v))) (cond b (inverse_of (data_map v) (cond b (mixed (data_path v) x) (chi (data_path v) x))) (cond b (mixed (data_path v) x) (chi (data_path v) x))) ≡ x
      by true = ap (chichi⁻¹ (half (width_of (data_path v)))) (mapped_back v (chi (data_path v) x) (chi_lt (data_path v) x)) ∙ turned_back v x h
      by false = turned_back v x h

  redo_round : (y : ℕ) → y < 2 ^ width v → data_round (data_path v) i (undo_round v i y m) m ≡ y
  redo_round y h = ap (λ (z : ℕ). z ⊻ tweak_part (data_path v) m) (by (inner i)) ∙ xor_back y (tweak_part (data_path v) m)
    where
      small : (y ⊻ tweak_part (data_path v) m) < 2 ^ width v
      small = xor_lt (width v) y (tweak_part (data_path v) m) h (part_lt m _ (width v))

      by : (b : Bool) → cond b (mixed (data_path v) (chichi⁻¹ (half (width_of (data_path v))) (cond b (inverse_of (data_map v) (y ⊻ tweak_part (data_path v) m)) (y ⊻ tweak_part (data_path v) m))))
          (chi (data_path v) (chichi⁻¹ (half (width_of (data_path v))) (cond b (inverse_of (data_map v) (y ⊻ tweak_part (data_path v) m)) (y ⊻ tweak_part (data_path v) m)))) ≡ y ⊻ tweak_part (data_path v) m
      by true =
          ap (map_of (linear_of (data_path v))) (turned_there v (inverse_of (data_map v) (y ⊻ tweak_part (data_path v) m)) (unmapped_lt v _))
          ∙ mapped_there v (y ⊻ tweak_part (data_path v) m) small
      by false = turned_there v (y ⊻ tweak_part (data_path v) m) small

  undo_lt : (y : ℕ) → undo_round v i y m < 2 ^ width v
  undo_lt y = chichi⁻¹_lt (half (width_of (data_path v))) _

-- ---- all rounds
module _ (v : Mode) (ms : ℕ → ℕ) where
  after_lt : (x : ℕ) → x < 2 ^ width v → (i : ℕ) → data_after (data_path v) ms x i < 2 ^ width v
  unfolding data_after
  after_lt x h zero = h
  after_lt x h (suc i) = round_lt (data_path v) i _ _

  pub before_lt : (i y : ℕ) → y < 2 ^ width v → data_before v ms y i < 2 ^ width v
  unfolding data_before
  before_lt zero y h = h
  before_lt (suc i) y h = before_lt i _ (undo_lt v i (ms i) y)

  pub before_after : (x : ℕ) → x < 2 ^ width v → (i : ℕ) → data_before v ms (data_after (data_path v) ms x i) i ≡ x
  unfolding data_after data_before
  before_after x h zero = refl
  before_after x h (suc i) = ap (λ (z : ℕ). data_before v ms z i) (undo_round_lem v i (ms i) _ (after_lt x h i)) ∙ before_after x h i

  pub after_before : (i y : ℕ) → y < 2 ^ width v → data_after (data_path v) ms (data_before v ms y i) i ≡ y
  unfolding data_after data_before
  after_before zero y h = refl
  after_before (suc i) y h =
      ap (λ (z : ℕ). data_round (data_path v) i z (ms i)) (after_before i (undo_round v i y (ms i)) (undo_lt v i (ms i) y)) ∙ redo_round v i (ms i) y h

-- the masks that a loop from the last to the first has left
pub record Left (masks rest : List ℕ) : Type 0 where
  pub at : (k : ℕ) → k < length rest → get_or rest k 0 ≡ get_or masks k 0

left_fewer : (masks rest more : List ℕ) (x : ℕ) → more ≡ rest ++ x ∷ [] → Left masks more → Left masks rest × (x ≡ get_or masks (length rest) 0)
left_fewer masks rest more x e p = (
  record { at = λ k l. grind (arith, common_steps, e, p.at k (omega (arith, ap length e, length-append rest (x ∷ [])))) },
  grind (arith, common_steps, e, p.at (length rest) (omega (arith, ap length e, length-append rest (x ∷ [])))),
)

-- its step: round i undone, of the mask x
pub before_fewer : (v : Mode) (masks rest more : List ℕ) (x i y s : ℕ) → more ≡ rest ++ x ∷ [] → i ≡ length rest → s ≡ undo_round v i y x → Left masks more
    → Left masks rest × (data_before v (λ k. get_or masks k 0) s (length rest) ≡ data_before v (λ k. get_or masks k 0) y (length more))
unfolding data_before
before_fewer v masks rest more x i y s e j r p =
    let q = left_fewer masks rest more x e p in
    let n : suc (length rest) ≡ length more = omega (arith, ap length e, length-append rest (x ∷ [])) in (
      q.0,
      ap (λ (z : ℕ). data_before v (λ k. get_or masks k 0) z (length rest)) (r ∙ ap₂ (λ (a b : ℕ). undo_round v a y b) j q.1)
          ∙ ap (data_before v (λ k. get_or masks k 0) y) n,
    )

-- ---- by schedules
scheduled : (v : Mode) (k t x : ℕ) → outcome (data_path v) (schedules v k t) x ≡ decryption (data_path v) k t x
scheduled Tagged = schedules_decrypt (data_path Tagged)
scheduled Block = schedules_decrypt (data_path Block)

word_is_data : (v : Mode) (keys : KeySchedule) → word_of keys (data_path v) ≡ keys.«data»
word_is_data Tagged keys = refl
word_is_data Block keys = refl

pub data_lt : (v : Mode) (k : ℕ) → (key_schedule v k).«data» < 2 ^ width v
data_lt Tagged k = part_lt k 64 32
data_lt Block k = part_lt k 64 40

module _ (v : Mode) (s : Schedules) (small : s.keys.«data» < 2 ^ width v) where
  pub source_lt : (y : ℕ) → y < 2 ^ width v → source v s y < 2 ^ width v
  source_lt y h = xor_lt (width v) _ s.keys.«data» (before_lt v (masks_of s) 8 y h) small

  source_undoes : (x : ℕ) → x < 2 ^ width v → source v s (outcome (data_path v) s x) ≡ x
  unfolding outcome
  source_undoes x h =
      ap (λ (w : ℕ). data_before v (masks_of s) (data_after (data_path v) (masks_of s) (x ⊻ w) 8) 8 ⊻ s.keys.«data») (word_is_data v s.keys)
      ∙ ap (λ (z : ℕ). z ⊻ s.keys.«data») (before_after v (masks_of s) (x ⊻ s.keys.«data») (xor_lt (width v) x s.keys.«data» h small) 8)
      ∙ xor_back x s.keys.«data»

  source_undone : (y : ℕ) → y < 2 ^ width v → outcome (data_path v) s (source v s y) ≡ y
  unfolding outcome
  source_undone y h =
      ap (λ (w : ℕ). data_after (data_path v) (masks_of s) ((data_before v (masks_of s) y 8 ⊻ s.keys.«data») ⊻ w) 8) (word_is_data v s.keys)
      ∙ ap (λ (z : ℕ). data_after (data_path v) (masks_of s) z 8) (xor_back (data_before v (masks_of s) y 8) s.keys.«data»)
      ∙ after_before v (masks_of s) 8 y h

pub encryption_undoes : EncryptionUndoes
unfolding encryption
encryption_undoes v k t x h = ap (source v (schedules v k t)) (sym (scheduled v k t x)) ∙ source_undoes v (schedules v k t) (data_lt v k) x h

pub encryption_undone : EncryptionUndone
unfolding encryption
encryption_undone v k t y h = sym (scheduled v k t (source v (schedules v k t) y)) ∙ source_undone v (schedules v k t) (data_lt v k) y h

pub encryption_lt : (v : Mode) (k t y : ℕ) → y < 2 ^ width v → encryption v k t y < 2 ^ width v
unfolding encryption
encryption_lt v k t y h = source_lt v (schedules v k t) (data_lt v k) y h

pub ruleset undoing = (source_lt, encryption_undoes, encryption_undone)
