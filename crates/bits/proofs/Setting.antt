-- One bit of a number of 128 bits set or cleared: `p` is 1 shifted to the place `i`.
use Rattle.std.proofs.Common.{◌≡◌, ◌≢◌, ℕ, ◌-◌, ◌*◌, ◌%◌, ◌^◌, ◌<◌, ◌≤◌, true, false, eqb, bit_and, bit_or, sym, ap, ◌∙◌, inl, inr, arith}
use Rattle.std.specs.Int.{w128, bit_at}
use Rattle.std.proofs.lemmas.Bool.{cases_lt}
use Rattle.std.proofs.lemmas.Nat.{and_le_l}
use Rattle.std.proofs.lemmas.Nat.Bits.{bit_at_set_same, bit_at_set_other, bit_at_clear_same, bit_at_clear_other, bit_at_above}
use Rattle.bits.specs.Number.{bit}

module _ (x i p : ℕ) (within : i < 128) (is : p ≡ 1 * 2 ^ i % 2 ^ 128) where
  pub set_same : bit (bit_or x p) i ≡ true
  set_same = ap (λ (p : ℕ). bit (bit_or x p) i) is ∙ ap (λ (z : ℕ). eqb z 1) (bit_at_set_same w128 x i within)

  pub set_other : (j : ℕ) → j ≢ i → bit (bit_or x p) j ≡ bit x j
  set_other j ne = ap (λ (p : ℕ). bit (bit_or x p) j) is ∙ ap (λ (z : ℕ). eqb z 1) (bit_at_set_other w128 x i within j ne)

  pub clear_same : bit (bit_and x (2 ^ 128 - 1 - p)) i ≡ false
  clear_same = ap (λ (p : ℕ). bit (bit_and x (2 ^ 128 - 1 - p)) i) is ∙ ap (λ (z : ℕ). eqb z 1) (bit_at_clear_same w128 x i within)

  -- a bit past the highest is 0 on both sides
  past : (q j : ℕ) → x < 2 ^ 128 → 128 ≤ j → bit_at (bit_and x q) j ≡ bit_at x j
  past q j small l =
      bit_at_above (bit_and x q) 128 j (let le : bit_and x q ≤ x = and_le_l x q in omega arith) l ∙ sym (bit_at_above x 128 j small l)

  pub clear_other : (j : ℕ) → x < 2 ^ 128 → j ≢ i → bit (bit_and x (2 ^ 128 - 1 - p)) j ≡ bit x j
  clear_other j small ne =
      ap (λ (p : ℕ). bit (bit_and x (2 ^ 128 - 1 - p)) j) is
      ∙ ap (λ (z : ℕ). eqb z 1) (elim (cases_lt j 128) [
        | inl l ↦ bit_at_clear_other w128 x i within j l ne
        | inr l ↦ past _ j small l
      ])

pub ruleset one_bit = (set_same, set_other, clear_same, clear_other)
