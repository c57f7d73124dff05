-- A number n of 128 bits with the w bits from bit r on turned to those of v: `p` is the mask of their places.
use Rattle.std.proofs.Common.{◌≡◌, ℕ, ◌+◌, ◌-◌, ◌*◌, ◌/◌, ◌%◌, ◌^◌, ◌<◌, ◌≤◌, ◌⊎◌, min, max, bit_and, bit_or, sym, ap, ◌∙◌, ap₂, inl, inr, arith, pow_mono}
use Rattle.std.specs.Int.{w128, bit_at}
use Rattle.std.proofs.lemmas.Bool.{cases_lt}
use Rattle.std.proofs.lemmas.Nat.{one_shl, shl_whole, shl-shr, shr-shr, and_le_l, or_lt, pow_pos}
use Rattle.std.proofs.lemmas.Nat.Bits.{bit_at_and, bit_at_or, bit_at_not, bit_at_above, bit_at-lt, bit_at_mask_inside, bit_at_mask_below, bit_at_mask_above}

-- a bit of the value where the mask has a one, and else a bit of the number
taken : (a b m : ℕ) → b < 2 → m ≡ 1 → max (min a (1 - m)) (min b m) ≡ b
taken a b m l e = omega arith

kept : (a b m : ℕ) → a < 2 → m ≡ 0 → max (min a (1 - m)) (min b m) ≡ a
kept a b m l e = omega arith

module _ (r w : ℕ) (room : r + w < 128) where
  abbrev mask : ℕ
  mask = 2 ^ (r + w) - 2 ^ r

  mask_lt : mask < 2 ^ 128
  mask_lt = let top : 2 ^ (r + w) ≤ 2 ^ 128 = pow_mono (let e : r + w ≤ 128 = omega arith in e) in omega (arith, pow_pos r)

  mask_is : 1 * 2 ^ (r + w) % 2 ^ 128 - 1 * 2 ^ r % 2 ^ 128 ≡ mask
  mask_is = ap₂ (λ (a b : ℕ). a - b) (one_shl (r + w) 128 room) (one_shl r 128 (omega arith))

  pub mask_ordered : 1 * 2 ^ r % 2 ^ 128 ≤ 1 * 2 ^ (r + w) % 2 ^ 128
  mask_ordered =
      let le : 2 ^ r ≤ 2 ^ (r + w) = pow_mono (let e : r ≤ r + w = omega arith in e) in
      omega (arith, one_shl r 128 (omega arith), one_shl (r + w) 128 room)

  module _ (n v : ℕ) where
    abbrev made : ℕ → ℕ
    made p = bit_or (bit_and n (2 ^ 128 - 1 - p)) (bit_and (v * 2 ^ r % 2 ^ 128) p)

    bits_of : (k : ℕ) → k < 128 → bit_at (made mask) k ≡ max (min (bit_at n k) (1 - bit_at mask k)) (min (bit_at (v * 2 ^ r % 2 ^ 128) k) (bit_at mask k))
    bits_of k l =
        bit_at_or (bit_and n (2 ^ 128 - 1 - mask)) (bit_and (v * 2 ^ r % 2 ^ 128) mask) k
        ∙ ap₂ (λ (a b : ℕ). max a b)
        (bit_at_and n (2 ^ 128 - 1 - mask) k ∙ ap (λ (b : ℕ). min (bit_at n k) b) (bit_at_not w128 mask k mask_lt l))
        (bit_at_and (v * 2 ^ r % 2 ^ 128) mask k)

    module _ (p : ℕ) (is : p ≡ 1 * 2 ^ (r + w) % 2 ^ 128 - 1 * 2 ^ r % 2 ^ 128) where
      pub patched_inside : v < 2 ^ 64 → r < 64 → (k : ℕ) → k < w → bit_at (made p) (r + k) ≡ bit_at v k
      patched_inside v_fits low k l =
          let shifted : bit_at (v * 2 ^ r % 2 ^ 128) (r + k) ≡ bit_at v k =
          ap (λ (z : ℕ). bit_at z (r + k)) (shl_whole v 64 r 128 v_fits (omega arith))
          ∙ ap (λ (z : ℕ). z % 2) (sym (shr-shr (v * 2 ^ r) r k) ∙ ap (λ (z : ℕ). z / 2 ^ k) (shl-shr v r)) in
          ap (λ (q : ℕ). bit_at (made q) (r + k)) (is ∙ mask_is) ∙ bits_of (r + k) (omega arith)
          ∙ taken (bit_at n (r + k)) (bit_at (v * 2 ^ r % 2 ^ 128) (r + k)) (bit_at mask (r + k)) (bit_at-lt _ _) (bit_at_mask_inside r (r + w) (r + k) (omega arith) (omega arith))
          ∙ shifted

      pub patched_outside : n < 2 ^ 128 → (k : ℕ) → (k < r) ⊎ (r + w ≤ k) → bit_at (made p) k ≡ bit_at n k
      patched_outside n_fits k out =
          ap (λ (q : ℕ). bit_at (made q) k) (is ∙ mask_is)
          ∙ elim (cases_lt k 128) [
            | inl l ↦ bits_of k l ∙ kept (bit_at n k) (bit_at (v * 2 ^ r % 2 ^ 128) k) (bit_at mask k) (bit_at-lt _ _)
                (elim out [ inl a ↦ bit_at_mask_below r (r + w) k a | inr b ↦ bit_at_mask_above r (r + w) k b ])
            | inr l ↦
                bit_at_above (made mask) 128 k
                (or_lt 128 (bit_and n (2 ^ 128 - 1 - mask)) (bit_and (v * 2 ^ r % 2 ^ 128) mask)
                (omega (arith, and_le_l n (2 ^ 128 - 1 - mask))) (omega (arith, and_le_l (v * 2 ^ r % 2 ^ 128) mask))) l
                ∙ sym (bit_at_above n 128 k n_fits l)
          ]

pub ruleset patching = (mask_ordered, patched_inside, patched_outside)
