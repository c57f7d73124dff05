-- The bits of a number determine it, and any bits are a number's.
use Rattle.std.proofs.Common.{◌≡◌, ℕ, zero, suc, ◌+◌, ◌-◌, ◌*◌, ◌/◌, ◌%◌, ◌^◌, ◌<◌, ◌≤◌, Bool, true, false, eqb, sym, refl, ap, ◌∙◌, ap₂, inl, inr, mod-lt, mod-eq_of_lt, mul_assoc, add_comm, pow-suc, arith, pow_pos, pow_mono, pow-add}
use native.Mathlib.Nat.{add-mul-div_right, mul-add-mod_self_right, div-eq_of_lt, mod-one}
use lib.Bits.{bit_and}
use lib.Pow.{mod-pow-add, high}
use Rattle.std.proofs.lemmas.Nat.{shr-shr, one_shl, and_mask}
use Rattle.std.proofs.lemmas.Nat.Bits.{bit_at_above, bit_at-lt, same_from_bits}
use Rattle.std.specs.Int.{bit_at}
use Rattle.std.proofs.lemmas.Bool.{cases_lt}
use Rattle.bits.specs.Number.{bit, digit, number, part, BitsDetermine, BitsAreFree, PartBits}

lt_more : (b : Bool) (s p : ℕ) → s < p → s + digit b * p < p * 2
lt_more true s p h = omega arith
lt_more false s p h = omega arith

pub number_lt : (n : ℕ) (f : ℕ → Bool) → number n f < 2 ^ n
number_lt zero f = omega arith
number_lt (suc n) f = rw pow-suc (lt_more (f n) (number n f) (2 ^ n) (number_lt n f))

pub number_ext : (n : ℕ) (f g : ℕ → Bool) → ((i : ℕ) → i < n → f i ≡ g i) → number n f ≡ number n g
number_ext zero f g h = refl
number_ext (suc n) f g h =
    ap₂ (λ (s : ℕ) (b : Bool). s + digit b * 2 ^ n) (number_ext n f g (λ i k. h i (omega arith))) (h n (omega arith))

digit-bit : (r : ℕ) → r < 2 → digit (eqb r 1) ≡ r
digit-bit zero h = refl
digit-bit (suc zero) h = refl
digit-bit (suc (suc r)) h = absurd (omega arith)

bit-digit : (b : Bool) → eqb (digit b % 2) 1 ≡ b
bit-digit true = refl
bit-digit false = refl

-- the low n bits of x are a remainder
pub number_bits : (n x : ℕ) → number n (bit x) ≡ x % 2 ^ n
number_bits zero x = sym (mod-one x)
number_bits (suc n) x =
    ap₂ (λ (a b : ℕ). a + b * 2 ^ n) (number_bits n x) (digit-bit (x / 2 ^ n % 2) (mod-lt (x / 2 ^ n) (omega arith)))
    ∙ add_comm (x % 2 ^ n) (x / 2 ^ n % 2 * 2 ^ n) ∙ sym (mod-pow-add x 1 n) ∙ ap (λ (k : ℕ). x % 2 ^ k) (omega arith)

pub number_self : (n x : ℕ) → x < 2 ^ n → number n (bit x) ≡ x
number_self n x h = number_bits n x ∙ mod-eq_of_lt h

-- a digit above bit i does not change it
below_digit : (s d i k : ℕ) → (s + d * 2 ^ (suc k + i)) / 2 ^ i % 2 ≡ s / 2 ^ i % 2
below_digit s d i k =
    ap (λ (z : ℕ). (s + z) / 2 ^ i % 2) (ap (λ (z : ℕ). d * z) (pow-add 2 (suc k) i) ∙ sym (mul_assoc d (2 ^ suc k) (2 ^ i)))
    ∙ ap (λ (z : ℕ). z % 2) (add-mul-div_right s (d * 2 ^ suc k) (pow_pos i)
    ∙ add_comm (s / 2 ^ i) (d * 2 ^ suc k)
    ∙ ap (λ (z : ℕ). z + s / 2 ^ i) (ap (λ (z : ℕ). d * z) (pow-suc 2 k) ∙ sym (mul_assoc d (2 ^ k) 2)))
    ∙ mul-add-mod_self_right (d * 2 ^ k) 2 (s / 2 ^ i)

pub bit-number : (n : ℕ) (f : ℕ → Bool) (i : ℕ) → i < n → bit (number n f) i ≡ f i
bit-number zero f i h = absurd (omega arith)
bit-number (suc n) f i h = elim (cases_lt i n) [ inl l ↦ lower l (bit-number n f i l) | inr g ↦ top (omega arith) ]
  where
    lower : i < n → bit (number n f) i ≡ f i → bit (number n f + digit (f n) * 2 ^ n) i ≡ f i
    lower l ih =
        ap (λ (z : ℕ). eqb z 1)
        (ap (λ (z : ℕ). (number n f + digit (f n) * 2 ^ z) / 2 ^ i % 2) (let e : n ≡ suc (n - suc i) + i = omega arith in e)
        ∙ below_digit (number n f) (digit (f n)) i (n - suc i))
        ∙ ih

    top : i ≡ n → bit (number n f + digit (f n) * 2 ^ n) i ≡ f i
    top e =
        ap (λ (z : ℕ). bit (number n f + digit (f n) * 2 ^ n) z) e
        ∙ ap (λ (z : ℕ). eqb (z % 2) 1) (ap (λ (z : ℕ). z / 2 ^ n) (add_comm (number n f) (digit (f n) * 2 ^ n)) ∙ high (digit (f n)) n (number_lt n f))
        ∙ bit-digit (f n) ∙ ap f (sym e)

-- a number is known by its bits
pub number_from_bits : (n r : ℕ) (f : ℕ → Bool) → ((i : ℕ) → i < n → bit r i ≡ f i) → ((i : ℕ) → n ≤ i → bit r i ≡ false) → r ≡ number n f
number_from_bits n r f low high =
    same_from_bits r (number n f)
    (λ i. sym (digit-bit (bit_at r i) (bit_at-lt r i))
    ∙ ap digit (elim (cases_lt i n) [
      | inl l ↦ low i l ∙ sym (bit-number n f i l)
      | inr l ↦ high i l ∙ ap (λ (z : ℕ). eqb z 1) (sym (bit_at_above (number n f) n i (number_lt n f) l))
    ])
    ∙ digit-bit (bit_at (number n f) i) (bit_at-lt (number n f) i))

pub bits_determine : BitsDetermine
unfolding BitsDetermine
bits_determine n x y hx hy e = sym (number_self n x hx) ∙ number_ext n (bit x) (bit y) e ∙ number_self n y hy

pub bits_are_free : BitsAreFree
bits_are_free n f = (number_lt n f, bit-number n f)

pub part_bits : PartBits
part_bits x a n i l =
    ap (λ (z : ℕ). bit z i) (sym (number_bits n (x / 2 ^ a))) ∙ bit-number n (bit (x / 2 ^ a)) i l
    ∙ ap (λ (z : ℕ). eqb (z % 2) 1) (shr-shr x a i)

pub ruleset bits_of_parts = (part_bits, bits_determine, bits_are_free)

pub part_lt : (x a n : ℕ) → part x a n < 2 ^ n
part_lt x a n = mod-lt (x / 2 ^ a) (pow_pos n)

-- a number is below every power that is not below that of its width
pub high_zero : (x w k : ℕ) → x < 2 ^ w → w ≤ k → x / 2 ^ k ≡ 0
high_zero x w k h l = div-eq_of_lt (let p : 2 ^ w ≤ 2 ^ k = pow_mono l in omega arith)

pub shifted_past : (x k : ℕ) → x < 2 ^ 128 → 128 ≤ k → x / 2 ^ k ≡ 0
shifted_past x k h l = high_zero x 128 k h l

pub masked : (x k p : ℕ) → k < 128 → p ≡ 1 * 2 ^ k % 2 ^ 128 → bit_and x (p - 1) ≡ x % 2 ^ k
masked x k p l e = ap (λ (z : ℕ). bit_and x (z - 1)) (e ∙ one_shl k 128 l) ∙ and_mask x k

pub low_all_128 : (x k : ℕ) → x < 2 ^ 128 → 128 ≤ k → x % 2 ^ k ≡ x
low_all_128 x k h l = mod-eq_of_lt (let p : 2 ^ 128 ≤ 2 ^ k = pow_mono l in omega arith)

-- two functions that undo each other on n bits: the inverse's value is the only argument with that value
pub only_one : (n : ℕ) (f f⁻¹ : ℕ → ℕ) → ((x : ℕ) → f⁻¹ (f x) ≡ x % 2 ^ n) → ((y : ℕ) → f (f⁻¹ y) ≡ y % 2 ^ n)
    → ((y : ℕ) → f⁻¹ y < 2 ^ n) → (x y : ℕ) → x < 2 ^ n → f x ≡ y % 2 ^ n → x ≡ f⁻¹ y
only_one n f f⁻¹ undoes undone small x y hx e =
    sym (undoes x ∙ mod-eq_of_lt hx) ∙ ap f⁻¹ (e ∙ sym (undone y)) ∙ undoes (f⁻¹ y) ∙ mod-eq_of_lt (small y)
