-- ChiChi and its inverse undo each other, at every even m above 2.
use Rattle.std.proofs.Common.{◌≡◌, ℕ, zero, suc, ◌+◌, ◌-◌, ◌*◌, ◌/◌, ◌%◌, ◌^◌, ◌<◌, Bool, false, sym, refl, ap, ◌∙◌, subst, arith}
use Rattle.bits.specs.Number.{bit}
use Rattle.bits.proofs.Numbers.{number_lt, number_ext, number_bits, bit-number, only_one}
use Rattle.layers.specs.Widths.{half, size}
use Rattle.layers.specs.declared.width.Width.{Width}
use Rattle.layers.specs.declared.width.Width.TheVariants.{W32, W40, W64, W128}
use Rattle.layers.specs.ChiChi.{chi_bit, chichi}
use Rattle.layers.specs.Inverse.{Pair, walk, around, fixed_pair, state_bit, chichi⁻¹, Undoes, Undone}
use Rattle.layers.proofs.Walks.{Odd, odd, odd-walk, one_end}
use Rattle.layers.proofs.Systems.{System, from_chi, to_chi, fixed, found, solved}

odd_is : (j : ℕ) → odd j ≡ 2 * j + 1
odd_is zero = refl
odd_is (suc j) = let e : odd j ≡ 2 * j + 1 = odd_is j in omega arith

module _ (m : ℕ) (even : m % 2 ≡ 0) (h : 2 < m) where
  odd_at : (y : ℕ → Bool) (i k : ℕ) → k % 2 ≡ 1 → Odd (walk y i k)
  odd_at y i k e = let q : odd (k / 2) ≡ k = odd_is (k / 2) ∙ omega arith in subst (λ (z : ℕ). Odd (walk y i z)) q (odd-walk y (k / 2) i)

  end : (y : ℕ → Bool) (s : Pair) → around m y (around m y s) ≡ fixed_pair m y
  end y s =
      one_end (y (m - 3)) (y (m - 2)) (y (m - 1)) (y m) (walk y 0 (m - 3)) (walk y (m + 1) (m - 1))
      (odd_at y 0 (m - 3) (omega arith)) (odd_at y (m + 1) (m - 1) (omega arith)) s

  undoes : (x y : ℕ → Bool) → ((i : ℕ) → i < m + m → y i ≡ chi_bit m x i)
      → (i : ℕ) → i < m + m → state_bit m y (fixed_pair m y) i ≡ x i
  undoes x y e i l =
      let s : System m x y = from_chi m h x y e in
      let f : around m y (x (m - 3), x (m - 2)) ≡ (x (m - 3), x (m - 2)) = fixed m h x y s in
      let t : fixed_pair m y ≡ (x (m - 3), x (m - 2)) = sym (end y (x (m - 3), x (m - 2))) ∙ ap (around m y) f ∙ f in
      ap (λ (p : Pair). state_bit m y p i) t ∙ found m h x y s i l

  undone : (x y : ℕ → Bool) → ((i : ℕ) → i < m + m → x i ≡ state_bit m y (fixed_pair m y) i)
      → (i : ℕ) → i < m + m → chi_bit m x i ≡ y i
  undone x y e i l = sym (to_chi m h x y (solved m h x y (fixed_pair m y) (end y (around m y (false, false))) e) i l)

pub chichi_undoes : Undoes
unfolding chichi chichi⁻¹
chichi_undoes m x even h =
    number_ext (m + m) (state_bit m (bit (chichi m x)) (fixed_pair m (bit (chichi m x)))) (bit x)
    (undoes m even h (bit x) (bit (chichi m x)) (λ i l. bit-number (m + m) (chi_bit m (bit x)) i l))
    ∙ number_bits (m + m) x

pub chichi_undone : Undone
unfolding chichi chichi⁻¹
chichi_undone m y even h =
    number_ext (m + m) (chi_bit m (bit (chichi⁻¹ m y))) (bit y)
    (undone m even h (bit (chichi⁻¹ m y)) (bit y) (λ i l. bit-number (m + m) (state_bit m (bit y) (fixed_pair m (bit y))) i l))
    ∙ number_bits (m + m) y

pub chichi_lt : (m x : ℕ) → chichi m x < 2 ^ (m + m)
unfolding chichi
chichi_lt m x = number_lt (m + m) (chi_bit m (bit x))

pub chichi⁻¹_lt : (m y : ℕ) → chichi⁻¹ m y < 2 ^ (m + m)
unfolding chichi⁻¹
chichi⁻¹_lt m y = number_lt (m + m) (state_bit m (bit y) (fixed_pair m (bit y)))

-- ---- at the four widths
half_even : (w : Width) → half w % 2 ≡ 0
half_even W32 = refl
half_even W40 = refl
half_even W64 = refl
half_even W128 = refl

half_above : (w : Width) → 2 < half w
half_above W32 = omega arith
half_above W40 = omega arith
half_above W64 = omega arith
half_above W128 = omega arith

module _ (w : Width) (y r : ℕ) (is : r ≡ chichi⁻¹ (half w) y) where
  pub inverse_fits : r < 2 ^ size w
  inverse_fits = subst (λ (z : ℕ). z < 2 ^ size w) (sym is) (chichi⁻¹_lt (half w) y)

  pub is_argument : chichi (half w) r ≡ y % 2 ^ size w
  is_argument = ap (chichi (half w)) is ∙ chichi_undone (half w) y (half_even w) (half_above w)

  pub no_other : (x : ℕ) → x < 2 ^ size w → chichi (half w) x ≡ y % 2 ^ size w → x ≡ r
  no_other x small e =
      only_one (size w) (chichi (half w)) (chichi⁻¹ (half w))
      (λ x. chichi_undoes (half w) x (half_even w) (half_above w)) (λ y. chichi_undone (half w) y (half_even w) (half_above w))
      (chichi⁻¹_lt (half w)) x y small e
      ∙ sym is

pub ruleset inversion = (inverse_fits, is_argument, no_other, chichi_undoes, chichi_undone)
