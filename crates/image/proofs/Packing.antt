-- Bytes of a number, and fields one after the other as a number.
use Rattle.std.proofs.Common.{◌≡◌, ℕ, zero, suc, ◌+◌, ◌-◌, ◌*◌, ◌/◌, ◌%◌, ◌^◌, ◌<◌, ◌≤◌, List, [], ◌∷◌, map, length, get_or, sym, refl, ap, ◌∙◌, ap₂, add_assoc, mul_assoc, add-mul, zero-add, zero-mul, arith}
use native.Mathlib.Nat.{mod-mod}
use lib.Arith.{digits_lt}
use Rattle.std.proofs.lemmas.Nat.{pow-add, shr-shr, shr_high, mod_low}
use Rattle.std.specs.List.{range_with_len}
use Rattle.bits.specs.Field.{bit_in, field}
use Rattle.bits.proofs.Fields.{below_same, field_is, field_lt, field_split}
use Rattle.image.specs.Layout.{Field, joined, widths, bytes_of}

-- ---- bytes of a number
pub length_bytes : (n v : ℕ) → length (bytes_of n v) ≡ n
length_bytes zero v = refl
length_bytes (suc n) v = ap suc (length_bytes n v)

pub byte_of_lem : (n v k : ℕ) → k < n → get_or (bytes_of n v) k 0 ≡ v / 2 ^ (8 * (n - 1 - k)) % 256
byte_of_lem zero v k h = absurd (omega arith)
byte_of_lem (suc n) v zero h = ap (λ (z : ℕ). v / 2 ^ (8 * z) % 256) (omega arith)
byte_of_lem (suc n) v (suc k) h = byte_of_lem n v k (omega arith) ∙ ap (λ (z : ℕ). v / 2 ^ (8 * z) % 256) (omega arith)

bit_of_lem : (n v j : ℕ) → j < 8 * n → bit_in (bytes_of n v) j ≡ v / 2 ^ (8 * n - 1 - j) % 2
unfolding bit_in
bit_of_lem n v j h =
    let y : ℕ = v / 2 ^ (8 * (n - 1 - j / 8)) in
    ap (λ (z : ℕ). z / 2 ^ (7 - j % 8) % 2) (byte_of_lem n v (j / 8) (omega arith))
    ∙ below_same (y % 2 ^ 8) y 8 (7 - j % 8) (omega arith) (mod-mod y (2 ^ 8))
    ∙ ap (λ (z : ℕ). z % 2) (shr-shr v (8 * (n - 1 - j / 8)) (7 - j % 8))
    ∙ ap (λ (z : ℕ). v / 2 ^ z % 2) (let e : 8 * (n - 1 - j / 8) + (7 - j % 8) ≡ 8 * n - 1 - j = omega arith in e)

pub field_of_bytes : (n v o w : ℕ) → o + w ≤ 8 * n → field (bytes_of n v) o w ≡ v / 2 ^ (8 * n - o - w) % 2 ^ w
field_of_bytes n v o w h =
    field_is (bytes_of n v) o w (8 * n - o - w) v
    (λ j a b. bit_of_lem n v j (omega arith) ∙ ap (λ (z : ℕ). v / 2 ^ z % 2) (let e : 8 * n - 1 - j ≡ o + w + (8 * n - o - w) - 1 - j = omega arith in e))

-- a field is a part of a longer one
pub field-part : (bs : List ℕ) (N o w : ℕ) → o + w ≤ N → field bs 0 N / 2 ^ (N - o - w) % 2 ^ w ≡ field bs o w
field-part bs N o w h =
    let e : N ≡ o + w + (N - o - w) = omega arith in
    ap (λ (z : ℕ). z / 2 ^ (N - o - w) % 2 ^ w) (ap (field bs 0) e ∙ field_split bs 0 (o + w) (N - o - w))
    ∙ ap (λ (z : ℕ). z % 2 ^ w) (shr_high (field bs 0 (o + w)) (N - o - w) (field bs (0 + (o + w)) (N - o - w)) (field_lt bs (0 + (o + w)) (N - o - w)))
    ∙ ap (λ (z : ℕ). z % 2 ^ w) (field_split bs 0 o w) ∙ mod_low (field bs 0 o) w (field bs (0 + o) w) (field_lt bs (0 + o) w)
    ∙ ap (λ (z : ℕ). field bs z w) (zero-add o)

-- ---- fields one after the other
pub joined_is : (fs : List Field) (v : ℕ) → joined fs v ≡ v * 2 ^ widths fs + joined fs 0
joined_is [] v = omega arith
joined_is (f ∷ fs) v =
    let w : ℕ = widths fs in
    joined_is fs (v * 2 ^ f.0 + f.1)
    ∙ ap (λ (z : ℕ). z + joined fs 0) (add-mul (v * 2 ^ f.0) f.1 (2 ^ w) ∙ ap (λ (z : ℕ). z + f.1 * 2 ^ w) (mul_assoc v (2 ^ f.0) (2 ^ w) ∙ ap (λ (z : ℕ). v * z) (sym (pow-add 2 f.0 w))))
    ∙ add_assoc (v * 2 ^ (f.0 + w)) (f.1 * 2 ^ w) (joined fs 0)
    ∙ ap (λ (z : ℕ). v * 2 ^ (f.0 + w) + z) (sym (joined_is fs (0 * 2 ^ f.0 + f.1) ∙ ap (λ (z : ℕ). z * 2 ^ w + joined fs 0) (let e : 0 * 2 ^ f.0 + f.1 ≡ f.1 = ap (λ (z : ℕ). z + f.1) (zero-mul (2 ^ f.0)) ∙ zero-add f.1 in e)))

module _ (B : ℕ) where
  abbrev uniform : List ℕ → List Field
  uniform rs = map (λ r. (B, r)) rs

  pub widths-uniform : (rs : List ℕ) → widths (uniform rs) ≡ length rs * B
  widths-uniform [] = sym (zero-mul B)
  widths-uniform (r ∷ rs) = ap (λ (z : ℕ). B + z) (widths-uniform rs) ∙ sym (suc_mul' (length rs))
    where
      suc_mul' : (n : ℕ) → suc n * B ≡ B + n * B
      suc_mul' n = ap (λ (z : ℕ). z * B) (let e : suc n ≡ 1 + n = omega arith in e) ∙ add-mul 1 n B ∙ ap (λ (z : ℕ). z + n * B) (omega arith)

  pub uniform_lt : (rs : List ℕ) → ((k : ℕ) → k < length rs → get_or rs k 0 < 2 ^ B) → joined (uniform rs) 0 < 2 ^ widths (uniform rs)
  uniform_lt [] h = omega arith
  uniform_lt (r ∷ rs) h =
      let e : joined (uniform (r ∷ rs)) 0 ≡ r * 2 ^ widths (uniform rs) + joined (uniform rs) 0 =
      joined_is (uniform rs) (0 * 2 ^ B + r) ∙ ap (λ (z : ℕ). z * 2 ^ widths (uniform rs) + joined (uniform rs) 0) (ap (λ (z : ℕ). z + r) (zero-mul (2 ^ B)) ∙ zero-add r) in
      let l : r * 2 ^ widths (uniform rs) + joined (uniform rs) 0 < 2 ^ B * 2 ^ widths (uniform rs) =
      digits_lt (h 0 (omega arith)) (uniform_lt rs (λ k b. h (suc k) (omega arith))) in
      let p : 2 ^ (B + widths (uniform rs)) ≡ 2 ^ B * 2 ^ widths (uniform rs) = pow-add 2 B (widths (uniform rs)) in
      omega arith

  -- record k of those laid out
  pub uniform_at : (rs : List ℕ) → ((k : ℕ) → k < length rs → get_or rs k 0 < 2 ^ B) → (v k : ℕ) → k < length rs
      → joined (uniform rs) v / 2 ^ ((length rs - 1 - k) * B) % 2 ^ B ≡ get_or rs k 0
  uniform_at [] h v k l = absurd (omega arith)
  uniform_at (r ∷ rs) h v zero l =
      let e : (suc (length rs) - 1 - 0) * B ≡ widths (uniform rs) = ap (λ (z : ℕ). z * B) (let q : suc (length rs) - 1 - 0 ≡ length rs = omega arith in q) ∙ sym (widths-uniform rs) in
      ap₂ (λ (x y : ℕ). x / 2 ^ y % 2 ^ B) (joined_is (uniform rs) (v * 2 ^ B + r)) e
      ∙ ap (λ (z : ℕ). z % 2 ^ B) (shr_high (v * 2 ^ B + r) (widths (uniform rs)) (joined (uniform rs) 0) (uniform_lt rs (λ k b. h (suc k) (omega arith))))
      ∙ mod_low v B r (h 0 l)
  uniform_at (r ∷ rs) h v (suc k) l =
      ap (λ (z : ℕ). joined (uniform rs) (v * 2 ^ B + r) / 2 ^ (z * B) % 2 ^ B) (let q : suc (length rs) - 1 - suc k ≡ length rs - 1 - k = omega arith in q)
      ∙ uniform_at rs (λ k b. h (suc k) (omega arith)) (v * 2 ^ B + r) k (omega arith)

  -- the records of bytes, laid out again, are the bits that they were read from
  pub uniform_read : (bs : List ℕ) (o c a : ℕ)
      → joined (uniform (map (λ k. field bs (o + k * B) B) (range_with_len a c))) (field bs 0 (o + a * B)) ≡ field bs 0 (o + (a + c) * B)
  uniform_read bs o zero a = ap (λ (z : ℕ). field bs 0 (o + z * B)) (let q : a ≡ a + 0 = omega arith in q)
  uniform_read bs o (suc c) a =
      let m : o + a * B + B ≡ o + (a + 1) * B = ap (λ (z : ℕ). z) (add_assoc o (a * B) B) ∙ ap (λ (z : ℕ). o + z) (sym (add-mul a 1 B ∙ ap (λ (z : ℕ). a * B + z) (omega arith))) in
      ap (joined (uniform (map (λ k. field bs (o + k * B) B) (range_with_len (a + 1) c))))
      (sym (field_split bs 0 (o + a * B) B ∙ ap (λ (z : ℕ). field bs 0 (o + a * B) * 2 ^ B + field bs z B) (zero-add (o + a * B))) ∙ ap (field bs 0) m)
      ∙ uniform_read bs o c (a + 1) ∙ ap (λ (z : ℕ). field bs 0 (o + z * B)) (let q : a + 1 + c ≡ a + suc c = omega arith in q)
