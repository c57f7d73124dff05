-- Laws of bits in bytes, and the steps of reading and writing a field.
use Rattle.std.proofs.Common.{◌≡◌, ℕ, zero, suc, ◌+◌, ◌-◌, ◌*◌, ◌/◌, ◌%◌, ◌^◌, ◌<◌, ◌≤◌, ◌⊎◌, List, length, get_or, sym, refl, ap, ◌∙◌, subst, ap₂, inl, inr, ⊎_elim, add-zero, add_assoc, add-suc, mod-eq_of_lt, mul_assoc, pow-suc, div-one, arith}
use lib.Bits.{bit_or}
use native.Mathlib.Nat.{mod-one}
use lib.Pow.{mod-mod-pow}
use Rattle.std.proofs.lemmas.Nat.{shr-shr, mod-pow-add, field_of, shr_high, mod_low, shl_whole, or_shifted}
use Rattle.std.proofs.lemmas.List.{same_lists, get_or_default, get_or_past}
use Rattle.std.proofs.lemmas.Bool.{cases_lt}
use Rattle.bits.specs.Number.{part}
use Rattle.bits.specs.Field.{bit_in, field, Written, ReadsBack, KeepsOthers, BitsAreAll}

-- ---- fields
shift_suc : (a k : ℕ) → a * 2 ^ suc k ≡ a * 2 ^ k * 2
shift_suc a k = ap (λ (x : ℕ). a * x) (pow-suc 2 k) ∙ sym (mul_assoc a (2 ^ k) 2)

bit_lt : (bs : List ℕ) (j : ℕ) → bit_in bs j < 2
unfolding bit_in
bit_lt bs j = omega arith

pub field_lt : (bs : List ℕ) (o w : ℕ) → field bs o w < 2 ^ w
unfolding field
field_lt bs o zero = omega arith
field_lt bs o (suc w) = omega (arith, field_lt bs o w, bit_lt bs (o + w), pow-suc 2 w)

pub field_split : (bs : List ℕ) (o w n : ℕ) → field bs o (w + n) ≡ field bs o w * 2 ^ n + field bs (o + w) n
unfolding field
field_split bs o w zero = omega (arith, ap (field bs o) (add-zero w))
field_split bs o w (suc n) =
    omega (arith, ap (field bs o) (add-suc w n), field_split bs o w n, shift_suc (field bs o w) n, ap (bit_in bs) (add_assoc o w n))

pub field_same : (xs ys : List ℕ) (o w : ℕ) → ((j : ℕ) → o ≤ j → j < o + w → bit_in xs j ≡ bit_in ys j) → field xs o w ≡ field ys o w
unfolding field
field_same xs ys o zero h = refl
field_same xs ys o (suc w) h =
    ap₂ (λ x y. x * 2 + y) (field_same xs ys o w (λ j a b. h j a (omega arith))) (h (o + w) (omega arith) (omega arith))

-- a field whose bits are those of v is v's low bits
pub field_is : (bs : List ℕ) (o w s v : ℕ) → ((j : ℕ) → o ≤ j → j < o + w → bit_in bs j ≡ v / 2 ^ (o + w + s - 1 - j) % 2) → field bs o w ≡ v / 2 ^ s % 2 ^ w
unfolding field
field_is bs o zero s v h = sym (mod-one _)
field_is bs o (suc w) s v h =
    let e : o + suc w + s - 1 - (o + w) ≡ s = omega arith in
    let ih : field bs o w ≡ v / 2 ^ (suc s) % 2 ^ w = field_is bs o w (suc s) v (λ j a b. h j a (omega arith) ∙ ap (λ (k : ℕ). v / 2 ^ k % 2) (let q : o + suc w + s - 1 - j ≡ o + w + suc s - 1 - j = omega arith in q)) in
    let here : bit_in bs (o + w) ≡ v / 2 ^ s % 2 = h (o + w) (omega arith) (omega arith) ∙ ap (λ (k : ℕ). v / 2 ^ k % 2) e in
    let up : v / 2 ^ suc s ≡ v / 2 ^ s / 2 = ap (λ (k : ℕ). v / 2 ^ k) (let q : suc s ≡ s + 1 = omega arith in q) ∙ sym (shr-shr v s 1) in
    ap₂ (λ (a b : ℕ). a * 2 + b) (ih ∙ ap (λ (z : ℕ). z % 2 ^ w) up) here
    ∙ sym (mod-pow-add (v / 2 ^ s) w 1) ∙ ap (λ (k : ℕ). v / 2 ^ s % 2 ^ k) (let q : w + 1 ≡ suc w = omega arith in q)

-- ---- bits of one byte
bit_byte : (bs : List ℕ) (q p : ℕ) → p < 8 → bit_in bs (q * 8 + p) ≡ get_or bs q 0 / 2 ^ (7 - p) % 2
unfolding bit_in
bit_byte bs q p h =
    let a : (q * 8 + p) / 8 ≡ q = omega arith in
    let b : (q * 8 + p) % 8 ≡ p = omega arith in
    ap₂ (λ x y. get_or bs x 0 / 2 ^ (7 - y) % 2) a b

pub field_byte : (bs : List ℕ) (q p n : ℕ) → p + n ≤ 8 → field bs (q * 8 + p) n ≡ get_or bs q 0 / 2 ^ (8 - (p + n)) % 2 ^ n
field_byte bs q p n h =
    field_is bs (q * 8 + p) n (8 - (p + n)) (get_or bs q 0)
    (λ j a b.
    let i : ℕ = j - q * 8 in
    let e : j ≡ q * 8 + i = omega arith in
    let f : 7 - i ≡ q * 8 + p + n + (8 - (p + n)) - 1 - j = omega arith in
    ap (bit_in bs) e ∙ bit_byte bs q i (omega arith) ∙ ap (λ (k : ℕ). get_or bs q 0 / 2 ^ k % 2) f)

below_bit : (x j k : ℕ) → x / 2 ^ k % 2 ≡ x % 2 ^ (j + (1 + k)) % 2 ^ (1 + k) / 2 ^ k
below_bit x j k = sym (field_of x 1 k) ∙ ap (λ z. z / 2 ^ k) (sym (mod-mod-pow x j (1 + k)))

pub below_same : (x y s k : ℕ) → k < s → x % 2 ^ s ≡ y % 2 ^ s → x / 2 ^ k % 2 ≡ y / 2 ^ k % 2
below_same x y s k h e =
    let j : ℕ = s - (1 + k) in
    let g : s ≡ j + (1 + k) = omega arith in
    below_bit x j k ∙ ap (λ z. z % 2 ^ (1 + k) / 2 ^ k) (ap (λ t. x % 2 ^ t) (sym g) ∙ e ∙ ap (λ t. y % 2 ^ t) g) ∙ sym (below_bit y j k)

-- ---- the bytes from a up to e as one number
byte_is : (bs : List ℕ) (i : ℕ) → get_or bs i 0 < 256 → field bs (i * 8 + 0) 8 ≡ get_or bs i 0
byte_is bs i h = field_byte bs i 0 8 (omega arith) ∙ ap (λ (z : ℕ). z % 2 ^ 8) (div-one (get_or bs i 0)) ∙ mod-eq_of_lt h

-- one more byte
pub byte_after : (bs : List ℕ) (a k v : ℕ) → k < 9 → get_or bs (a + k) 0 < 256 → v ≡ field bs (a * 8) (k * 8)
    → bit_or (v * 2 ^ 8 % 2 ^ 128) (get_or bs (a + k) 0) ≡ field bs (a * 8) (suc k * 8)
byte_after bs a k v l h is =
    let b : ℕ = get_or bs (a + k) 0 in
    let small : v < 2 ^ (k * 8) = subst (λ (n : ℕ). n < 2 ^ (k * 8)) (sym is) (field_lt bs (a * 8) (k * 8)) in
    ap (λ (n : ℕ). bit_or n b) (shl_whole v (k * 8) 8 128 small (omega arith)) ∙ or_shifted v 8 b h
    ∙ ap₂ (λ (n c : ℕ). n * 2 ^ 8 + c) is (sym (byte_is bs (a + k) h) ∙ ap (λ (o : ℕ). field bs o 8) (let e : (a + k) * 8 + 0 ≡ a * 8 + k * 8 = omega arith in e))
    ∙ sym (field_split bs (a * 8) (k * 8) 8) ∙ ap (field bs (a * 8)) (let e : k * 8 + 8 ≡ suc k * 8 = omega arith in e)

-- bit j of a field
field_bit : (bs : List ℕ) (o w j : ℕ) → o ≤ j → j < o + w → field bs o w / 2 ^ (o + w - 1 - j) % 2 ≡ bit_in bs j
unfolding field
field_bit bs o w j l u =
    let r : ℕ = o + w - 1 - j in
    let e : w ≡ suc (j - o) + r = omega arith in
    let q : o + (j - o) ≡ j = omega arith in
    let lt : bit_in bs (o + (j - o)) < 2 = bit_lt bs (o + (j - o)) in
    ap (λ (z : ℕ). field bs o z / 2 ^ r % 2) e
    ∙ ap (λ (z : ℕ). z / 2 ^ r % 2) (field_split bs o (suc (j - o)) r)
    ∙ ap (λ (z : ℕ). z % 2) (shr_high (field bs o (suc (j - o))) r (field bs (o + suc (j - o)) r) (field_lt bs (o + suc (j - o)) r))
    ∙ (let p : (field bs o (j - o) * 2 + bit_in bs (o + (j - o))) % 2 ≡ bit_in bs (o + (j - o)) = omega arith in p)
    ∙ ap (bit_in bs) q

-- past the end all bits are 0
past_end : (xs ys : List ℕ) (j : ℕ) → length ys ≡ length xs → length xs * 8 ≤ j → bit_in ys j ≡ bit_in xs j
unfolding bit_in
past_end xs ys j long l = ap (λ (b : ℕ). b / 2 ^ (7 - j % 8) % 2) (get_or_past ys (j / 8) 0 (omega arith) ∙ sym (get_or_past xs (j / 8) 0 (omega arith)))

module _ (o a e w r : ℕ) (begins : a * 8 ≤ o) (ends : o + w + r ≡ e * 8) where
  -- the field that stands in them, before the last r bits
  pub part_is : (bs : List ℕ) → part (field bs (a * 8) ((e - a) * 8)) r w ≡ field bs o w
  part_is bs =
      let d : ℕ = o - a * 8 in
      let k : (e - a) * 8 ≡ d + w + r = omega arith in
      let q : a * 8 + d ≡ o = omega arith in
      ap (λ (z : ℕ). part (field bs (a * 8) z) r w) k
      ∙ ap (λ (z : ℕ). z / 2 ^ r % 2 ^ w) (field_split bs (a * 8) (d + w) r)
      ∙ ap (λ (z : ℕ). z % 2 ^ w) (shr_high (field bs (a * 8) (d + w)) r _ (field_lt bs (a * 8 + (d + w)) r) ∙ field_split bs (a * 8) d w)
      ∙ mod_low (field bs (a * 8) d) w (field bs (a * 8 + d) w) (field_lt bs (a * 8 + d) w)
      ∙ ap (λ (z : ℕ). field bs z w) q

  -- where the number's bits are turned to those of v in the field's place, writing the number writes the field
  pub span_written : (xs ys : List ℕ) (n v : ℕ) → ((k : ℕ) → k < w → n / 2 ^ (r + k) % 2 ≡ v / 2 ^ k % 2)
      → ((k : ℕ) → (k < r) ⊎ (r + w ≤ k) → n / 2 ^ k % 2 ≡ field xs (a * 8) ((e - a) * 8) / 2 ^ k % 2)
      → Written xs ys (a * 8) ((e - a) * 8) n → Written xs ys o w v
  span_written xs ys n v inside outside h = record {
    long = h.long;
    inside = λ j l u b.
        h.inside j (omega arith) (omega arith) b
        ∙ ap (λ (k : ℕ). n / 2 ^ k % 2) (let q : a * 8 + (e - a) * 8 - 1 - j ≡ r + (o + w - 1 - j) = omega arith in q)
        ∙ inside (o + w - 1 - j) (omega arith);
    outside = λ j out. elim (cases_lt j (a * 8)) [
      | inl l ↦ h.outside j (inl l)
      | inr l ↦
          elim (cases_lt j (e * 8)) [
            | inl u ↦ elim (cases_lt j (length xs * 8)) [
              | inl b ↦
                  h.inside j l (omega arith) (omega arith)
                  ∙ outside (a * 8 + (e - a) * 8 - 1 - j) (⊎_elim (λ k. inr (omega arith)) (λ k. inl (omega arith)) out)
                  ∙ field_bit xs (a * 8) ((e - a) * 8) j l (omega arith)
              | inr b ↦ past_end xs ys j h.long (omega arith)
            ]
            | inr u ↦ h.outside j (inr (omega arith))
          ]
    ];
  }

pub reads_back : ReadsBack
reads_back xs ys o w v h room =
    field_is ys o w 0 v (λ j a b. h.inside j a b (omega arith) ∙ ap (λ (k : ℕ). v / 2 ^ k % 2) (let e : o + w - 1 - j ≡ o + w + 0 - 1 - j = omega arith in e))
    ∙ ap (λ (z : ℕ). z % 2 ^ w) (omega arith)

pub keeps_others : KeepsOthers
keeps_others xs ys o w v h p u out =
    field_same ys xs p u (λ j a b. h.outside j (⊎_elim (λ l. inl (omega arith)) (λ l. inr (omega arith)) out))

pub bits_are_all : BitsAreAll
bits_are_all xs ys hx hy long same =
    same_lists xs ys long
    (λ k d l.
    get_or_default xs k d 0 l
    ∙ sym (byte_is xs k (hx k)) ∙ field_same xs ys (k * 8 + 0) 8 (λ j _ _. same j) ∙ byte_is ys k (hy k)
    ∙ get_or_default ys k 0 d (omega arith))
