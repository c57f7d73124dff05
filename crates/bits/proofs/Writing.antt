-- The bytes of a number put into a list at once.
use Rattle.std.proofs.Common.{◌≡◌, ℕ, zero, suc, ◌+◌, ◌-◌, ◌*◌, ◌/◌, ◌%◌, ◌^◌, ◌<◌, ◌≤◌, ◌⊎◌, min, List, length, get_or, take, drop, sym, refl, ap, ◌∙◌, inl, inr, ⊎_elim, div-one, pow-suc, pow-add, arith, rules}
use native.Mathlib.Nat.{mod-mod}
use borrow.Rule.Slice.PartMut.{put_mid}
use Rattle.std.specs.Int.{byte_at, bytes_high_first}
use Rattle.std.proofs.lemmas.List.{places}
use Rattle.std.proofs.lemmas.Nat.{shr-shr}
use Rattle.bits.specs.Field.{bit_in, Written}
use Rattle.bits.proofs.Fields.{below_same}

powers : (i : ℕ) → 256 ^ i ≡ 2 ^ (i * 8)
powers zero = refl
powers (suc i) = pow-suc 256 i ∙ ap (λ (z : ℕ). z * 256) (powers i) ∙ sym (pow-add 2 (i * 8) 8) ∙ ap (λ (z : ℕ). 2 ^ z) (let e : i * 8 + 8 ≡ suc i * 8 = omega arith in e)

byte_is : (i n : ℕ) → byte_at i n ≡ n / 2 ^ (i * 8) % 256
byte_is zero n = ap (λ (z : ℕ). z % 256) (sym (div-one n))
byte_is (suc i) n = ap (λ (z : ℕ). n / z % 256) (powers (suc i))

byte_of : (m n k : ℕ) → k < m → get_or (bytes_high_first m n) k 0 ≡ n / 2 ^ ((m - 1 - k) * 8) % 256
byte_of zero n k l = absurd (omega arith)
byte_of (suc m) n zero l = byte_is m n ∙ ap (λ (z : ℕ). n / 2 ^ (z * 8) % 256) (let e : m ≡ suc m - 1 - 0 = omega arith in e)
byte_of (suc m) n (suc k) l = byte_of m n k (omega arith) ∙ ap (λ (z : ℕ). n / 2 ^ (z * 8) % 256) (let e : m - 1 - k ≡ suc m - 1 - suc k = omega arith in e)

mid_in : (a k : ℕ) (xs ys : List ℕ) (i : ℕ) → length ys ≡ k → a + k ≤ length xs → i < k → get_or (put_mid a k xs ys) (a + i) 0 ≡ get_or ys i 0
mid_in a k xs ys i e h l = search (rules, places)

mid_out : (a k : ℕ) (xs ys : List ℕ) (i : ℕ) → length ys ≡ k → a + k ≤ length xs → (i < a) ⊎ (a + k ≤ i) → get_or (put_mid a k xs ys) i 0 ≡ get_or xs i 0
mid_out a k xs ys i e h (inl l) = search (rules, places)
mid_out a k xs ys i e h (inr l) = search (rules, places)

mid_long : (a k : ℕ) (xs ys : List ℕ) → length ys ≡ k → a + k ≤ length xs → length (put_mid a k xs ys) ≡ length xs
mid_long a k xs ys e h = search (rules, places)

part_long : (m s t : ℕ) (be : List ℕ) → s + t ≤ length be → m ≤ t → length (take m (take t (drop s be))) ≡ m
part_long m s t be h l = search (rules, places)

part_at : (m s t k : ℕ) (be : List ℕ) → s + t ≤ length be → m ≤ t → k < m → get_or (take m (take t (drop s be))) k 0 ≡ get_or be (s + k) 0
part_at m s t k be h l u = search (rules, places)

-- after is before with the bytes from a up to e turned to those of n, as far as there are bytes
bytes_written : (xs ys : List ℕ) (a e n : ℕ) → length ys ≡ length xs
    → ((i : ℕ) → a ≤ i → i < e → i < length xs → get_or ys i 0 ≡ n / 2 ^ ((e - 1 - i) * 8) % 256)
    → ((i : ℕ) → (i < a) ⊎ (e ≤ i) → get_or ys i 0 ≡ get_or xs i 0) → Written xs ys (a * 8) ((e - a) * 8) n
unfolding bit_in
bytes_written xs ys a e n long inside outside = record {
  long = long;
  inside = λ j l u b.
      let m : ℕ = n / 2 ^ ((e - 1 - j / 8) * 8) in
      ap (λ (z : ℕ). z / 2 ^ (7 - j % 8) % 2) (inside (j / 8) (omega arith) (omega arith) b)
      ∙ below_same (m % 256) m 8 (7 - j % 8) (omega arith) (mod-mod m 256)
      ∙ ap (λ (z : ℕ). z % 2) (shr-shr n ((e - 1 - j / 8) * 8) (7 - j % 8))
      ∙ ap (λ (z : ℕ). n / 2 ^ z % 2) (let q : (e - 1 - j / 8) * 8 + (7 - j % 8) ≡ a * 8 + (e - a) * 8 - 1 - j = omega arith in q);
  outside = λ j out.
      ap (λ (z : ℕ). z / 2 ^ (7 - j % 8) % 2) (outside (j / 8) (⊎_elim (λ l. inl (omega arith)) (λ l. inr (omega arith)) out));
}

module _ (xs be new : List ℕ) (a e t n : ℕ) (few : e ≤ a + 9) (some : a < t) (cut : t ≡ min e (length xs)) (is : be ≡ bytes_high_first 16 n)
    (after : new ≡ take (t - a) (take (16 - (16 - (e - a))) (drop (16 - (e - a)) be))) where
  be_long : length be ≡ 16
  be_long = ap (length {A = ℕ}) is

  new_long : length new ≡ t - a
  new_long = ap (length {A = ℕ}) after ∙ part_long (t - a) (16 - (e - a)) (16 - (16 - (e - a))) be (omega (arith, be_long)) (omega arith)

  inner : (i : ℕ) → a ≤ i → i < t → get_or (put_mid a (t - a) xs new) i 0 ≡ n / 2 ^ ((e - 1 - i) * 8) % 256
  inner i l u =
      ap (λ (z : ℕ). get_or (put_mid a (t - a) xs new) z 0) (let q : i ≡ a + (i - a) = omega arith in q)
      ∙ mid_in a (t - a) xs new (i - a) new_long (omega arith) (omega arith)
      ∙ ap (λ (l : List ℕ). get_or l (i - a) 0) after
      ∙ part_at (t - a) (16 - (e - a)) (16 - (16 - (e - a))) (i - a) be (omega (arith, be_long)) (omega arith) (omega arith)
      ∙ ap (λ (l : List ℕ). get_or l (16 - (e - a) + (i - a)) 0) is
      ∙ byte_of 16 n (16 - (e - a) + (i - a)) (omega arith)
      ∙ ap (λ (z : ℕ). n / 2 ^ (z * 8) % 256) (let q : 16 - 1 - (16 - (e - a) + (i - a)) ≡ e - 1 - i = omega arith in q)

  pub part_written : Written xs (put_mid a (t - a) xs new) (a * 8) ((e - a) * 8) n
  part_written =
      bytes_written xs (put_mid a (t - a) xs new) a e n (mid_long a (t - a) xs new new_long (omega arith))
      (λ i l u b. inner i l (omega arith))
      (λ i out. mid_out a (t - a) xs new i new_long (omega arith) (⊎_elim (λ l. inl l) (λ l. inr (omega arith)) out))
