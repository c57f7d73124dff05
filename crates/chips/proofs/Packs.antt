-- The slots of a chip of bytes.
use Rattle.std.proofs.Common.{◌≡◌, ℕ, ◌+◌, ◌*◌, ◌<◌, ◌≤◌, ◌⊎◌, List, length, get_or, take, drop, sym, refl, ap, ◌∙◌, inl, inr, ⊎_elim, arith, rules}
use borrow.Rule.Slice.PartMut.{put_mid}
use Rattle.std.proofs.lemmas.List.{places}
use Rattle.std.proofs.lemmas.Slice.{drop-put_mid}
use Rattle.std.proofs.lemmas.Bool.{cases_lt}
use Rattle.std.proofs.lemmas.Grind.{common_steps}
use Rattle.memory.specs.Slots.{wide, after_write}
use Rattle.memory.proofs.Written.{after_is}
use Rattle.chips.specs.Chips.{six_at, six_bytes, packed_count, packed}
use Rattle.chips.specs.Elements.{length-packed, get_or-packed}

-- equal bytes, equal numbers
six_cong : (x y : List ℕ) (a c : ℕ) → ((j : ℕ) → j < 6 → get_or x (a + j) 0 ≡ get_or y (c + j) 0) → six_at x a ≡ six_at y c
six_cong x y a c f = grind (arith, f 0, f 1, f 2, f 3, f 4, f 5)

pub six_part : (b : List ℕ) (a m : ℕ) → m ≡ 6 → six_at (take m (drop a b)) 0 ≡ six_at b a
six_part b a m e = grind (arith, common_steps)

six_back : (n : ℕ) → n < wide → six_at (six_bytes n) 0 ≡ n
six_back n h = omega arith

-- a byte of what is written, and one out of it
mid_in : (a : ℕ) (xs ys : List ℕ) (i : ℕ) → a + length ys ≤ length xs → i < length ys → get_or (put_mid a (length ys) xs ys) (a + i) 0 ≡ get_or ys i 0
mid_in a xs ys i h l = search (rules, places)

mid_out : (a : ℕ) (xs ys : List ℕ) (i : ℕ) → a + length ys ≤ length xs → (i < a) ⊎ (a + length ys ≤ i) → get_or (put_mid a (length ys) xs ys) i 0 ≡ get_or xs i 0
mid_out a xs ys i h (inl l) = search (rules, places)
mid_out a xs ys i h (inr l) = search (rules, places)

pub length_mid : (a k : ℕ) (xs ys : List ℕ) → length ys ≡ k → a + k ≤ length xs → length (put_mid a k xs ys) ≡ length xs
length_mid a k xs ys e h = search (rules, places)

-- the slots after six bytes are written
slots_after : (b : List ℕ) (s n : ℕ) → s < length (packed b) → n < wide → packed (put_mid (6 * s) 6 b (six_bytes n)) ≡ after_write (packed b) s n
slots_after b s n l k =
    let after = put_mid (6 * s) 6 b (six_bytes n) in
    let c = length-packed b in
    let w : 6 * s + 6 ≤ length b = omega arith in
    let size : length after ≡ length b = length_mid (6 * s) 6 b (six_bytes n) refl w in
    let same : length (packed after) ≡ length (packed b) = length-packed after ∙ ap packed_count size ∙ sym c in
    after_is (packed b) (packed after) s n l k same
    (get_or-packed after s (omega arith) ∙ six_cong after (six_bytes n) (6 * s) 0 (λ j lj. let z : 0 + j ≡ j = omega arith in rw z (mid_in (6 * s) b (six_bytes n) j w lj)) ∙ six_back n k)
    (λ i h ne.
    get_or-packed after i (omega arith)
    ∙ six_cong after b (6 * i) (6 * i)
    (λ j lj. mid_out (6 * s) b (six_bytes n) (6 * i + j) w
    (⊎_elim (λ (q : i < s). inl (omega arith)) (λ (q : s ≤ i). inr (omega arith)) (cases_lt i s)))
    ∙ sym (get_or-packed b i h))

-- as the code writes it
pub slots_put : (b : List ℕ) (s n start m : ℕ) (six : List ℕ) → start ≡ 6 * s → m ≡ 6 → six ≡ six_bytes n → s < length (packed b) → n < wide → packed (put_mid start m b six) ≡ after_write (packed b) s n
slots_put b s n start m six es em ex l k = rw (es, em, ex) (slots_after b s n l k)

-- what the calls of a packed memory rest on
pub ruleset packs = (common_steps, length-packed, get_or-packed, six_part, slots_put, length_mid, drop-put_mid)
