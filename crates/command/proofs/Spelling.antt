-- The allowed lines, spelled out.
use Rattle.std.proofs.Common.{◌≡◌, ℕ, zero, suc, ◌+◌, ◌-◌, ◌*◌, ◌/◌, ◌%◌, ◌<◌, ◌≤◌, min, Bool, true, false, cond, ◌&&◌, ◌||◌, eqb, leb, List, [], ◌∷◌, ◌++◌, length, get_or, take, drop, sym, refl, ap, ◌∙◌, subst, ⊎_elim, arith, length-append, length-drop, take-append-drop, length-take, get_or-drop, drop-cons, get_or-take, lt-ltb, eq-eqb, ne_eqb, eqb-true, le-leb, leb-true}
use Rattle.std.proofs.lemmas.List.{get_or_append_left, get_or-append_right}
use Rattle.std.proofs.lemmas.Bool.{cases_lt}
use Rattle.command.specs.declared.forms.Form.{Form}
use Rattle.command.specs.declared.forms.Form.TheVariants.{Key, Image, Fetch, Write, Status}
use Rattle.command.specs.Digits.{is_digit}
use Rattle.command.specs.Forms.{letter_of, most_of, space_at, allows, complete}
use Rattle.command.specs.Laws.{Allowed, Word, Spelled}

pub and_left : (a b : Bool) → a && b ≡ true → a ≡ true
and_left true b e = refl
and_left false b e = e

pub and_right : (a b : Bool) → a && b ≡ true → b ≡ true
and_right true b e = e
and_right false b e = absurd (let z : ◌≡◌ {A = ℕ} 0 1 = cc in omega arith)

-- ---- what may stand at a place
module _ (f : Form) (k b : ℕ) (l : k < most_of f) where
  here : allows f k b ≡ cond (eqb k 0) (eqb b (letter_of f)) (cond (space_at f k) (eqb b 32) (is_digit b))
  here = ap (λ (x : Bool). cond x (cond (eqb k 0) (eqb b (letter_of f)) (cond (space_at f k) (eqb b 32) (is_digit b))) false) (lt-ltb k (most_of f) l)

  at_letter : k ≡ 0 → allows f k b ≡ eqb b (letter_of f)
  at_letter e = here ∙ ap (λ (x : Bool). cond x (eqb b (letter_of f)) (cond (space_at f k) (eqb b 32) (is_digit b))) (eq-eqb k 0 e)

  later : 0 < k → allows f k b ≡ cond (space_at f k) (eqb b 32) (is_digit b)
  later h = here ∙ ap (λ (x : Bool). cond x (eqb b (letter_of f)) (cond (space_at f k) (eqb b 32) (is_digit b))) (ne_eqb k 0 (λ e. omega arith))

  at_space : 0 < k → space_at f k ≡ true → allows f k b ≡ eqb b 32
  at_space h e = later h ∙ ap (λ (x : Bool). cond x (eqb b 32) (is_digit b)) e

  at_digit : 0 < k → space_at f k ≡ false → allows f k b ≡ is_digit b
  at_digit h e = later h ∙ ap (λ (x : Bool). cond x (eqb b 32) (is_digit b)) e

-- ---- one word after the letter
module _ (f : Form) (plain : (k : ℕ) → space_at f k ≡ eqb k 1) where
  pub one_word : (line : List ℕ) → Allowed f line → 2 ≤ length line → length line ≤ most_of f
      → (w : List ℕ) × Word (length line - 2) w × (line ≡ letter_of f ∷ 32 ∷ w)
  one_word [] a l m = absurd (omega arith)
  one_word (x ∷ []) a l m = absurd (omega arith)
  one_word (x ∷ y ∷ w) a l m =
      let p : x ≡ letter_of f = eqb-true x (letter_of f) (sym (at_letter f 0 x (omega arith) refl) ∙ a.bytes 0 (omega arith)) in
      let q : y ≡ 32 = eqb-true y 32 (sym (at_space f 1 y (omega arith) (omega arith) (plain 1)) ∙ a.bytes 1 (omega arith)) in (
        w,
        record {
          size = omega arith;
          digits = λ k h. sym (at_digit f (suc (suc k)) (get_or w k 0) (omega arith) (omega arith) (plain (suc (suc k)) ∙ ne_eqb (suc (suc k)) 1 (λ e. omega arith))) ∙ a.bytes (suc (suc k)) (omega arith);
        },
        ap (λ (z : ℕ). z ∷ y ∷ w) p ∙ ap (λ (z : ℕ). letter_of f ∷ z ∷ w) q,
      )

  word_bytes : (n : ℕ) (w : List ℕ) → Word n w → n + 2 ≤ most_of f → (k : ℕ) → k < length (letter_of f ∷ 32 ∷ w) → allows f k (get_or (letter_of f ∷ 32 ∷ w) k 0) ≡ true
  word_bytes n w d m zero l = at_letter f 0 (letter_of f) (omega arith) refl ∙ eq-eqb (letter_of f) (letter_of f) refl
  word_bytes n w d m (suc zero) l = at_space f 1 32 (omega arith) (omega arith) (plain 1)
  word_bytes n w d m (suc (suc k)) l =
      let s = d.size in
      at_digit f (suc (suc k)) (get_or w k 0) (omega arith) (omega arith) (plain (suc (suc k)) ∙ ne_eqb (suc (suc k)) 1 (λ e. omega arith)) ∙ d.digits k (omega arith)

  pub of_word : (n : ℕ) (w line : List ℕ) → Word n w → n + 2 ≤ most_of f → complete f (n + 2) ≡ true → line ≡ letter_of f ∷ 32 ∷ w → Allowed f line
  of_word n w line d m c e =
      subst (λ (z : List ℕ). Allowed f z) (sym e)
      (record { bytes = word_bytes n w d m; long = ap (complete f) (let s = d.size in let z : length (letter_of f ∷ 32 ∷ w) ≡ n + 2 = omega arith in z) ∙ c })

-- ---- two words
write_space : (k : ℕ) → (k ≡ 1 → ⊥) → (k ≡ 7 → ⊥) → space_at Write k ≡ false
write_space k a b = ap (λ (x : Bool). x || eqb k 7) (ne_eqb k 1 a) ∙ ne_eqb k 7 b

two_words : (line : List ℕ) → Allowed Write line → length line ≡ 20 → Spelled Write line
two_words [] a l = absurd (omega arith)
two_words (x ∷ []) a l = absurd (omega arith)
two_words (x ∷ y ∷ r) a l =
    let p : x ≡ 87 = eqb-true x 87 (a.bytes 0 (omega arith)) in
    let q : y ≡ 32 = eqb-true y 32 (a.bytes 1 (omega arith)) in
    let n : length r ≡ 18 = omega arith in
    let s : get_or r 5 0 ≡ 32 = eqb-true (get_or r 5 0) 32 (a.bytes 7 (omega arith)) in
    let cut : r ≡ take 5 r ++ (get_or r 5 0 ∷ drop 6 r) = sym (take-append-drop 5 r) ∙ ap (λ (z : List ℕ). take 5 r ++ z) (drop-cons r 5 0 (omega arith)) in
    let d : (j : ℕ) → j < 18 → (j ≡ 5 → ⊥) → is_digit (get_or r j 0) ≡ true =
    λ j h u. sym (at_digit Write (suc (suc j)) (get_or r j 0) (omega arith) (omega arith) (write_space (suc (suc j)) (λ e. omega arith) (λ e. u (omega arith)))) ∙ a.bytes (suc (suc j)) (omega arith) in (
      take 5 r,
      drop 6 r,
      record {
        size = length-take 5 r ∙ (let z : min 5 (length r) ≡ 5 = omega arith in z);
        digits = λ k h. ap is_digit (get_or-take 5 r k 0 h) ∙ d k (omega arith) (λ e. omega arith);
      },
      record {
        size = length-drop 6 r ∙ (let z : length r - 6 ≡ 12 = omega arith in z);
        digits = λ k h. ap is_digit (get_or-drop 6 r k 0) ∙ d (6 + k) (omega arith) (λ e. omega arith);
      },
      ap (λ (z : ℕ). z ∷ y ∷ r) p ∙ ap (λ (z : ℕ). 87 ∷ z ∷ r) q ∙ ap (λ (z : List ℕ). 87 ∷ 32 ∷ z) (cut ∙ ap (λ (z : ℕ). take 5 r ++ (z ∷ drop 6 r)) s),
    )

module _ (w v : List ℕ) (dw : Word 5 w) (dv : Word 12 v) where
  lengths : length (87 ∷ 32 ∷ (w ++ (32 ∷ v))) ≡ 20
  lengths =
      let a = dw.size in
      let b = dv.size in
      let c = length-append w (32 ∷ v) in
      omega arith

  after_slot : (j k : ℕ) → j ≡ 5 + k → k < 13 → allows Write (suc (suc j)) (get_or (32 ∷ v) k 0) ≡ true
  after_slot j zero e l = ap (λ (i : ℕ). allows Write (suc (suc i)) 32) (let z : j ≡ 5 = omega arith in z)
  after_slot j (suc k) e l = at_digit Write (suc (suc j)) (get_or v k 0) (omega arith) (omega arith) (write_space (suc (suc j)) (λ q. omega arith) (λ q. omega arith)) ∙ dv.digits k (omega arith)

  write_bytes : (k : ℕ) → k < length (87 ∷ 32 ∷ (w ++ (32 ∷ v))) → allows Write k (get_or (87 ∷ 32 ∷ (w ++ (32 ∷ v))) k 0) ≡ true
  write_bytes zero l = refl
  write_bytes (suc zero) l = refl
  write_bytes (suc (suc j)) l =
      let n = lengths in
      let s = dw.size in
      ⊎_elim
      (λ (h : j < 5). ap (allows Write (suc (suc j))) (get_or_append_left w (32 ∷ v) 0 j (omega arith))
      ∙ at_digit Write (suc (suc j)) (get_or w j 0) (omega arith) (omega arith) (write_space (suc (suc j)) (λ q. omega arith) (λ q. omega arith)) ∙ dw.digits j h)
      (λ (h : 5 ≤ j). ap (allows Write (suc (suc j))) (get_or-append_right w (32 ∷ v) 5 j 0 s h) ∙ after_slot j (j - 5) (omega arith) (omega arith))
      (cases_lt j 5)

-- ---- the status
lone : (line : List ℕ) → Allowed Status line → length line ≡ 1 → line ≡ 83 ∷ []
lone [] a l = absurd (omega arith)
lone (x ∷ []) a l = ap (λ (z : ℕ). z ∷ []) (eqb-true x 83 (a.bytes 0 (omega arith)))
lone (x ∷ y ∷ w) a l = absurd (omega arith)

-- ---- every form
image_within : (line : List ℕ) → Allowed Image line → 4 ≤ length line → length line ≤ 1024
image_within line a l =
    ⊎_elim (λ (h : 1024 < length line). absurd (let z : ◌≡◌ {A = ℕ} 0 1 = cc (a.bytes 1024 h) in omega arith)) (λ (h : length line ≤ 1024). h) (cases_lt 1024 (length line))

pub spell : (f : Form) (line : List ℕ) → Allowed f line → Spelled f line
spell Key line a =
    let n : length line ≡ 34 = eqb-true (length line) 34 a.long in
    let r = one_word Key (λ k. refl) line a (omega arith) (omega arith) in
    (r.0, subst (λ (m : ℕ). Word m r.0) (let z : length line - 2 ≡ 32 = omega arith in z) r.1, r.2)
spell Image line a =
    let l : 4 ≤ length line = leb-true 4 (length line) (and_left (leb 4 (length line)) (eqb (length line % 2) 0) a.long) in
    let e : length line % 2 ≡ 0 = eqb-true (length line % 2) 0 (and_right (leb 4 (length line)) (eqb (length line % 2) 0) a.long) in
    let m = image_within line a l in
    let r = one_word Image (λ k. refl) line a (omega arith) m in (
      (length line - 2) / 2,
      r.0,
      omega arith,
      omega arith,
      subst (λ (m : ℕ). Word m r.0) (let z : length line - 2 ≡ 2 * ((length line - 2) / 2) = omega arith in z) r.1,
      r.2,
    )
spell Fetch line a =
    let n : length line ≡ 10 = eqb-true (length line) 10 a.long in
    let r = one_word Fetch (λ k. refl) line a (omega arith) (omega arith) in
    (r.0, subst (λ (m : ℕ). Word m r.0) (let z : length line - 2 ≡ 8 = omega arith in z) r.1, r.2)
spell Write line a = two_words line a (eqb-true (length line) 20 a.long)
spell Status line a = lone line a (eqb-true (length line) 1 a.long)

pub unspell : (f : Form) (line : List ℕ) → Spelled f line → Allowed f line
unspell Key line s = of_word Key (λ k. refl) 32 s.0 line s.1 (omega arith) refl s.2
unspell Image line s =
    let n = s.0 in
    let p = s.2 in
    let q = s.3 in
    of_word Image (λ k. refl) (2 * n) s.1 line s.4 (omega arith)
    (ap (λ (b : Bool). b && eqb ((2 * n + 2) % 2) 0) (le-leb 4 (2 * n + 2) (omega arith)) ∙ eq-eqb ((2 * n + 2) % 2) 0 (omega arith)) s.5
unspell Fetch line s = of_word Fetch (λ k. refl) 8 s.0 line s.1 (omega arith) refl s.2
unspell Write line s =
    subst (λ (z : List ℕ). Allowed Write z) (sym s.4)
    (record { bytes = write_bytes s.0 s.1 s.2 s.3; long = ap (complete Write) (lengths s.0 s.1 s.2 s.3) })
unspell Status line s =
    subst (λ (z : List ℕ). Allowed Status z) (sym s)
    (record { bytes = λ k l. ap (λ (j : ℕ). allows Status j (get_or (83 ∷ []) j 0)) (let z : k ≡ 0 = omega arith in z); long = refl })
