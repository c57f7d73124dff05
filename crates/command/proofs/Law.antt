-- Allowed lines and garbled ones.
use Rattle.std.proofs.Common.{◌≡◌, ℕ, ◌+◌, ◌-◌, ◌%◌, ◌<◌, ◌≤◌, min, Bool, true, false, cond, ◌&&◌, eqb, ltb, ◌⊎◌, List, [], ◌∷◌, ◌++◌, map, length, get_or, take, Some, None, Option, sym, refl, ap, ◌∙◌, inl, inr, ⊎_elim, arith, length-append, length-take, get_or-take, ltb-false, ltb-true, le-ltb, lt-ltb, eq-eqb, eqb-true, le-leb}
use borrow.Author.Tests.{both_ways}
use Rattle.std.specs.List.{range_with_len}
use Rattle.std.proofs.lemmas.List.FromFn.{get_or-map-range_with_len, length-map-range_with_len}
use Rattle.std.proofs.lemmas.List.{get_or_append_left, get_or-append_right}
use Rattle.std.proofs.lemmas.Bool.{cases_lt, cases_Bool}
use Rattle.std.proofs.lemmas.Bool.Decides.{nat_tests}
use Rattle.refusal.specs.declared.Refusal.TheVariants.{Garbled}
use Rattle.command.specs.declared.forms.Form.{Form}
use Rattle.command.specs.declared.forms.Form.TheVariants.{Key, Image, Fetch, Write, Status}
use Rattle.command.specs.Digits.{is_digit}
use Rattle.command.specs.Forms.{most, letter_of, form_of, most_of, space_at, allows, complete, allows_at, wrong_at, fits}
use Rattle.command.specs.Lines.{meaning, meaning_by, command_of}
use Rattle.command.specs.Lines.Meaning.{refused}
use Rattle.command.specs.Laws.{Allowed, Begins, Astray, Fitting, Judged}
use Rattle.command.proofs.Spelling.{and_left, and_right, spell, unspell}
use Rattle.command.proofs.First.{first_bad_lem, none_bad}

-- ---- the letter
letter_form : (f : Form) → form_of (letter_of f) ≡ Some f
letter_form Key = refl
letter_form Image = refl
letter_form Fetch = refl
letter_form Write = refl
letter_form Status = refl

first_letter : (f : Form) (b : ℕ) → allows f 0 b ≡ true → b ≡ letter_of f
first_letter Key b e = eqb-true b 75 e
first_letter Image b e = eqb-true b 73 e
first_letter Fetch b e = eqb-true b 70 e
first_letter Write b e = eqb-true b 87 e
first_letter Status b e = eqb-true b 83 e

first_form : (f : Form) (b : ℕ) → allows f 0 b ≡ true → form_of b ≡ Some f
first_form f b e = ap form_of (first_letter f b e) ∙ letter_form f

-- ---- an allowed line
short_most : (f : Form) → most_of f ≤ 1024
short_most Key = omega arith
short_most Image = omega arith
short_most Fetch = omega arith
short_most Write = omega arith
short_most Status = omega arith

some_bytes : (f : Form) (n : ℕ) → complete f n ≡ true → 0 < n
some_bytes Key n e = let z : n ≡ 34 = eqb-true n 34 e in omega arith
some_bytes Image n e = grind (arith, nat_tests)
some_bytes Fetch n e = let z : n ≡ 10 = eqb-true n 10 e in omega arith
some_bytes Write n e = let z : n ≡ 20 = eqb-true n 20 e in omega arith
some_bytes Status n e = let z : n ≡ 1 = eqb-true n 1 e in omega arith

shut : (a b : Bool) → cond a b false ≡ true → a ≡ true
shut true b e = refl
shut false b e = e

-- a byte that may stand somewhere stands before the form's end
before_end : (f : Form) (k b : ℕ) → allows f k b ≡ true → k < most_of f
before_end f k b e =
    ltb-true k (most_of f) (shut (ltb k (most_of f)) (cond (eqb k 0) (eqb b (letter_of f)) (cond (space_at f k) (eqb b 32) (is_digit b))) e)

module _ (f : Form) (line : List ℕ) (a : Allowed f line) where
  not_empty : 0 < length line
  not_empty = some_bytes f (length line) a.long

  within : length line ≤ 1024
  within =
      let n = not_empty in
      let l : length line - 1 < most_of f = before_end f (length line - 1) (get_or line (length line - 1) 0) (a.bytes (length line - 1) (omega arith)) in
      let m = short_most f in
      omega arith

  its_form : form_of (get_or line 0 0) ≡ Some f
  its_form = first_form f (get_or line 0 0) (a.bytes 0 not_empty)

  its_fit : fits f line ≡ true
  its_fit =
      ap (λ (b : Bool). b && complete f (length line)) (eq-eqb (wrong_at f line) (length line) (none_bad (allows_at f line) (length line) a.bytes))
      ∙ a.long

  pub allowed_means : meaning line ≡ command_of f line
  allowed_means =
      ap (λ (b : Bool). cond b (refused (Garbled most)) (meaning_by (form_of (get_or line 0 0)) line)) (le-ltb most (length line) within)
      ∙ ap (λ (o : Option Form). meaning_by o line) its_form
      ∙ ap (λ (b : Bool). cond b (command_of f line) (refused (Garbled (wrong_at f line)))) its_fit

pub one_form : (line : List ℕ) (f g : Form) → Allowed f line → Allowed g line → f ≡ g
one_form line f g a b = let p = its_form f line a in let q = its_form g line b in cc

-- ---- beginnings
-- what can always stand at a place
abbrev sample : Form → ℕ → ℕ
sample f k = cond (eqb k 0) (letter_of f) (cond (space_at f k) 32 48)

sampled : (x y : Bool) (l : ℕ) → cond x (eqb (cond x l (cond y 32 48)) l) (cond y (eqb (cond x l (cond y 32 48)) 32) (is_digit (cond x l (cond y 32 48)))) ≡ true
sampled true y l = eq-eqb l l refl
sampled false true l = refl
sampled false false l = refl

sample_stands : (f : Form) (k : ℕ) → k < most_of f → allows f k (sample f k) ≡ true
sample_stands f k l =
    ap (λ (b : Bool). cond b (cond (eqb k 0) (eqb (sample f k) (letter_of f)) (cond (space_at f k) (eqb (sample f k) 32) (is_digit (sample f k)))) false) (lt-ltb k (most_of f) l)
    ∙ sampled (eqb k 0) (space_at f k) (letter_of f)

-- the length of an allowed line with a beginning of p bytes
abbrev goal : Form → ℕ → ℕ
goal Key p = 34
goal Image p = cond (ltb p 4) 4 (p + p % 2)
goal Fetch p = 10
goal Write p = 20
goal Status p = 1

goal-most : (f : Form) (p : ℕ) → p ≤ most_of f → (p ≤ goal f p) × (goal f p ≤ most_of f) × (complete f (goal f p) ≡ true)
goal-most Key p l = (l, omega arith, refl)
goal-most Image p l = by (ltb p 4) refl
  where
    by : (b : Bool) → ltb p 4 ≡ b → (p ≤ cond b 4 (p + p % 2)) × (cond b 4 (p + p % 2) ≤ 1024) × (complete Image (cond b 4 (p + p % 2)) ≡ true)
    by true e = (omega (arith, ltb-true p 4 e), omega arith, refl)
    by false e =
        let z = ltb-false p 4 e in
        let u : 4 ≤ p + p % 2 = omega arith in
        let v : (p + p % 2) % 2 ≡ 0 = omega arith in (
          omega arith,
          omega arith,
          ap (λ (b : Bool). b && eqb ((p + p % 2) % 2) 0) (le-leb 4 (p + p % 2) u) ∙ eq-eqb ((p + p % 2) % 2) 0 v,
        )
goal-most Fetch p l = (l, omega arith, refl)
goal-most Write p l = (l, omega arith, refl)
goal-most Status p l = (l, omega arith, refl)

module _ (f : Form) (line : List ℕ) (p : ℕ) (inside : p ≤ length line) (good : (k : ℕ) → k < p → allows_at f line k ≡ true) where
  reach : p ≤ most_of f
  reach = ⊎_elim (λ (l : most_of f < p). absurd (let z = before_end f (most_of f) (get_or line (most_of f) 0) (good (most_of f) l) in omega arith)) (λ (l : p ≤ most_of f). l) (cases_lt (most_of f) p)

  abbrev filler : List ℕ
  filler = map (sample f) (range_with_len p (goal f p - p))

  taken : length (take p line) ≡ p
  taken = length-take p line ∙ (let z : min p (length line) ≡ p = omega arith in z)

  full : length (take p line ++ filler) ≡ goal f p
  full =
      let g = goal-most f p reach in
      let a : length filler ≡ goal f p - p = length-map-range_with_len (sample f) p (goal f p - p) in
      let b = taken in
      let c = length-append (take p line) filler in
      let d = g.0 in
      omega arith

  stands : (k : ℕ) → k < length (take p line ++ filler) → allows f k (get_or (take p line ++ filler) k 0) ≡ true
  stands k l =
      let t = taken in
      let u = full in
      let g = goal-most f p reach in
      let d = g.0 in
      let m = g.1 in
      ⊎_elim
      (λ (h : k < p). ap (allows f k) (get_or_append_left (take p line) filler 0 k (omega arith) ∙ get_or-take p line k 0 h) ∙ good k h)
      (λ (h : p ≤ k).
      ap (allows f k) (get_or-append_right (take p line) filler p k 0 t h ∙ get_or-map-range_with_len (sample f) p (goal f p - p) (k - p) k 0 (omega arith) (omega arith))
      ∙ sample_stands f k (omega arith))
      (cases_lt k p)

  pub goes_on : Begins (take p line)
  goes_on = record {
    more = filler;
    form = f;
    line = record { bytes = stands; long = ap (complete f) full ∙ (goal-most f p reach).2 };
  }

-- a byte of a beginning stands in the line that begins so
begun : (line : List ℕ) (n k : ℕ) (b : Begins (take (n + 1) line)) → n < length line → k ≤ n → allows b.form k (get_or line k 0) ≡ true
begun line n k b l h =
    let t : length (take (n + 1) line) ≡ n + 1 = length-take (n + 1) line ∙ (let z : min (n + 1) (length line) ≡ n + 1 = omega arith in z) in
    let u = length-append (take (n + 1) line) b.more in
    ap (allows b.form k) (sym (get_or_append_left (take (n + 1) line) b.more 0 k (omega arith) ∙ get_or-take (n + 1) line k 0 (omega arith)))
    ∙ b.line.bytes k (omega arith)

status_line : Begins []
status_line = record {
  more = 83 ∷ [];
  form = Status;
  line = record { bytes = λ k l. ap (λ (j : ℕ). allows Status j (get_or (83 ∷ []) j 0)) (let z : k ≡ 0 = omega arith in z); long = refl };
}

-- ---- every line
module _ (line : List ℕ) (short : length line ≤ most) where
  by_form : (o : Option Form) → form_of (get_or line 0 0) ≡ o → meaning line ≡ meaning_by o line
  by_form o e =
      ap (λ (b : Bool). cond b (refused (Garbled most)) (meaning_by (form_of (get_or line 0 0)) line)) (le-ltb most (length line) short)
      ∙ ap (λ (o : Option Form). meaning_by o line) e

  no_form : form_of (get_or line 0 0) ≡ None → Astray line
  no_form e = record {
    place = 0;
    told = by_form None e;
    longest = record {
      inside = omega arith;
      shared = status_line;
      last = λ l b. let q = first_form b.form (get_or line 0 0) (begun line 0 0 b l (omega arith)) in let z : ◌≡◌ {A = ℕ} 0 1 = cc in omega arith;
    };
    none = λ f a. let q = its_form f line a in let z : ◌≡◌ {A = ℕ} 0 1 = cc in omega arith;
  }

  wrong_form : (f : Form) → form_of (get_or line 0 0) ≡ Some f → fits f line ≡ false → Astray line
  wrong_form f e w =
      let first = first_bad_lem (allows_at f line) 0 (length line) in
      let p = wrong_at f line in
      let inside : p ≤ length line = omega (arith, first.to) in
      record {
        place = p;
        told = by_form (Some f) e ∙ ap (λ (b : Bool). cond b (command_of f line) (refused (Garbled (wrong_at f line)))) w;
        longest = record {
          inside = inside;
          shared = goes_on f line p inside (λ k l. first.good k (omega arith) l);
          last = λ l b.
              let q = first_form b.form (get_or line 0 0) (begun line p 0 b l (omega arith)) in
              let same : b.form ≡ f = cc in
              both_ways (allows_at f line p) (first.bad (omega arith)) (ap (λ (g : Form). allows g p (get_or line p 0)) (sym same) ∙ begun line p p b l (omega arith));
        };
        none = λ g a.
            let q = its_form g line a in
            let same : g ≡ f = cc in
            both_ways (fits f line) w (ap (λ (h : Form). fits h line) (sym same) ∙ its_fit g line a);
      }

  right_form : (f : Form) → fits f line ≡ true → Fitting line
  right_form f w =
      let first = first_bad_lem (allows_at f line) 0 (length line) in
      let p = wrong_at f line in
      let whole : p ≡ length line = eqb-true p (length line) (and_left (eqb p (length line)) (complete f (length line)) w) in
      record {
        form = f;
        line_of = record { bytes = λ k l. first.good k (omega arith) (omega arith); long = and_right (eqb p (length line)) (complete f (length line)) w };
      }

  by_fit : (f : Form) → form_of (get_or line 0 0) ≡ Some f → Fitting line ⊎ Astray line
  by_fit f e = ⊎_elim (λ (w : fits f line ≡ true). inl (right_form f w)) (λ (w : fits f line ≡ false). inr (wrong_form f e w)) (cases_Bool (fits f line))

  by_letter : (o : Option Form) → form_of (get_or line 0 0) ≡ o → Fitting line ⊎ Astray line
  by_letter None e = inr (no_form e)
  by_letter (Some f) e = by_fit f e

pub judged : (line : List ℕ) → Judged line
judged line = record {
  spelled = λ f a. spell f line a;
  allowed = λ f a. unspell f line a;
  means = λ f a. allowed_means f line a;
  one = one_form line;
  either = λ short. by_letter line short (form_of (get_or line 0 0)) refl;
  over = λ l. ap (λ (b : Bool). cond b (refused (Garbled most)) (meaning_by (form_of (get_or line 0 0)) line)) (lt-ltb most (length line) l);
}
