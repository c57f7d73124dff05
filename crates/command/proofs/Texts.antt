-- A number in eight hexadecimal digits.
use Rattle.std.proofs.Common.{◌≡◌, ℕ, zero, suc, ◌+◌, ◌-◌, ◌/◌, ◌%◌, ◌^◌, ◌<◌, ◌≤◌, Bool, true, false, cond, eqb, eqb-true, List, [], ◌∷◌, ◌++◌, length, replicate, sym, refl, ap, ◌∙◌, pow-suc, arith}
use Rattle.std.proofs.lemmas.Bool.{eqb-false}
use Rattle.std.proofs.lemmas.List.{append-nil}
use Rattle.std.specs.Fmt.{digits, digits_onto, digit_glyph, padded_integral, format_spec, char_count}
use Rattle.command.specs.Replies.{word_text}

-- the last k + 1 digits, followed by acc
abbrev places : ℕ → ℕ → List ℕ → List ℕ
places zero n acc = digit_glyph true (n % 16) ∷ acc
places (suc k) n acc = places k (n / 16) (digit_glyph true (n % 16) ∷ acc)

zeros_then : (k : ℕ) (acc : List ℕ) → replicate k 48 ++ (48 ∷ acc) ≡ 48 ∷ (replicate k 48 ++ acc)
zeros_then zero acc = refl
zeros_then (suc k) acc = ap (λ (z : List ℕ). 48 ∷ z) (zeros_then k acc)

zeros : (k n : ℕ) (acc : List ℕ) → n ≡ 0 → replicate (suc k) 48 ++ acc ≡ places k n acc
zeros zero n acc e = ap (λ (m : ℕ). digit_glyph true (m % 16) ∷ acc) (sym e)
zeros (suc k) n acc e =
    sym (zeros_then (suc k) acc) ∙ zeros k (n / 16) (48 ∷ acc) (let z : n / 16 ≡ 0 = omega arith in z) ∙ ap (λ (m : ℕ). places k (n / 16) (digit_glyph true (m % 16) ∷ acc)) (sym e)

-- as many zeros before the digits as make k + 1 in all
record Padded (k n : ℕ) (acc shown : List ℕ) : Type 0 where
  zeros_before : ℕ
  long : zeros_before + length shown ≡ suc k + length acc
  text : replicate zeros_before 48 ++ shown ≡ places k n acc

here : (k n f : ℕ) (acc : List ℕ) → n / 16 ≡ 0 → Padded k n acc (digit_glyph true (n % 16) ∷ acc)
here zero n f acc e = record { zeros_before = 0; long = omega arith; text = refl }
here (suc k) n f acc e = record {
  zeros_before = suc k;
  long = ap (λ (m : ℕ). m + suc (length acc)) refl ∙ (let z : suc k + suc (length acc) ≡ suc (suc k) + length acc = omega arith in z);
  text = zeros k (n / 16) (digit_glyph true (n % 16) ∷ acc) e;
}

deeper : (k n : ℕ) (acc shown : List ℕ) → Padded k (n / 16) (digit_glyph true (n % 16) ∷ acc) shown → Padded (suc k) n acc shown
deeper k n acc shown p = record { zeros_before = p.zeros_before; long = omega (arith, p.long); text = p.text }

shown_by : (k n f : ℕ) (acc : List ℕ) (b : Bool) → eqb (n / 16) 0 ≡ b → (eqb (n / 16) 0 ≡ false → Padded k n acc (digits_onto f 16 true (n / 16) (digit_glyph true (n % 16) ∷ acc)))
    → Padded k n acc (cond b (digit_glyph true (n % 16) ∷ acc) (digits_onto f 16 true (n / 16) (digit_glyph true (n % 16) ∷ acc)))
shown_by k n f acc true e more = here k n f acc (eqb-true (n / 16) 0 e)
shown_by k n f acc false e more = more e

padded : (k n f : ℕ) (acc : List ℕ) → n < 16 ^ suc k → k ≤ f → Padded k n acc (digits_onto (suc f) 16 true n acc)
padded zero n f acc small h =
    shown_by zero n f acc (eqb (n / 16) 0) refl (λ e. absurd (eqb-false (n / 16) 0 e (let w : 16 ^ suc 0 ≡ 16 = refl in omega arith)))
padded (suc k) n zero acc small h = absurd (omega arith)
padded (suc k) n (suc f) acc small h =
    shown_by (suc k) n (suc f) acc (eqb (n / 16) 0) refl
    (λ e. deeper k n acc _ (padded k (n / 16) f (digit_glyph true (n % 16) ∷ acc) (let w = pow-suc 16 (suc k) in omega arith) (omega arith)))

filled : (xs : List ℕ) (p : ℕ) → p + length xs ≡ 8 → padded_integral (format_spec 32 0 4 8 (2 ^ 64 - 1)) false [] xs ≡ replicate p 48 ++ xs
unfolding padded_integral char_count
filled xs p e = let z : 8 - length xs - 0 - 0 ≡ p = omega arith in ap (λ (k : ℕ). replicate k 48 ++ (xs ++ [])) z ∙ ap (λ (ys : List ℕ). replicate p 48 ++ ys) (append-nil xs)

unfolded : (n : ℕ) → digits 16 true n ≡ digits_onto 64 16 true n []
unfolding digits
unfolded n = refl

in_places : (n : ℕ) → places 7 n [] ≡ word_text n
in_places n =
    let a : n / 16 / 16 / 16 / 16 / 16 / 16 / 16 ≡ n / 268435456 = omega arith in
    let b : n / 16 / 16 / 16 / 16 / 16 / 16 ≡ n / 16777216 = omega arith in
    let c : n / 16 / 16 / 16 / 16 / 16 ≡ n / 1048576 = omega arith in
    let d : n / 16 / 16 / 16 / 16 ≡ n / 65536 = omega arith in
    let e : n / 16 / 16 / 16 ≡ n / 4096 = omega arith in
    let f : n / 16 / 16 ≡ n / 256 = omega arith in
    cc

-- what `{:08X}` writes of 32 bits
pub eight : (n : ℕ) → n < 2 ^ 32 → padded_integral (format_spec 32 0 4 8 (2 ^ 64 - 1)) false [] (digits 16 true n) ≡ word_text n
eight n small =
    let p = padded 7 n 63 [] small (omega arith) in
    let l : p.zeros_before + length (digits_onto 64 16 true n []) ≡ 8 = p.long in
    ap (λ (xs : List ℕ). padded_integral (format_spec 32 0 4 8 (2 ^ 64 - 1)) false [] xs) (unfolded n) ∙ filled _ p.zeros_before l ∙ p.text ∙ in_places n
