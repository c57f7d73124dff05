-- Lemmas: two memories in turn keep the law of arrangements.
-- Stays in specs/: the proof of a law is named in src/, and a `ghost use` reaches no proofs/ of its own crate.
use Rattle.std.specs.Prelude.{◌≡◌, ℕ, zero, suc, ◌*◌, ◌/◌, ◌<◌, min, List, [], ◌∷◌, length, slice_index, refl}
use Rattle.std.proofs.Common.{ap, ◌∙◌, arith}
use Rattle.std.proofs.lemmas.List.{length-take, get_or-take}
use Rattle.std.proofs.lemmas.Bool.Decides.{nat_tests}
use Rattle.memory.specs.Slots.{most}
use Rattle.parts.specs.Parts.{woven, interleaved, interleaved_count, interleaved_first, interleaved_second}
use Rattle.parts.specs.Places.{interleaved_place}
use Rattle.parts.specs.Laws.{Laid, Arranges}

length-woven : (a b : List ℕ) → length (woven a b) ≡ 2 * min (length a) (length b)
unfolding woven
length-woven [] b = omega arith
length-woven (x ∷ a) [] = omega arith
length-woven (x ∷ a) (y ∷ b) = omega (arith, length-woven a b)

woven_even : (a b : List ℕ) (i : ℕ) → i < length a → i < length b → slice_index (woven a b) (2 * i) ≡ slice_index a i
unfolding woven
woven_even [] b i h l = absurd (omega arith)
woven_even (x ∷ a) [] i h l = absurd (omega arith)
woven_even (x ∷ a) (y ∷ b) zero h l = refl
woven_even (x ∷ a) (y ∷ b) (suc i) h l =
    let e : 2 * suc i ≡ suc (suc (2 * i)) = omega arith in rw e (woven_even a b i (omega arith) (omega arith))

woven_odd : (a b : List ℕ) (i : ℕ) → i < length a → i < length b → slice_index (woven a b) (suc (2 * i)) ≡ slice_index b i
unfolding woven
woven_odd [] b i h l = absurd (omega arith)
woven_odd (x ∷ a) [] i h l = absurd (omega arith)
woven_odd (x ∷ a) (y ∷ b) zero h l = refl
woven_odd (x ∷ a) (y ∷ b) (suc i) h l =
    let e : 2 * suc i ≡ suc (suc (2 * i)) = omega arith in rw e (woven_odd a b i (omega arith) (omega arith))

pub length-interleaved : (a b : List ℕ) → length (interleaved a b) ≡ interleaved_count (length a) (length b)
unfolding interleaved
length-interleaved a b = length-take most (woven a b) ∙ ap (λ z. min most z) (length-woven a b)

get_or-interleaved : (a b : List ℕ) (s : ℕ) → s < most → slice_index (interleaved a b) s ≡ slice_index (woven a b) s
unfolding interleaved
get_or-interleaved a b s h = get_or-take most (woven a b) s 0 h

pub interleaved_laid : (a b : List ℕ) → Laid interleaved_place (interleaved_first (length a) (length b)) (interleaved_second (length a) (length b)) (interleaved a b) a b
interleaved_laid a b =
    let c = length-interleaved a b in
    record {
      enough_a = omega arith;
      enough_b = omega arith;
      inside = λ s h. grind (arith, nat_tests);
      value = λ s h. get_or-interleaved a b s (omega arith) ∙ grind (arith, nat_tests, woven_even a b (s / 2), woven_odd a b (s / 2));
    }

-- no two slots have one place
interleaved_apart : (i j : ℕ) → interleaved_place i ≡ interleaved_place j → i ≡ j
interleaved_apart i j e = grind (arith, nat_tests)

pub interleaved-arranges : Arranges interleaved interleaved_count interleaved_first interleaved_second (λ _ s. interleaved_place s)
interleaved-arranges =
    record { counted = length-interleaved; few = λ m n. omega arith; apart = λ _. interleaved_apart; laid = λ a b _. interleaved_laid a b }
