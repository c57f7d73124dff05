-- Lemmas: one memory after the other keeps the law of arrangements.
-- Stays in specs/: the proof of a law is named in src/, and a `ghost use` reaches no proofs/ of its own crate.
use Rattle.std.specs.Prelude.{◌≡◌, ℕ, ◌<◌, ◌≤◌, min, List, ◌++◌, length, slice_index}
use Rattle.std.proofs.Common.{ap, ◌∙◌, arith}
use Rattle.std.proofs.lemmas.List.{length-append, length-take, get_or-take}
use Rattle.std.proofs.lemmas.Bool.Decides.{nat_tests}
use Rattle.std.proofs.lemmas.Grind.{common_steps}
use Rattle.memory.specs.Slots.{most}
use Rattle.parts.specs.Parts.{joined, joined_count, joined_first, joined_second}
use Rattle.parts.specs.Places.{joined_place}
use Rattle.parts.specs.Laws.{Laid, Arranges}

pub length-joined : (a b : List ℕ) → length (joined a b) ≡ joined_count (length a) (length b)
unfolding joined
length-joined a b = length-take most (a ++ b) ∙ ap (λ z. min most z) (length-append a b)

get_or-joined : (a b : List ℕ) (s : ℕ) → s < most → slice_index (joined a b) s ≡ slice_index (a ++ b) s
unfolding joined
get_or-joined a b s h = get_or-take most (a ++ b) s 0 h

pub joined_laid : (a b : List ℕ) → length a ≤ most → Laid (joined_place (length a)) (joined_first (length a) (length b)) (joined_second (length a) (length b)) (joined a b) a b
joined_laid a b few =
    let c = length-joined a b in
    record {
      enough_a = omega arith;
      enough_b = omega arith;
      inside = λ s h. grind (arith, nat_tests);
      value = λ s h. get_or-joined a b s (omega arith) ∙ grind (arith, common_steps);
    }

-- no two slots have one place
joined_apart : (m i j : ℕ) → joined_place m i ≡ joined_place m j → i ≡ j
joined_apart m i j e = grind (arith, nat_tests)

pub joined-arranges : Arranges joined joined_count joined_first joined_second joined_place
joined-arranges = record { counted = length-joined; few = λ m n. omega arith; apart = joined_apart; laid = joined_laid }
