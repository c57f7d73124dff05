-- Two memories as one keep the law of the slots.
-- Stays in specs/: the proof of a law is named in src/, and a `ghost use` reaches no proofs/ of its own crate.
use Rattle.std.specs.Prelude.{ℕ, ◌<◌, ◌≤◌, List, length}
use Rattle.std.proofs.Common.{arith}
use Rattle.memory.specs.Slots.{most, wide, Sound}
use Rattle.parts.specs.declared.place.Place.{Place}
use Rattle.parts.specs.declared.place.Place.TheVariants.{First, Second}
use Rattle.parts.specs.Parts.{joined, interleaved}
use Rattle.parts.specs.Laws.{pick, Inside, Laid, Arranges}
use Rattle.parts.specs.Joining.{joined-arranges}
use Rattle.parts.specs.Interleaving.{interleaved-arranges}

pick_small : (a b : List ℕ) (used_a used_b : ℕ) → Sound a → Sound b → used_a ≤ length a → used_b ≤ length b → (q : Place) → Inside used_a used_b q → pick a b q < wide
pick_small a b used_a used_b sa sb ea eb (First i) l = sa.small i (omega arith)
pick_small a b used_a used_b sa sb ea eb (Second i) l = sb.small i (omega arith)

laid_sound : (place : ℕ → Place) (used_a used_b : ℕ) (slots a b : List ℕ) → Laid place used_a used_b slots a b → length slots ≤ most → Sound a → Sound b → Sound slots
laid_sound place used_a used_b slots a b laid few sa sb =
    record {
      few = few;
      small = λ s h.
          omega (arith, laid.value s h, pick_small a b used_a used_b sa sb laid.enough_a laid.enough_b (place s) (laid.inside s h));
    }

pub arranged-sound : {held : List ℕ → List ℕ → List ℕ} {slots used_first used_second : ℕ → ℕ → ℕ} {place : ℕ → ℕ → Place} → Arranges held slots used_first used_second place → (a b : List ℕ) → Sound a → Sound b → Sound (held a b)
arranged-sound {held = held} law a b sa sb =
    laid_sound _ _ _ (held a b) a b (law.laid a b sa.few) (rw (law.counted a b) (law.few (length a) (length b))) sa sb

pub joined-sound : (a b : List ℕ) → Sound a → Sound b → Sound (joined a b)
joined-sound = arranged-sound joined-arranges

pub interleaved-sound : (a b : List ℕ) → Sound a → Sound b → Sound (interleaved a b)
interleaved-sound = arranged-sound interleaved-arranges
