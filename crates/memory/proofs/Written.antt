-- What every kind of memory has to show of an accepted write.
use Rattle.std.proofs.Common.{◌≡◌, ℕ, ◌<◌, List, length, get_or, arith}
use Rattle.std.proofs.lemmas.Grind.{common_steps}
use Rattle.std.proofs.lemmas.List.{ext_get_or}
use Rattle.std.proofs.lemmas.Bool.{cases_eq}
use Rattle.memory.specs.Slots.{wide, after_write}

-- slots that are as many as before, the one written and all others as before
pub after_is : (before after : List ℕ) (s n : ℕ) → s < length before → n < wide → length after ≡ length before → get_or after s 0 ≡ n → ((i : ℕ) → i < length before → (i ≡ s → ⊥) → get_or after i 0 ≡ get_or before i 0) → after ≡ after_write before s n
after_is before after s n l k same here others =
    ext_get_or 0 after (after_write before s n) (grind (arith, common_steps)) (λ i h. grind (arith, common_steps, others i, cases_eq i s))
