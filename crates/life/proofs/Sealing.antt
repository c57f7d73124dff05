-- An image that was read, and the rows that it is tried by.
use Rattle.std.proofs.Common.{◌≡◌, ℕ, ◌+◌, ◌≤◌, List, Some, None, Option, refl, ap₂, ◌∙◌}
use Rattle.refusal.specs.declared.Refusal.{Refusal}
use Rattle.cipher.specs.declared.WordCipher.{Ghosts as WordCipher}
use Rattle.image.specs.Reading.{head_in, or_else}
use Rattle.life.specs.declared.sealed.Sealed.{Sealed}
use Rattle.life.specs.Coding.{coding, suite_of}
use Rattle.life.specs.Checks.{record_opens, foul_from}
use Rattle.life.specs.Records.{opens}
use Rattle.life.proofs.Foul.{foul_within}

pub or_else_assoc : (a b c : Option Refusal) → or_else (or_else a b) c ≡ or_else a (or_else b c)
or_else_assoc (Some e) b c = refl
or_else_assoc None b c = refl

-- the records that are tried are those of the image, under the cipher
pub sealed_foul : {C : Type 0} (w : WordCipher C) (s : Sealed C) (cipher : C) (image : List ℕ) → s.cipher.now ≡ cipher → s.image.now ≡ image
    → (first n : ℕ) → first + n ≤ (head_in s.image.now).count
    → foul_from (opens w s) first n ≡ foul_from (record_opens (coding (suite_of w cipher)) (w.key_of cipher) image (head_in image)) first n
sealed_foul w s cipher image own from first n fits =
    foul_within (record_opens (coding (suite_of w s.cipher.now)) (w.key_of s.cipher.now) s.image.now (head_in s.image.now)) (head_in s.image.now).count first n fits
    ∙ ap₂ (λ c i. foul_from (record_opens (coding (suite_of w c)) (w.key_of c) i (head_in i)) first n) own from
