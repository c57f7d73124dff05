-- The row of an install, as it is tried: what is read, and then the program.
use Rattle.std.proofs.Common.{◌≡◌, ℕ, ◌+◌, ◌≤◌, List, Option, sym, ap, ap₂, ◌∙◌, arith}
use Rattle.refusal.specs.declared.Refusal.{Refusal}
use Rattle.cipher.specs.declared.WordCipher.{Ghosts as WordCipher}
use Rattle.image.specs.Reading.{head_in, head_of, foreign_refusal, or_else, refusal_of}
use Rattle.image.specs.Layout.{Head}
use Rattle.life.specs.declared.sealed.Sealed.{Sealed}
use Rattle.life.specs.Coding.{coding, suite_of}
use Rattle.life.specs.Checks.{stale_refusal, size_refusal, record_opens, foul_from, foul_refusal}
use Rattle.life.specs.Records.{read_refusal}
use Rattle.life.proofs.Sealing.{or_else_assoc, sealed_foul}
use Rattle.unit.specs.declared.unit_core.Core.{Core}
use Rattle.unit.specs.Standing.{version_in}
use Rattle.unit.specs.View.{install_refusal_by, sealed_refusal}

module _ {C : Type 0} (w : WordCipher C) (u : Core C) (slots : ℕ) (image : List ℕ) where
  pub tried : install_refusal_by w u slots image ≡ or_else (read_refusal w u.cipher image)
      (or_else (stale_refusal (version_in u.program) (head_in image).version)
      (or_else (size_refusal slots (head_in image).count)
      (foul_refusal (coding (suite_of w u.cipher)) (w.key_of u.cipher) image (head_in image))))
  tried = sym (or_else_assoc (refusal_of image) (foreign_refusal (w.mode_of u.cipher) (w.tag_of u.cipher) (head_in image)) _)

  pub tried_by : (s : Sealed C) → s.cipher.now ≡ u.cipher → s.image.now ≡ image
      → install_refusal_by w u slots image ≡ or_else (read_refusal w u.cipher image) (sealed_refusal w u slots s)
  tried_by s own from =
      let head : head_in image ≡ head_of s.header = ap head_in (sym from) ∙ sym s.read in
      let count : (head_in image).count ≡ s.header.count = ap (λ (h : Head). h.count) head in
      let fits : 0 + s.header.count ≤ (head_in s.image.now).count = omega (arith, ap (λ (h : Head). h.count) s.read) in
      let foul = ap (foul_from (record_opens (coding (suite_of w u.cipher)) (w.key_of u.cipher) image (head_in image)) 0) count ∙ sym (sealed_foul w s u.cipher image own from 0 s.header.count fits) in
      tried
      ∙ ap₂ (λ (h : Head) (r : Option Refusal). or_else (read_refusal w u.cipher image) (or_else (stale_refusal (version_in u.program) h.version) (or_else (size_refusal slots h.count) r))) head foul
