-- The row of a page, as it is tried: what is read, then the end and the records shown.
use Rattle.std.proofs.Common.{◌≡◌, ℕ, ◌+◌, ◌<◌, ◌≤◌, Bool, cond, List, Some, None, Option, sym, ap, ap₂, ◌∙◌, ⊎_elim, arith, lt-ltb}
use Rattle.std.proofs.lemmas.Bool.{cases_lt}
use Rattle.refusal.specs.declared.Refusal.{Refusal}
use Rattle.refusal.specs.declared.Refusal.TheVariants.{PastEnd}
use Rattle.cipher.specs.declared.WordCipher.{Ghosts as WordCipher}
use Rattle.image.specs.Layout.{Head}
use Rattle.image.specs.Reading.{head_in, head_of, foreign_refusal, or_else, refusal_of}
use Rattle.life.specs.declared.sealed.Sealed.{Sealed}
use Rattle.life.specs.Checks.{foul_from}
use Rattle.life.specs.Records.{read_refusal, opens}
use Rattle.life.proofs.Sealing.{or_else_assoc, sealed_foul}
use Rattle.shore.specs.Drafting.{keyed_by}
use Rattle.page.specs.Showing.{opened, past_refusal, sealed_refusal, page_refusal}

module _ {C : Type 0} (w : WordCipher C) (cipher : C) (image : List ℕ) (first n : ℕ) where
  pub tried : page_refusal (keyed_by w cipher) image first n ≡ or_else (read_refusal w cipher image)
      (or_else (past_refusal (head_in image).count first n)
      (foul_from (opened (keyed_by w cipher) image (head_in image)) first n))
  tried = sym (or_else_assoc (refusal_of image) (foreign_refusal (w.mode_of cipher) (w.tag_of cipher) (head_in image)) _)

  tried_by : (s : Sealed C) → s.cipher.now ≡ cipher → s.image.now ≡ image → first + n ≤ s.header.count
      → page_refusal (keyed_by w cipher) image first n ≡ or_else (read_refusal w cipher image) (sealed_refusal w s first n)
  tried_by s own from fits =
      let head : head_in image ≡ head_of s.header = ap head_in (sym from) ∙ sym s.read in
      let within : first + n ≤ (head_in s.image.now).count = omega (arith, ap (λ (h : Head). h.count) s.read) in
      tried
      ∙ ap₂ (λ (h : Head) (r : Option Refusal). or_else (read_refusal w cipher image) (or_else (past_refusal h.count first n) r)) head (sym (sealed_foul w s cipher image own from first n within))

  -- where the end refuses, no record is tried
  tried_end : (s : Sealed C) → s.image.now ≡ image → s.header.count < first + n
      → page_refusal (keyed_by w cipher) image first n ≡ or_else (read_refusal w cipher image) (sealed_refusal w s first n)
  tried_end s from past =
      let head : head_in image ≡ head_of s.header = ap head_in (sym from) ∙ sym s.read in
      let over = lt-ltb s.header.count (first + n) past in
      let stop : (r : Option Refusal) → or_else (past_refusal s.header.count first n) r ≡ Some (PastEnd s.header.count) = λ r. ap (λ (b : Bool). or_else (cond b (Some (PastEnd s.header.count)) None) r) over in
      tried
      ∙ ap (λ (h : Head). or_else (read_refusal w cipher image) (or_else (past_refusal h.count first n) (foul_from (opened (keyed_by w cipher) image (head_in image)) first n))) head
      ∙ ap (or_else (read_refusal w cipher image)) (stop (foul_from (opened (keyed_by w cipher) image (head_in image)) first n) ∙ sym (stop (foul_from (opens w s) first n)))

  pub tried_sealed : (s : Sealed C) → s.cipher.now ≡ cipher → s.image.now ≡ image
      → page_refusal (keyed_by w cipher) image first n ≡ or_else (read_refusal w cipher image) (sealed_refusal w s first n)
  tried_sealed s own from =
      ⊎_elim (λ (l : s.header.count < first + n). tried_end s from l) (λ (l : first + n ≤ s.header.count). tried_by s own from l) (cases_lt s.header.count (first + n))
