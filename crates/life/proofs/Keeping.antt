-- What an accepted install leaves behind it: its image was checked, and its slots hold its records until they are
-- overwritten.
use Rattle.std.proofs.Common.{◌≡◌, ℕ, ◌<◌, Bool, true, false, cond, eqb, List, [], ◌∷◌, length, Some, Option, sym, refl, ap, ◌∙◌, subst, lt-ltb}
use Rattle.image.specs.Reading.{head_in, record_in}
use Rattle.life.specs.Coding.{Coding, tells}
use Rattle.life.specs.Deeds.{Deed}
use Rattle.life.specs.Deeds.Deed.{loaded, installed, overwrote, rejected, nothing}
use Rattle.life.specs.History.{Event, deed, key_in, image_in, slot_in, overwritten, key_after, image_after, slot_after, overwritten_after}
use Rattle.life.specs.Life.{Answered}
use Rattle.life.proofs.Meeting.{Checked, Meets, meets}

pub record Kept (c : Coding) (slots : ℕ) (K : Option ℕ) (I : Option (List ℕ)) (slot : ℕ → ℕ) (touched : ℕ → Bool) : Type 0 where
  pub checked : (image : List ℕ) → I ≡ Some image → (k : ℕ) × (K ≡ Some k) × Checked c slots k image
  pub same : (image : List ℕ) (j : ℕ) → I ≡ Some image → j < (head_in image).count → touched j ≡ false → slot j ≡ record_in image (head_in image) j

untouched : (b o : Bool) → cond b true o ≡ false → (b ≡ false) × (o ≡ false)
untouched true o e = absurd cc
untouched false o e = (refl, e)

module _ (c : Coding) (start : List ℕ) (h : List Event) where
  step : (d : Deed) → Meets c start h d → Kept c (length start) (key_in h) (image_in h) (slot_in start h) (λ j. overwritten j h)
      → Kept c (length start) (key_after d (key_in h)) (image_after d (image_in h)) (λ j. slot_after j d (slot_in start h j)) (λ j. overwritten_after j d (overwritten j h))
  step (loaded key) m a = record { checked = λ image e. absurd cc; same = λ image j e. absurd cc }
  step (installed image) m a = record {
    checked = λ image' e. let q : image ≡ image' = cc in (m.0, m.2, subst (λ (z : List ℕ). Checked c (length start) m.0 z) q m.3);
    same = λ image' j e l t.
        let q : image ≡ image' = cc in
        let u : j < (head_in image).count = subst (λ (z : List ℕ). j < (head_in z).count) (sym q) l in
        ap (λ (b : Bool). cond b (record_in image (head_in image) j) (slot_in start h j)) (lt-ltb j (head_in image).count u)
        ∙ ap (λ (z : List ℕ). record_in z (head_in z) j) q;
  }
  step (overwrote p n) m a = record {
    checked = a.checked;
    same = λ image j e l t.
        let u = untouched (eqb j p) (overwritten j h) t in
        ap (λ (b : Bool). cond b n (slot_in start h j)) u.0 ∙ a.same image j e l u.1;
  }
  step rejected m a = a
  step nothing m a = a

pub kept : (c : Coding) (start : List ℕ) (h : List Event) → Answered c start h → Kept c (length start) (key_in h) (image_in h) (slot_in start h) (λ j. overwritten j h)
kept c start [] _ = record { checked = λ image e. absurd cc; same = λ image j e. absurd cc }
kept c start (e ∷ h) a = step c start h (deed e) (meets c start h e.call (tells e.answer) a.0) (kept c start h a.1)
