-- What an answer tells of the history before it.
use Rattle.std.proofs.Common.{◌≡◌, ℕ, ◌≤◌, Bool, true, false, cond, ltb, leb, List, length, Some, None, Ok, Err, Option, sym, refl, ap, ◌∙◌, subst, leb-true}
use Rattle.std.proofs.lemmas.List.FromFn.{length-map-range_with_len}
use Rattle.refusal.specs.declared.Refusal.{Refusal}
use Rattle.refusal.specs.declared.Refusal.TheVariants.{NoSlot, TooWide}
use Rattle.memory.specs.Slots.{wide}
use Rattle.image.specs.Reading.{head_in, foreign_refusal, refusal_of}
use Rattle.image.proofs.Laying.{both_none, fits_then}
use Rattle.life.specs.declared.Call.{Call}
use Rattle.life.specs.declared.Call.TheVariants.{Load, Install, Fetch, Overwrite}
use Rattle.life.specs.Coding.{Coding, Told, tells}
use Rattle.life.specs.Coding.Told.{done, yielded, refused}
use Rattle.life.specs.Checks.{Known, version_of, stale_refusal, size_refusal, foul_refusal, program_refusal, answered, write_answer, unkeyed_row, row_by, row_of}
use Rattle.life.specs.Deeds.{Deed, is_rejection, deed_of}
use Rattle.life.specs.Deeds.Deed.{loaded, installed, overwrote, rejected, nothing}
use Rattle.life.specs.History.{Event, key_in, rejections, live, live_by, live_key_by, slot_in, slots_in, known_in, program_in}

-- ---- the key
pub key_live : (K : Option ℕ) (n k : ℕ) → live_key_by K n ≡ Some k → (live_by K n ≡ true) × (K ≡ Some k)
key_live (Some key) n k e = by (ltb n 4) e
  where
    by : (b : Bool) → cond b (Some key) None ≡ Some k → (b ≡ true) × (Some key ≡ Some k)
    by true q = (refl, q)
    by false q = absurd cc
key_live None n k e = absurd cc

pub live_key_lem : (K : Option ℕ) (n k : ℕ) → live_by K n ≡ true → K ≡ Some k → live_key_by K n ≡ Some k
live_key_lem (Some key) n k l e = ap (λ (b : Bool). cond b (Some key) None) l ∙ e
live_key_lem None n k l e = absurd cc

-- ---- rejections come only from a live unit
abbrev pub number_in : Told → ℕ
number_in done = 100
number_in (yielded i) = 101
number_in (refused note) = note.number

write_quiet : (a b : Bool) (s : ℕ) → is_rejection (number_in (tells (write_answer (cond a (cond b (Ok tt) (Err (TooWide s))) (Err (NoSlot s)))))) ≡ false
write_quiet true true s = refl
write_quiet true false s = refl
write_quiet false b s = refl

quiet : (K : Known) (call : Call) → is_rejection (number_in (tells (unkeyed_row K call))) ≡ false
quiet K (Load key) = refl
quiet K (Install image) = refl
quiet K (Fetch address) = refl
quiet K (Overwrite slot number) = write_quiet (ltb slot (length K.held)) (ltb number wide) slot

loud : (o : Option ℕ) (c : Coding) (K : Known) (call : Call) → is_rejection (number_in (tells (row_by o c K call))) ≡ true → (k : ℕ) × (o ≡ Some k)
loud (Some k) c K call e = (k, refl)
loud None c K call e = let q = quiet K call in let f : false ≡ true = sym q ∙ e in absurd cc

-- ---- an accepted install
-- what was found of an image that was installed, under that key and over so many slots
pub record Checked (c : Coding) (slots key : ℕ) (image : List ℕ) : Type 0 where
  pub whole : refusal_of image ≡ None
  pub fits : (head_in image).count ≤ slots
  pub opens : foul_refusal c key image (head_in image) ≡ None

none_when_done : (o : Option Refusal) → done ≡ tells (answered o) → o ≡ None
none_when_done (Some e) q = absurd cc
none_when_done None q = refl

checked : (c : Coding) (key : ℕ) (in_force : Option ℕ) (slots : ℕ) (image : List ℕ) → program_refusal c key in_force slots image (head_in image) ≡ None → refusal_of image ≡ None → Checked c slots key image
checked c key in_force slots image e w =
    let h = head_in image in
    let a = both_none (foreign_refusal c.mode c.tag h) _ e in
    let b = both_none (stale_refusal in_force h.version) _ a.1 in
    let d = both_none (size_refusal slots h.count) (foul_refusal c key image h) b.1 in
    record { whole = w; fits = leb-true h.count slots (fits_then (leb h.count slots) _ d.0); opens = d.1 }

module _ (c : Coding) (start : List ℕ) (h : List Event) where
  -- what a deed tells of the history before it
  abbrev pub Meets : Deed → Type 0
  Meets (loaded key) = Unit {0}
  Meets (installed image) = (k : ℕ) × (live h ≡ true) × (key_in h ≡ Some k) × Checked c (length start) k image
  Meets (overwrote slot number) = Unit {0}
  Meets rejected = live h ≡ true
  Meets nothing = Unit {0}

  length_slots : length (slots_in start h) ≡ length start
  length_slots = length-map-range_with_len (slot_in start h) 0 (length start)

  struck_by : (b : Bool) → (b ≡ true → live h ≡ true) → Meets (cond b rejected nothing)
  struck_by true f = f refl
  struck_by false f = tt

  pub meets : (call : Call) (t : Told) → t ≡ tells (row_of c (known_in start h) call) → Meets (deed_of call t)
  meets (Load key) done e = tt
  meets (Install image) done e = by (live_key_by (key_in h) (rejections h)) refl e
    where
      by : (o : Option ℕ) → live_key_by (key_in h) (rejections h) ≡ o → done ≡ tells (row_by o c (known_in start h) (Install image)) → Meets (installed image.now)
      by (Some k) q e =
          let a = key_live (key_in h) (rejections h) k q in
          let slots = length (slots_in start h) in
          let b = both_none (refusal_of image.now) (program_refusal c k (version_of (program_in h)) slots image.now (head_in image.now)) (none_when_done _ e) in
          (k, a.0, a.1, subst (λ (n : ℕ). Checked c n k image.now) length_slots (checked c k (version_of (program_in h)) slots image.now b.1 b.0))
      by None q e = absurd cc
  meets (Fetch address) done e = tt
  meets (Overwrite slot number) done e = tt
  meets call (yielded i) e = tt
  meets call (refused note) e =
      struck_by (is_rejection note.number) (λ l.
      let k = loud (live_key_by (key_in h) (rejections h)) c (known_in start h) call (sym (ap (λ (t : Told). is_rejection (number_in t)) e) ∙ l) in
      (key_live (key_in h) (rejections h) k.0 k.1).0)
