-- One call: the law after every history that the unit agrees with, and agreement with the longer one.
use Rattle.std.proofs.Common.{◌≡◌, ℕ, ◌^◌, ◌<◌, Bool, true, false, cond, ltb, List, ◌∷◌, length, Some, None, Option, sym, ap, ◌∙◌, subst, arith}
use Rattle.cipher.specs.Word.{fits_mode, Lawful}
use Rattle.memory.specs.Slots.{wide, Sound}
use Rattle.life.specs.declared.Answer.{Answer}
use Rattle.life.specs.declared.Call.{Call}
use Rattle.life.specs.Coding.{Coding, Suite, coding, tells}
use Rattle.life.specs.Checks.{Known, row_of}
use Rattle.life.specs.Deeds.{Deed, deed_of}
use Rattle.life.specs.Deeds.Deed.{loaded, installed, overwrote, rejected, nothing}
use Rattle.life.specs.State.{State, Did, known_by}
use Rattle.life.specs.History.{Event, event, key_in, rejections, live_key_by, cipher_key_by, image_in, slot_in, known_in}
use Rattle.life.specs.Life.{Law, Answered, Agrees, Step}
use Rattle.life.proofs.Meeting.{Meets, meets}
use Rattle.life.proofs.Keeping.{kept}
use Rattle.life.proofs.Agreeing.{Fields, Allows, fields_step, same_known}
use Rattle.life.proofs.Telling.{law}

abbrev FieldsIn : ℕ → List ℕ → List Event → State → Type 0
FieldsIn first start h s = Fields first start (key_in h) (rejections h) (image_in h) (slot_in start h) s

fields_of : {c : Coding} {first : ℕ} {start : List ℕ} {h : List Event} {s : State} → Agrees c first start h s → FieldsIn first start h s
fields_of a = record {
  condition = a.condition;
  strikes = a.strikes;
  key = a.key;
  version = a.version;
  base = a.base;
  count = a.count;
  slots = a.slots;
  holds = a.holds;
}

agrees_by : {c : Coding} {first : ℕ} {start : List ℕ} {h : List Event} {s : State} → Answered c start h → FieldsIn first start h s → Agrees c first start h s
agrees_by r a = record {
  answered = r;
  condition = a.condition;
  strikes = a.strikes;
  key = a.key;
  version = a.version;
  base = a.base;
  count = a.count;
  slots = a.slots;
  holds = a.holds;
}

allowed : (c : Coding) (start : List ℕ) (h : List Event) (d : Deed) → Meets c start h d → Allows (length start) (key_in h) (rejections h) d
allowed c start h (loaded key) m = tt
allowed c start h (installed image) m = m.3.fits
allowed c start h (overwrote slot number) m = tt
allowed c start h rejected m = m
allowed c start h nothing m = tt

cipher_key : (first : ℕ) (K : Option ℕ) (n k : ℕ) → live_key_by K n ≡ Some k → cipher_key_by first K n ≡ k
cipher_key first (Some key) n k e = by (ltb n 4) e
  where
    by : (b : Bool) → cond b (Some key) None ≡ Some k → cond b key 0 ≡ k
    by true q = cc
    by false q = absurd cc
cipher_key first None n k e = absurd cc

module _ (u : Suite) (lawful : Lawful u.rule u.mode u.tag) (fits : fits_mode u.mode u.tag ≡ true)
    (s : State) (small : s.core.key < 2 ^ 128) (sound : Sound s.held)
    (call : Call) (answer : Answer) (u' : Suite) (s' : State) (did : Did u s call answer u' s') where
  module _ (first : ℕ) (start : List ℕ) (h : List Event) (a : Agrees (coding u) first start h s) where
    known : known_by s.core s.held ≡ known_in start h
    known = same_known (λ image e. ((kept (coding u) start h a.answered).checked image e).2.fits) (fields_of a)

    row : tells answer ≡ tells (row_of (coding u) (known_in start h) call)
    row = ap tells (did.answers ∙ ap (λ (K : Known). row_of (coding u) K call) known)

    lawful_answer : Law (coding u) start h call answer
    lawful_answer =
        law u lawful fits start h a.answered
        (λ k e. subst (λ (z : ℕ). z < 2 ^ 128) (a.key ∙ cipher_key first (key_in h) (rejections h) k e) small)
        (λ j l. subst (λ (z : ℕ). z < wide) (a.holds j l) (sound.small j (omega (arith, a.slots))))
        call answer row

    agrees_on : Agrees (coding u') first start (event call answer ∷ h) s'
    agrees_on =
        let d = deed_of call (tells answer) in
        let f = fields_step d (allowed (coding u) start h d (meets (coding u) start h call (tells answer) row)) (fields_of a) in
        subst (λ (v : Suite). Agrees (coding v) first start (event call answer ∷ h) s') (sym did.suite)
        (subst (λ (t : State). Agrees (coding u) first start (event call answer ∷ h) t) (sym did.becomes) (agrees_by (row, a.answered) f))

  pub step : Step u s call answer u' s'
  step first start h a = (lawful_answer first start h a, agrees_on first start h a)
