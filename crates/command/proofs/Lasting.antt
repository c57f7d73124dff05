-- A session's history.
use Rattle.std.proofs.Common.{◌≡◌, ℕ, List, [], ◌∷◌, sym, refl, ap, subst}
use Rattle.cipher.specs.declared.WordCipher.{Ghosts as WordCipher}
use Rattle.memory.specs.declared.Memory.{Ghosts as Memory}
use Rattle.life.specs.Coding.{Coding, coding}
use Rattle.life.specs.History.{Event, event}
use Rattle.life.specs.Life.{Agrees}
use Rattle.life.specs.declared.Call.{Call}
use Rattle.life.specs.declared.Call.TheVariants.{Load, Fetch, Overwrite}
use Rattle.unit.specs.declared.unit.Unit.{Unit as UnitOf}
use Rattle.unit.specs.View.{state_of, suite_of}
use Rattle.command.specs.declared.reply.Reply.{Reply}
use Rattle.command.specs.Lines.{Meaning, meaning}
use Rattle.command.specs.Lines.Meaning.{refused, status, load, install, fetch, overwrite}
use Rattle.command.specs.Sessions.{Performed, Obeys, Once, LongerBy, Lasts, SessionsLast}

module _ {C M : Type 0} (c : WordCipher C) (m : Memory M) where
  abbrev coding_of : UnitOf C M → Coding
  coding_of u = coding (suite_of c u.core.cipher)

  same_unit : (before after : UnitOf C M) (first : ℕ) (start : List ℕ) (h : List Event) → after ≡ before
      → Agrees (coding_of before) first start h (state_of c m before) → Agrees (coding_of after) first start h (state_of c m after)
  same_unit before after first start h e a = subst (λ (u : UnitOf C M). Agrees (coding_of u) first start h (state_of c m u)) (sym e) a

  call_lasts : (before after : UnitOf C M) (call : Call) (reply : Reply) → Performed c m before call reply after
      → (first : ℕ) (start : List ℕ) (h : List Event) → Agrees (coding_of before) first start h (state_of c m before)
      → (h' : List Event) × Once (coding_of before) start call reply h h' × Agrees (coding_of after) first start h' (state_of c m after)
  call_lasts before after call reply p first start h a =
      let s = p.life first start h a in
      (event call p.answer ∷ h, record { answer = p.answer; told = p.told; law = s.0; grown = refl }, s.1)

  pub lasts : (before after : UnitOf C M) (what : Meaning) (reply : Reply) → Obeys c m before what reply after → Lasts c m before what reply after
  lasts before after (refused e) reply o first start h a = (h, (o.0, refl), same_unit before after first start h o.1 a)
  lasts before after status reply o first start h a =
      (h, record { state = state_of c m before; agrees = a; told = o.0; kept = refl }, same_unit before after first start h o.1 a)
  lasts before after (load k) reply o first start h a = call_lasts before after (Load k) reply o first start h a
  lasts before after (install bytes) reply o first start h a =
      let r = call_lasts before after o.0 reply o.2 first start h a in
      (r.0, (o.0, o.1, r.1), r.2)
  lasts before after (fetch address) reply o first start h a = call_lasts before after (Fetch address) reply o first start h a
  lasts before after (overwrite slot number) reply o first start h a = call_lasts before after (Overwrite slot number) reply o first start h a

  same_coding : (before after : UnitOf C M) (what : Meaning) (reply : Reply) → Obeys c m before what reply after → coding_of after ≡ coding_of before
  same_coding before after (refused e) reply o = ap coding_of o.1
  same_coding before after status reply o = ap coding_of o.1
  same_coding before after (load k) reply o = ap coding o.did.suite
  same_coding before after (install bytes) reply o = ap coding o.2.did.suite
  same_coding before after (fetch address) reply o = ap coding o.did.suite
  same_coding before after (overwrite slot number) reply o = ap coding o.did.suite

  pub sessions_last : SessionsLast c m
  sessions_last [] before after first start h g a = (h, refl, same_unit before after first start h g a)
  sessions_last (x ∷ xs) before after first start h g a =
      let mid = g.0 in
      let one = lasts before mid (meaning x.0) x.1 g.1 first start h a in
      let rest = sessions_last xs mid after first start one.0 g.2 one.2 in (
        rest.0,
        (one.0, one.1, subst (λ (d : Coding). LongerBy d first start xs one.0 rest.0) (same_coding before mid (meaning x.0) x.1 g.1) rest.1),
        rest.2,
      )
