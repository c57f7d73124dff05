-- What a line does to a unit.
use Rattle.std.specs.Prelude.{◌≡◌, ℕ, List, [], ◌∷◌}
use Rattle.cipher.specs.declared.WordCipher.{Ghosts as WordCipher}
use Rattle.memory.specs.declared.Memory.{Ghosts as Memory}
use Rattle.life.specs.declared.Answer.{Answer}
use Rattle.life.specs.declared.Call.{Call}
use Rattle.life.specs.declared.Call.TheVariants.{Load, Install, Fetch, Overwrite}
use Rattle.life.specs.Coding.{Coding, coding}
use Rattle.life.specs.History.{Event, event}
use Rattle.life.specs.Life.{Law, Agrees}
use Rattle.life.specs.State.{State, Did}
use Rattle.unit.specs.declared.unit.Unit.{Unit as UnitOf}
use Rattle.unit.specs.View.{state_of, suite_of, status_of, Lives}
use Rattle.command.specs.declared.reply.Reply.{Reply}
use Rattle.command.specs.declared.reply.Reply.TheVariants.{Refused, Status}
use Rattle.command.specs.Lines.{Meaning, meaning}
use Rattle.command.specs.Lines.Meaning.{refused, status, load, install, fetch, overwrite}
use Rattle.command.specs.Replies.{reply_of}

-- a call of the unit, made once: the reply is its answer, the unit is what the machine says, and under the law of its life
pub record Performed {C M : Type 0} (c : WordCipher C) (m : Memory M) (before : UnitOf C M) (call : Call) (reply : Reply) (after : UnitOf C M) : Type 0 where
  pub answer : Answer
  pub told : reply ≡ reply_of answer
  pub did : Did (suite_of c before.core.cipher) (state_of c m before) call answer (suite_of c after.core.cipher) (state_of c m after)
  pub life : Lives c m before call answer after

-- a call that installs those bytes
abbrev pub Installs : List ℕ → Call → Type 0
Installs bytes (Load key) = ⊥
Installs bytes (Install image) = image.now ≡ bytes
Installs bytes (Fetch address) = ⊥
Installs bytes (Overwrite slot number) = ⊥

-- what a meaning does: a refused line and a status are no calls, and change nothing at all
abbrev pub Obeys : {C M : Type 0} → WordCipher C → Memory M → UnitOf C M → Meaning → Reply → UnitOf C M → Type 0
Obeys c m before (refused e) reply after = (reply ≡ Refused e) × (after ≡ before)
Obeys c m before status reply after = (reply ≡ Status (status_of (state_of c m before))) × (after ≡ before)
Obeys c m before (load k) reply after = Performed c m before (Load k) reply after
Obeys c m before (install bytes) reply after =
    (call : Call) × Installs bytes call × Performed c m before call reply after
Obeys c m before (fetch address) reply after = Performed c m before (Fetch address) reply after
Obeys c m before (overwrite slot number) reply after = Performed c m before (Overwrite slot number) reply after

-- ---- the history of a session
-- one call more, answered by the law of a unit's life, and the reply tells the answer
pub record Once (c : Coding) (start : List ℕ) (call : Call) (reply : Reply) (h h' : List Event) : Type 0 where
  pub answer : Answer
  pub told : reply ≡ reply_of answer
  pub law : Law c start h call answer
  pub grown : h' ≡ event call answer ∷ h

-- no call: the history is as it was, and the reply tells of a unit that is what the history says
pub record Shown (c : Coding) (first : ℕ) (start : List ℕ) (reply : Reply) (h h' : List Event) : Type 0 where
  pub state : State
  pub agrees : Agrees c first start h state
  pub told : reply ≡ Status (status_of state)
  pub kept : h' ≡ h

-- the history after a line, by what the line means
abbrev pub Longer : Coding → ℕ → List ℕ → Meaning → Reply → List Event → List Event → Type 0
Longer c first start (refused e) reply h h' = (reply ≡ Refused e) × (h' ≡ h)
Longer c first start status reply h h' = Shown c first start reply h h'
Longer c first start (load k) reply h h' = Once c start (Load k) reply h h'
Longer c first start (install bytes) reply h h' = (call : Call) × Installs bytes call × Once c start call reply h h'
Longer c first start (fetch address) reply h h' = Once c start (Fetch address) reply h h'
Longer c first start (overwrite slot number) reply h h' = Once c start (Overwrite slot number) reply h h'

-- a unit that is what a history says is, after a line, what the longer history says
abbrev pub Lasts : {C M : Type 0} → WordCipher C → Memory M → UnitOf C M → Meaning → Reply → UnitOf C M → Type 0
Lasts c m before what reply after =
    (first : ℕ) (start : List ℕ) (h : List Event)
    → Agrees (coding (suite_of c before.core.cipher)) first start h (state_of c m before)
    → (h' : List Event) × Longer (coding (suite_of c before.core.cipher)) first start what reply h h'
    × Agrees (coding (suite_of c after.core.cipher)) first start h' (state_of c m after)

-- a session: each line with its reply, one after the other
abbrev pub Goes : {C M : Type 0} → WordCipher C → Memory M → UnitOf C M → List (List ℕ × Reply) → UnitOf C M → Type 0
Goes c m before [] after = after ≡ before
Goes {C} {M} c m before (x ∷ xs) after =
    (mid : UnitOf C M) × Obeys c m before (meaning x.0) x.1 mid × Goes c m mid xs after

-- the history after a session
abbrev pub LongerBy : Coding → ℕ → List ℕ → List (List ℕ × Reply) → List Event → List Event → Type 0
LongerBy c first start [] h h' = h' ≡ h
LongerBy c first start (x ∷ xs) h h' =
    (mid : List Event) × Longer c first start (meaning x.0) x.1 h mid × LongerBy c first start xs mid h'

-- the law of a whole session, of any unit and any lines
abbrev pub SessionsLast : {C M : Type 0} → WordCipher C → Memory M → Type 0
SessionsLast {C} {M} c m =
    (xs : List (List ℕ × Reply)) (before after : UnitOf C M) (first : ℕ) (start : List ℕ) (h : List Event)
    → Goes c m before xs after
    → Agrees (coding (suite_of c before.core.cipher)) first start h (state_of c m before)
    → (h' : List Event) × LongerBy (coding (suite_of c before.core.cipher)) first start xs h h'
    × Agrees (coding (suite_of c after.core.cipher)) first start h' (state_of c m after)
