-- A unit's cipher and its answers, as the checks and the law speak of them.
use Rattle.std.specs.Prelude.{ℕ, Option}
use Rattle.cipher.specs.declared.Mode.{Mode}
use Rattle.cipher.specs.declared.WordCipher.{Ghosts as WordCipher}
use Rattle.cipher.specs.Word.{Rule, tweak_of, decrypted}
use Rattle.refusal.specs.declared.Note.{Note}
use Rattle.refusal.specs.Table.{note_of}
use Rattle.life.specs.declared.Answer.{Answer}
use Rattle.life.specs.declared.Answer.TheVariants.{Done, Instruction, Refused}

-- how a cipher encrypts, its mode and tag length, and what a stored number decrypts to under a key and a tweak
pub record Coding : Type 0 where
  pub rule : Rule
  pub mode : Mode
  pub tag : ℕ
  pub decrypt : ℕ → ℕ → ℕ → Option ℕ

-- what a cipher never changes
pub record Suite : Type 0 where
  pub rule : Rule
  pub mode : Mode
  pub tag : ℕ

abbrev pub suite_of : {C : Type 0} → WordCipher C → C → Suite
suite_of c cipher = record { rule = c.rule cipher; mode = c.mode_of cipher; tag = c.tag_of cipher }

-- the coding of a cipher, whose decryption follows from its rule
abbrev pub coding : Suite → Coding
coding u = record { rule = u.rule; mode = u.mode; tag = u.tag; decrypt = λ key tweak stored. decrypted (u.rule key u.mode u.tag tweak) stored }

-- an instruction as it is stored for an address, under a key and a version
abbrev pub sealed_at : Coding → ℕ → ℕ → ℕ → ℕ → ℕ
sealed_at c key version address instruction = c.rule key c.mode c.tag (tweak_of version address) instruction

-- what a stored number yields at an address
abbrev pub opened_at : Coding → ℕ → ℕ → ℕ → ℕ → Option ℕ
opened_at c key version address stored = c.decrypt key (tweak_of version address) stored

-- what an answer tells: nothing, an instruction, or a refusal's number, place and layer
pub data Told : Type 0 where
  done : Told
  yielded : ℕ → Told
  refused : Note → Told

abbrev pub tells : Answer → Told
tells Done = done
tells (Instruction i) = yielded i
tells (Refused e) = refused (note_of e)
