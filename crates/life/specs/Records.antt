-- What an image that was read yields.
use Rattle.std.specs.Prelude.{ℕ, cond, List, None, Option, nat_lt}
use Rattle.cipher.specs.declared.WordCipher.{Ghosts as WordCipher}
use Rattle.image.specs.Reading.{head_in, foreign_refusal, or_else, refusal_of}
use Rattle.refusal.specs.declared.Refusal.{Refusal}
use Rattle.life.specs.declared.sealed.Sealed.{Sealed}
use Rattle.life.specs.Coding.{coding, suite_of}
use Rattle.life.specs.Checks.{record_opens}

-- the first refusal that fits an image's bytes and header
abbrev pub read_refusal : {C : Type 0} → WordCipher C → C → List ℕ → Option Refusal
read_refusal c cipher bytes = or_else (refusal_of bytes) (foreign_refusal (c.mode_of cipher) (c.tag_of cipher) (head_in bytes))

-- what its record k yields at its address, and nothing past the last
abbrev pub opens : {C : Type 0} → WordCipher C → Sealed C → ℕ → Option ℕ
opens c s k =
    cond (nat_lt k (head_in s.image.now).count) (record_opens (coding (suite_of c s.cipher.now)) (c.key_of s.cipher.now) s.image.now (head_in s.image.now) k) None
