-- A cipher with the key that it has.
use Rattle.std.specs.Prelude.{ℕ}
use Rattle.cipher.specs.declared.WordCipher.{Ghosts as WordCipher}

-- how the cipher encrypts under a tweak: from an instruction to a stored number
abbrev pub encryption_by : {S : Type 0} → WordCipher S → S → ℕ → ℕ → ℕ
encryption_by w s tweak = w.rule s (w.key_of s) (w.mode_of s) (w.tag_of s) tweak
