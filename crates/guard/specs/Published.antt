-- ChiLow's coding, with the published decryption.
use Rattle.std.specs.Prelude.{ℕ}
use Rattle.cipher.specs.declared.Mode.{Mode}
use Rattle.chilow.specs.Words.{chilow, opened}
use Rattle.life.specs.Coding.{Coding}

abbrev pub published : Mode → ℕ → Coding
published mode tag = record { rule = chilow; mode = mode; tag = tag; decrypt = λ key tweak stored. opened key mode tag tweak stored }
