-- Bare words with a zero tag: lawful, and no protection at all.
use Rattle.std.specs.Prelude.{ℕ, ◌*◌, ◌/◌, ◌%◌, ◌^◌, cond, ◌&&◌, Some, None, Option, ◌==◌, nat_lt}
use Rattle.cipher.specs.Word.{Rule}

abbrev pub bare : Rule
bare k m τ t i = i * 2 ^ τ

abbrev pub bare_opened : ℕ → Option ℕ
bare_opened s = cond (nat_lt s (2 ^ 40) && s % 2 ^ 8 == 0) (Some (s / 2 ^ 8)) None
