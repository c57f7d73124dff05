-- Stored words: what ChiLow stores of an instruction, and what it makes of a stored number.
use Rattle.std.specs.Prelude.{ℕ, ◌+◌, ◌*◌, ◌/◌, ◌%◌, ◌^◌, cond, ◌&&◌, Some, None, Option, ◌==◌, nat_lt}
use Rattle.bits.specs.Number.{part}
use Rattle.cipher.specs.declared.Mode.{Mode}
use Rattle.cipher.specs.declared.Mode.TheVariants.{Tagged, Block}
use Rattle.cipher.specs.Word.{Rule}
use Rattle.paths.specs.declared.path.Path.{Path}
use Rattle.paths.specs.declared.path.Path.TheVariants.{Data32, Tag32, Data40}
use Rattle.paths.specs.Algorithm.{decryption}
use Rattle.paths.specs.declared.schedules.Schedules.{Schedules}
use Rattle.paths.specs.Data.{outcome}
use Rattle.paths.specs.Encryption.{encryption}

-- what path p makes of x, by the schedules s
abbrev pub run : Schedules → Path → ℕ → ℕ
run s p x = outcome p s x

-- with seal i the block that decrypts to i, and run p x the decryption of x on path p:
-- ciphertext and tag side by side, or the block
abbrev pub stored_by : (ℕ → ℕ) → (Path → ℕ → ℕ) → Mode → ℕ → ℕ → ℕ
stored_by seal run Tagged τ i = seal i * 2 ^ τ + part (run Tag32 (seal i)) 0 τ
stored_by seal run Block τ i = seal i

-- a stored number of 32 + τ bits is opened if its tag is right, or if the top eight bits of the block come out zero
abbrev pub opened_by : (Path → ℕ → ℕ) → Mode → ℕ → ℕ → Option ℕ
opened_by run Tagged τ s =
    cond (nat_lt s (2 ^ (32 + τ)) && part (run Tag32 (s / 2 ^ τ)) 0 τ == s % 2 ^ τ) (Some (run Data32 (s / 2 ^ τ))) None
opened_by run Block τ s =
    cond (nat_lt s (2 ^ (32 + τ)) && part (run Data40 s) 32 8 == 0) (Some (part (run Data40 s) 0 32)) None

-- ChiLow's encryption rule
unfoldable pub chilow : Rule
chilow k m τ t i = stored_by (encryption m k t) (λ p x. decryption p k t x) m τ i

-- ChiLow's published decryption: key, mode, tag length, tweak and stored number
unfoldable pub opened : ℕ → Mode → ℕ → ℕ → ℕ → Option ℕ
opened k m τ t s = opened_by (λ p x. decryption p k t x) m τ s
