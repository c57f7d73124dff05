-- A word cipher, by its meaning.
use Rattle.std.specs.Prelude.{◌≡◌, ℕ, zero, suc, ◌+◌, ◌*◌, ◌^◌, ◌<◌, Bool, true, false, cond, ◌&&◌, Some, None, Option, ◌==◌, nat_le}
use Rattle.cipher.specs.declared.Mode.{Mode}
use Rattle.cipher.specs.declared.Mode.TheVariants.{Tagged, Block}

-- the number of a mode
abbrev pub mode_number : Mode → ℕ
mode_number Tagged = 0
mode_number Block = 1

-- the mode of a bit
abbrev pub mode_of_bit : Bool → Mode
mode_of_bit true = Block
mode_of_bit false = Tagged

-- which tag lengths a mode can have
abbrev pub fits_mode : Mode → ℕ → Bool
fits_mode Tagged τ = nat_le 8 τ && nat_le τ 16
fits_mode Block τ = τ == 8

-- the tweak of an instruction
abbrev pub tweak_of : ℕ → ℕ → ℕ
tweak_of version address = version * 2 ^ 32 + address

-- how a cipher encrypts: from key, mode, tag length, tweak and instruction to a stored number
abbrev pub Rule : Type 0
Rule = ℕ → Mode → ℕ → ℕ → ℕ → ℕ

-- the highest number below n that e takes to s
unfoldable pub preimage : (ℕ → ℕ) → ℕ → ℕ → Option ℕ
preimage e s zero = None
preimage e s (suc n) = cond (e n == s) (Some n) (preimage e s n)

-- what a stored number decrypts to: the instruction whose encryption it is, or nothing
unfoldable pub decrypted : (ℕ → ℕ) → ℕ → Option ℕ
decrypted encrypt s = preimage encrypt s (2 ^ 32)

-- the two laws of an encryption and a decryption, under one key and tweak
pub record Laws (encrypt : ℕ → ℕ) (decrypt : ℕ → Option ℕ) (τ : ℕ) : Type 0 where
  -- the encryption of an instruction has 32 + τ bits, and decrypts to that instruction
  pub small : (i : ℕ) → i < 2 ^ 32 → encrypt i < 2 ^ (32 + τ)
  pub first : (i : ℕ) → i < 2 ^ 32 → decrypt (encrypt i) ≡ Some i
  -- a stored number that decrypts to an instruction is that instruction's encryption
  pub second : (s i : ℕ) → s < 2 ^ 64 → decrypt s ≡ Some i → (i < 2 ^ 32) × (s ≡ encrypt i)

-- both laws, under each key and tweak
abbrev pub Lawful : Rule → Mode → ℕ → Type 0
Lawful rule m τ = (k t : ℕ) → k < 2 ^ 128 → t < 2 ^ 64 → Laws (rule k m τ t) (decrypted (rule k m τ t)) τ

-- whatever keeps the two laws with an encryption decrypts as `decrypted` does
abbrev pub LawsFixDecryption : Type 0
LawsFixDecryption =
    (encrypt : ℕ → ℕ) (decrypt : ℕ → Option ℕ) (τ : ℕ) → Laws encrypt decrypt τ
    → (s : ℕ) → s < 2 ^ 64 → decrypt s ≡ decrypted encrypt s
