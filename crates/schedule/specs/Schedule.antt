-- The key schedule, from the key alone; the tweak schedule, from its words.
-- Each has nine rows: after the whitening, and after each of the eight rounds, of which the last differs.
use Rattle.std.specs.Prelude.{ℕ, zero, suc, ◌+◌, ◌*◌, ◌^◌, Bool, cond, List, map, bit_xor, nat_lt, slice_index}
use Rattle.std.specs.List.{range_with_len}
use Rattle.bits.specs.Number.{part}
use Rattle.linear.specs.declared.LinearMap.TheVariants.{Tweak64, Key128}
use Rattle.layers.specs.ChiChi.{chichi}
use Rattle.linear.specs.Linear.{map_of}
use Rattle.cipher.specs.declared.Mode.{Mode}
use Rattle.cipher.specs.declared.Mode.TheVariants.{Tagged, Block}
use Rattle.schedule.specs.declared.key.KeySchedule.{KeySchedule}
use Rattle.schedule.specs.declared.tweak.TweakSchedule.{TweakSchedule}

-- exclusive or of two states
infixl 30 ◌⊻◌
abbrev pub ◌⊻◌ : ℕ → ℕ → ℕ
a ⊻ b = bit_xor a b

-- the list of f 0 to f (n - 1)
unfoldable pub table : ℕ → (ℕ → ℕ) → List ℕ
table n f = map f (range_with_len 0 n)

-- rounds 0 to 6 are alike, round 7 is the last
abbrev pub inner : ℕ → Bool
inner i = nat_lt i 7

-- ---- key
-- what tells the two ciphers apart
abbrev pub domain : Mode → ℕ
domain Tagged = 0
domain Block = 2 ^ 31

-- what round i adds to bits 96 to 127 of the key state
abbrev pub constant : Mode → ℕ → ℕ
constant v i = i ⊻ 2 ^ (i + 4) ⊻ domain v

abbrev pub key_round : Mode → ℕ → ℕ → ℕ
key_round v i k = map_of Key128 (chichi 64 (k ⊻ constant v i * 2 ^ 96))

unfoldable pub key_after : Mode → ℕ → ℕ → ℕ
key_after v k zero = k
key_after v k (suc i) = cond (inner i) (key_round v i (key_after v k i)) (key_after v k i)

abbrev pub round_word : Mode → ℕ → ℕ → ℕ
round_word v k i = part (key_after v k (suc i)) 0 64

-- how many bits of the key whiten the data
abbrev pub data_bits : Mode → ℕ
data_bits Tagged = 32
data_bits Block = 40

abbrev pub key_schedule : Mode → ℕ → KeySchedule
key_schedule v k =
    record { tweak = part k 0 64; «data» = part k 64 (data_bits v); tag = part k 96 32; rounds = table 7 (round_word v k) }

-- ---- tweak: w whitens, ws are the words of rounds 0 to 6
-- what the data takes in round i, from the tweak state before it: the key's word is added after
abbrev pub mask : ℕ → ℕ → ℕ
mask i t = map_of Tweak64 (cond (inner i) (chichi 32 t) t)

abbrev pub tweak_round : ℕ → ℕ → ℕ → ℕ
tweak_round i t w = cond (inner i) (mask i t ⊻ w) (mask i t)

unfoldable pub tweak_after : ℕ → (ℕ → ℕ) → ℕ → ℕ → ℕ
tweak_after w ws t zero = t ⊻ w
tweak_after w ws t (suc i) = tweak_round i (tweak_after w ws t i) (ws i)

abbrev pub tweak_mask : ℕ → (ℕ → ℕ) → ℕ → ℕ → ℕ
tweak_mask w ws t i = mask i (tweak_after w ws t i)

abbrev pub tweak_schedule : KeySchedule → ℕ → TweakSchedule
tweak_schedule keys t = record {
  states = table 9 (tweak_after keys.tweak (λ i. slice_index keys.rounds i) t);
  masks = table 8 (tweak_mask keys.tweak (λ i. slice_index keys.rounds i) t);
}
