-- ChiLow decryption as published: the state, its whitening, seven rounds alike and a last one.
use Rattle.std.specs.Prelude.{◌≡◌, ℕ, zero, suc, cond, List, map}
use Rattle.std.specs.List.{range_with_len}
use Rattle.bits.specs.Number.{part}
use Rattle.linear.specs.declared.LinearMap.TheVariants.{Tweak64}
use Rattle.layers.specs.ChiChi.{chichi}
use Rattle.linear.specs.Linear.{map_of}
use Rattle.schedule.specs.Schedule.{◌⊻◌, inner, key_round}
use Rattle.paths.specs.declared.path.Path.{Path}
use Rattle.paths.specs.declared.decrypt.State.{State}
use Rattle.paths.specs.Paths.{cipher_of, whitening, tweak_part, chi, mixed}
use Rattle.paths.specs.Data.{schedules, outcome}

abbrev pub whitened : Path → ℕ → ℕ → ℕ → State
whitened p k t x = record { block = x ⊻ whitening p k; tweak = t ⊻ part k 0 64; key = k }

-- rounds 0 to 6
abbrev pub round : Path → ℕ → State → State
round p i s =
    let key : ℕ = key_round (cipher_of p) i s.key in
    let tweak : ℕ = map_of Tweak64 (chichi 32 s.tweak) in
    record { block = mixed p s.block ⊻ tweak_part p tweak; tweak = tweak ⊻ part key 0 64; key = key }

-- round 7
abbrev pub last_round : Path → State → State
last_round p s =
    let tweak : ℕ = map_of Tweak64 s.tweak in
    record { block = chi p s.block ⊻ tweak_part p tweak; tweak = tweak; key = s.key }

-- the state after the whitening and the first i of the eight rounds
unfoldable pub after : Path → ℕ → ℕ → ℕ → ℕ → State
after p k t x zero = whitened p k t x
after p k t x (suc i) = cond (inner i) (round p i (after p k t x i)) (last_round p (after p k t x i))

-- what x decrypts to: in ChiLow-(32+τ) the instruction on the data path and the tag state on the tag path, in ChiLow-40 the block
unfoldable pub decryption : Path → ℕ → ℕ → ℕ → ℕ
decryption p k t x = (after p k t x 8).block

-- the nine rows of a whole decryption
unfoldable pub rows : Path → ℕ → ℕ → ℕ → List State
rows p k t x = map (after p k t x) (range_with_len 0 9)

-- the schedules made ahead lead to the same outcome
abbrev pub SchedulesDecrypt : Type 0
SchedulesDecrypt =
    (p : Path) (k t x : ℕ)
    → outcome p (schedules (cipher_of p) k t) x ≡ decryption p k t x
