-- Encryption: the rounds of the data path undone, from the last to the first, over the same masks.
use Rattle.std.specs.Prelude.{◌≡◌, ℕ, zero, suc, ◌^◌, ◌<◌, cond}
use Rattle.linear.specs.declared.DataMap.{DataMap}
use Rattle.linear.specs.declared.DataMap.TheVariants.{D32, D40}
use Rattle.layers.specs.Inverse.{chichi⁻¹}
use Rattle.linear.specs.Linear.{inverse_of}
use Rattle.layers.specs.Widths.{half, size}
use Rattle.cipher.specs.declared.Mode.{Mode}
use Rattle.cipher.specs.declared.Mode.TheVariants.{Tagged, Block}
use Rattle.schedule.specs.Schedule.{◌⊻◌, inner}
use Rattle.paths.specs.declared.path.Path.{Path}
use Rattle.paths.specs.declared.path.Path.TheVariants.{Data32, Data40}
use Rattle.paths.specs.Algorithm.{decryption}
use Rattle.paths.specs.declared.schedules.Schedules.{Schedules}
use Rattle.paths.specs.Paths.{width_of, tweak_part}
use Rattle.paths.specs.Data.{masks_of, schedules}

-- the path that the data takes, and its map
abbrev pub data_path : Mode → Path
data_path Tagged = Data32
data_path Block = Data40

abbrev pub data_map : Mode → DataMap
data_map Tagged = D32
data_map Block = D40

-- the width of the data
abbrev pub width : Mode → ℕ
width v = size (width_of (data_path v))

-- round i undone
abbrev pub undo_round : Mode → ℕ → ℕ → ℕ → ℕ
undo_round v i y m =
    let z : ℕ = y ⊻ tweak_part (data_path v) m in
    chichi⁻¹ (half (width_of (data_path v))) (cond (inner i) (inverse_of (data_map v) z) z)

-- the state before round 0, from the state y after i rounds
unfoldable pub data_before : Mode → (ℕ → ℕ) → ℕ → ℕ → ℕ
data_before v ms y zero = y
data_before v ms y (suc i) = data_before v ms (undo_round v i y (ms i)) i

-- what eight rounds make y of, by schedules made ahead
abbrev pub source : Mode → Schedules → ℕ → ℕ
source v s y = data_before v (masks_of s) y 8 ⊻ s.keys.«data»

unfoldable pub encryption : Mode → ℕ → ℕ → ℕ → ℕ
encryption v k t y = source v (schedules v k t) y

-- under every key and tweak, encryption and decryption undo each other on every block
abbrev pub EncryptionUndoes : Type 0
EncryptionUndoes = (v : Mode) (k t x : ℕ) → x < 2 ^ width v → encryption v k t (decryption (data_path v) k t x) ≡ x

abbrev pub EncryptionUndone : Type 0
EncryptionUndone = (v : Mode) (k t y : ℕ) → y < 2 ^ width v → decryption (data_path v) k t (encryption v k t y) ≡ y
