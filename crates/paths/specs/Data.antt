-- The data path, from its whitened state and the masks of the tweak schedule: nine rows as the schedules have.
use Rattle.std.specs.Prelude.{ℕ, zero, suc, cond, slice_index}
use Rattle.schedule.specs.declared.key.KeySchedule.{KeySchedule}
use Rattle.schedule.specs.Schedule.{◌⊻◌, inner, key_schedule, tweak_schedule}
use Rattle.paths.specs.declared.path.Path.{Path}
use Rattle.paths.specs.declared.path.Path.TheVariants.{Data32, Tag32, Data40}
use Rattle.cipher.specs.declared.Mode.{Mode}
use Rattle.paths.specs.declared.schedules.Schedules.{Schedules}
use Rattle.paths.specs.Paths.{chi, mixed, tweak_part}

-- ms are the masks of rounds 0 to 7
abbrev pub data_round : Path → ℕ → ℕ → ℕ → ℕ
data_round p i x m = cond (inner i) (mixed p x) (chi p x) ⊻ tweak_part p m

-- after i rounds, from the whitened state x
unfoldable pub data_after : Path → (ℕ → ℕ) → ℕ → ℕ → ℕ
data_after p ms x zero = x
data_after p ms x (suc i) = data_round p i (data_after p ms x i) (ms i)

-- the word of the key that whitens a path
abbrev pub word_of : KeySchedule → Path → ℕ
word_of keys Data32 = keys.«data»
word_of keys Tag32 = keys.tag
word_of keys Data40 = keys.«data»

-- the schedules under a tweak, from the words of the key, and from the key
abbrev pub under : KeySchedule → ℕ → Schedules
under keys t = record { keys = keys; tweaks = tweak_schedule keys t }

abbrev pub schedules : Mode → ℕ → ℕ → Schedules
schedules v k t = under (key_schedule v k) t

-- the masks of rounds 0 to 7
abbrev pub masks_of : Schedules → ℕ → ℕ
masks_of s i = slice_index s.tweaks.masks i

-- what a path makes of x in eight rounds
unfoldable pub outcome : Path → Schedules → ℕ → ℕ
outcome p s x = data_after p (masks_of s) (x ⊻ word_of s.keys p) 8
