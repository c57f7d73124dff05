-- The four widths of a state.
use Rattle.std.specs.Prelude.{ℕ, ◌+◌}
use Rattle.layers.specs.declared.width.Width.{Width}
use Rattle.layers.specs.declared.width.Width.TheVariants.{W32, W40, W64, W128}

-- half the number of bits
abbrev pub half : Width → ℕ
half W32 = 16
half W40 = 20
half W64 = 32
half W128 = 64

-- the number of bits
abbrev pub size : Width → ℕ
size w = half w + half w
