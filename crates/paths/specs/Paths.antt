-- The two ciphers, and the three data paths that they run: ChiLow-(32+τ) runs the 32-bit data path and the tag path
-- side by side, ChiLow-40 the 40-bit data path.
use Rattle.std.specs.Prelude.{ℕ}
use Rattle.bits.specs.Number.{part}
use Rattle.linear.specs.declared.LinearMap.{LinearMap}
use Rattle.linear.specs.declared.LinearMap.TheVariants as maps
use Rattle.layers.specs.declared.width.Width.{Width}
use Rattle.layers.specs.declared.width.Width.TheVariants.{W32, W40}
use Rattle.layers.specs.ChiChi.{chichi}
use Rattle.linear.specs.Linear.{map_of}
use Rattle.layers.specs.Widths.{half, size}
use Rattle.cipher.specs.declared.Mode.{Mode}
use Rattle.cipher.specs.declared.Mode.TheVariants.{Tagged, Block}
use Rattle.paths.specs.declared.path.Path.{Path}
use Rattle.paths.specs.declared.path.Path.TheVariants.{Data32, Tag32, Data40}

abbrev pub cipher_of : Path → Mode
cipher_of Data32 = Tagged
cipher_of Tag32 = Tagged
cipher_of Data40 = Block

abbrev pub width_of : Path → Width
width_of Data32 = W32
width_of Tag32 = W32
width_of Data40 = W40

abbrev pub linear_of : Path → LinearMap
linear_of Data32 = maps.Data32
linear_of Tag32 = maps.Tag32
linear_of Data40 = maps.Data40

-- the lowest bit of the key that whitens the path
abbrev pub key_start : Path → ℕ
key_start Data32 = 64
key_start Tag32 = 96
key_start Data40 = 64

-- the lowest bit of the tweak state that the path takes
abbrev pub tweak_start : Path → ℕ
tweak_start Data32 = 0
tweak_start Tag32 = 32
tweak_start Data40 = 0

abbrev pub whitening : Path → ℕ → ℕ
whitening p k = part k (key_start p) (size (width_of p))

abbrev pub tweak_part : Path → ℕ → ℕ
tweak_part p t = part t (tweak_start p) (size (width_of p))

-- the nonlinear layer of the path, and both layers
abbrev pub chi : Path → ℕ → ℕ
chi p x = chichi (half (width_of p)) x

abbrev pub mixed : Path → ℕ → ℕ
mixed p x = map_of (linear_of p) (chi p x)
