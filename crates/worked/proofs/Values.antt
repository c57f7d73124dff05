-- The worked values, computed.
use mathlib.Core.Path.{refl}
use Rattle.layers.specs.ChiChi.{chichi}
use Rattle.linear.specs.Linear.{linear}
use Rattle.image.specs.Layout.{layout}
use Rattle.worked.specs.Examples.{Worked}

pub worked : Worked
unfolding chichi linear layout
worked = record {
  whitened_data = refl;
  whitened_tag = refl;
  whitened_tweak = refl;
  chichi_sevens = refl;
  chichi_ones = refl;
  chichi_wide = refl;
  chichi_zero = refl;
  map_data = refl;
  map_tag = refl;
  map_tweak = refl;
  image_of_two = refl;
  image_of_one = refl;
}
