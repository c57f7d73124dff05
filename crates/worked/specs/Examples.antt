-- Worked values of the definitions.
use Rattle.std.specs.Prelude.{◌≡◌, List, [], ◌∷◌, ℕ, ◌/◌, get_or}
use Rattle.linear.specs.declared.LinearMap.TheVariants as maps
use Rattle.layers.specs.ChiChi.{chichi}
use Rattle.linear.specs.Linear.{map_of}
use Rattle.cipher.specs.declared.Mode.TheVariants.{Tagged}
use Rattle.image.specs.Layout.{Head, image_length, layout}
use Rattle.paths.specs.declared.decrypt.State.{State}
use Rattle.paths.specs.declared.path.Path.{Path}
use Rattle.paths.specs.declared.path.Path.TheVariants.{Data32, Tag32}
use Rattle.paths.specs.Algorithm.{whitened, rows}

-- the published vector of ChiLow-(32+τ), whitened
abbrev pub vector : Path → State
vector p = whitened p 0xFEDCBA98765432107766554433221100 0x0011223344556677 0x01234567

-- an image of two records with tags of 16 bits, version 7, byte address 0x1000; and the shortest image, one record with a tag of 8 bits
abbrev pub two_records : Head
two_records = record { mode = Tagged; tag = 16; version = 7; base = 0x1000 / 4; count = 2 }

abbrev pub two_record_bytes : List ℕ
two_record_bytes =
    0x10 ∷ 0x07 ∷ 0x00 ∷ 0x00 ∷ 0x10 ∷ 0x00 ∷ 0x00 ∷ 0x00 ∷ 0x80 ∷ 0x48 ∷ 0xD1 ∷ 0x59 ∷ 0xE2 ∷ 0x6A ∷ 0xC0
    ∷ 0x00 ∷ 0x00 ∷ 0x00 ∷ 0x00 ∷ 0x00 ∷ 0x40 ∷ []

abbrev pub one_record : Head
one_record = record { mode = Tagged; tag = 8; version = 1; base = 0; count = 1 }

pub record Worked : Type 0 where
  pub whitened_data : (vector Data32).block ≡ 0x77777777
  pub whitened_tag : (vector Tag32).block ≡ 0xFFFFFFFF
  pub whitened_tweak : (vector Data32).tweak ≡ 0x7777777777777777
  pub chichi_sevens : chichi 16 0x77777777 ≡ 0xF3333333
  pub chichi_ones : chichi 16 0xFFFFFFFF ≡ 0xFFFF7FFF
  pub chichi_wide : chichi 32 0x7777777777777777 ≡ 0xF333333333333333
  pub chichi_zero : chichi 16 0 ≡ 0
  pub map_data : map_of maps.Data32 0xF3333333 ≡ 0x1BD9D19D
  pub map_tag : map_of maps.Tag32 0xFFFF7FFF ≡ 0x7FF7FBFF
  pub map_tweak : map_of maps.Tweak64 0xF333333333333333 ≡ 0xB3B3B73333332323
  pub image_of_two : layout two_records (0x0123456789AB ∷ 1 ∷ []) ≡ two_record_bytes
  pub image_of_one : image_length one_record ≡ 14

-- what the code computes of the same inputs
abbrev pub traced : Path → State
traced p = get_or (rows p 0xFEDCBA98765432107766554433221100 0x0011223344556677 0x01234567) 0 (record { block = 0; tweak = 0; key = 0 })

abbrev pub defined : List ℕ
defined =
    (traced Data32).block ∷ (traced Tag32).block ∷ (traced Data32).tweak
    ∷ chichi 16 0x77777777 ∷ chichi 16 0xFFFFFFFF ∷ chichi 32 0x7777777777777777 ∷ chichi 16 0
    ∷ map_of maps.Data32 0xF3333333 ∷ map_of maps.Tag32 0xFFFF7FFF ∷ map_of maps.Tweak64 0xF333333333333333 ∷ []

-- the same values, as a list
abbrev pub published : List ℕ
published =
    0x77777777 ∷ 0xFFFFFFFF ∷ 0x7777777777777777
    ∷ 0xF3333333 ∷ 0xFFFF7FFF ∷ 0xF333333333333333 ∷ 0
    ∷ 0x1BD9D19D ∷ 0x7FF7FBFF ∷ 0xB3B3B73333332323 ∷ []
