-- The layout of an image: a header of 66 bits, the records with no gap, and zero bits up to the byte.
use Rattle.std.specs.Prelude.{ℕ, zero, suc, ◌+◌, ◌-◌, ◌*◌, ◌/◌, ◌%◌, ◌^◌, List, [], ◌∷◌, ◌++◌, map}
use Rattle.cipher.specs.declared.Mode.{Mode}
use Rattle.cipher.specs.Word.{mode_number}

-- what a header says: the base is in words, the byte address divided by 4
pub record Head : Type 0 where
  pub mode : Mode
  pub tag : ℕ
  pub version : ℕ
  pub base : ℕ
  pub count : ℕ

-- the fields of a header in order: the bit at which each begins, and its width
abbrev pub form_at : ℕ
form_at = 0

abbrev pub form_bits : ℕ
form_bits = 2

abbrev pub mode_at : ℕ
mode_at = 2

abbrev pub mode_bits : ℕ
mode_bits = 1

abbrev pub tag_at : ℕ
tag_at = 3

abbrev pub tag_bits : ℕ
tag_bits = 5

abbrev pub version_at : ℕ
version_at = 8

abbrev pub version_bits : ℕ
version_bits = 8

abbrev pub base_at : ℕ
base_at = 16

abbrev pub base_bits : ℕ
base_bits = 30

abbrev pub count_at : ℕ
count_at = 46

abbrev pub count_bits : ℕ
count_bits = 20

abbrev pub head_bits : ℕ
head_bits = 66

-- a field by its width and its value
abbrev pub Field : Type 0
Field = ℕ × ℕ

abbrev pub head_fields : Head → List Field
head_fields h =
    (form_bits, 0) ∷ (mode_bits, mode_number h.mode) ∷ (tag_bits, h.tag)
    ∷ (version_bits, h.version) ∷ (base_bits, h.base) ∷ (count_bits, h.count) ∷ []

-- the width of a record
abbrev pub record_bits : Head → ℕ
record_bits h = 32 + h.tag

abbrev pub record_fields : Head → List ℕ → List Field
record_fields h records = map (λ r. (record_bits h, r)) records

-- fields one after the other, as one number, and their width together
abbrev pub joined : List Field → ℕ → ℕ
joined [] v = v
joined (f ∷ fs) v = joined fs (v * 2 ^ f.0 + f.1)

abbrev pub widths : List Field → ℕ
widths [] = 0
widths (f ∷ fs) = f.0 + widths fs

-- n bytes of a number, the most significant first
abbrev pub bytes_of : ℕ → ℕ → List ℕ
bytes_of zero v = []
bytes_of (suc n) v = v / 2 ^ (8 * n) % 256 ∷ bytes_of n v

-- where the records end, in bits, and the length of the image in bytes
abbrev pub end_of : Head → ℕ
end_of h = head_bits + h.count * record_bits h

abbrev pub image_length : Head → ℕ
image_length h = (end_of h + 7) / 8

unfoldable pub layout : Head → List ℕ → List ℕ
layout h records =
    bytes_of (image_length h) (joined (head_fields h ++ record_fields h records) 0 * 2 ^ (8 * image_length h - end_of h))
