-- Reading an image: its header, its records, and the first refusal that fits it.
use Rattle.std.specs.Prelude.{ℕ, ◌+◌, ◌-◌, ◌*◌, ◌^◌, Bool, cond, not, ◌&&◌, List, map, length, Some, None, Option, ◌==◌, nat_lt}
use Rattle.std.specs.List.{range_with_len}
use Rattle.bits.specs.Field.{field}
use Rattle.cipher.specs.declared.Mode.{Mode}
use Rattle.cipher.specs.Word.{mode_number, mode_of_bit, fits_mode}
use Rattle.refusal.specs.declared.HeaderField.TheVariants.{Form, TagLength, Count, Base}
use Rattle.refusal.specs.declared.Refusal.{Refusal}
use Rattle.refusal.specs.declared.Refusal.TheVariants.{Stub, BadHeader, Misfit, Foreign}
use Rattle.image.specs.declared.header.Header.{Header}
use Rattle.image.specs.Layout.{Head, form_at, form_bits, mode_at, mode_bits, tag_at, tag_bits, version_at, version_bits, base_at, base_bits, count_at, count_bits, head_bits, record_bits, end_of, image_length}

abbrev pub mode_from : ℕ → Mode
mode_from bit = mode_of_bit (not (bit == 0))

-- the header in the first 66 bits
abbrev pub head_in : List ℕ → Head
head_in bytes = record {
  mode = mode_from (field bytes mode_at mode_bits);
  tag = field bytes tag_at tag_bits;
  version = field bytes version_at version_bits;
  base = field bytes base_at base_bits;
  count = field bytes count_at count_bits;
}

-- record k, and all records
abbrev pub record_in : List ℕ → Head → ℕ → ℕ
record_in bytes h k = field bytes (head_bits + k * record_bits h) (record_bits h)

abbrev pub records_in : List ℕ → Head → List ℕ
records_in bytes h = map (record_in bytes h) (range_with_len 0 h.count)

-- the record that is asked for, if there is one
abbrev pub record_at : List ℕ → Head → ℕ → Option ℕ
record_at bytes h k = cond (nat_lt k h.count) (Some (record_in bytes h k)) None

-- the pad bits
abbrev pub pad_in : List ℕ → Head → ℕ
pad_in bytes h = field bytes (end_of h) (8 * image_length h - end_of h)

-- the length is exact, and every pad bit is zero
abbrev pub fits_length : List ℕ → Head → Bool
fits_length bytes h = length bytes == image_length h && pad_in bytes h == 0

-- the first refusal that fits the header, if any
abbrev pub head_refusal : List ℕ → Option Refusal
head_refusal bytes =
    cond (nat_lt (length bytes) 9) (Some (Stub (length bytes)))
    (cond (not (field bytes form_at form_bits == 0)) (Some (BadHeader Form))
    (cond (not (fits_mode (head_in bytes).mode (head_in bytes).tag)) (Some (BadHeader TagLength))
    (cond ((head_in bytes).count == 0) (Some (BadHeader Count))
    (cond (nat_lt (2 ^ 30) ((head_in bytes).base + (head_in bytes).count)) (Some (BadHeader Base))
    None))))

-- and the whole image
abbrev pub fit_refusal : List ℕ → Head → Option Refusal
fit_refusal bytes h = cond (fits_length bytes h) None (Some (Misfit (image_length h)))

-- the mode or the tag length is not the cipher's
abbrev pub foreign_to : Mode → ℕ → Head → Bool
foreign_to mode tag h = not (mode_number mode == mode_number h.mode && tag == h.tag)

abbrev pub foreign_refusal : Mode → ℕ → Head → Option Refusal
foreign_refusal mode tag h = cond (foreign_to mode tag h) (Some Foreign) None

abbrev pub or_else : Option Refusal → Option Refusal → Option Refusal
or_else (Some e) _ = Some e
or_else None o = o

abbrev pub refusal_of : List ℕ → Option Refusal
refusal_of bytes = or_else (head_refusal bytes) (fit_refusal bytes (head_in bytes))

-- a header value, as what it says
abbrev pub head_of : Header → Head
head_of h = record { mode = h.mode; tag = h.tag_length; version = h.version; base = h.base; count = h.count }
