-- Laying out and reading are inverse.
use Rattle.std.specs.Prelude.{◌≡◌, ℕ, ◌+◌, ◌^◌, ◌<◌, ◌≤◌, Bool, true, ◌&&◌, List, length, None, nat_le, nat_lt, slice_index}
use Rattle.cipher.specs.Word.{fits_mode}
use Rattle.image.specs.Layout.{Head, record_bits, layout}
use Rattle.image.specs.Reading.{head_in, records_in, refusal_of}

-- what a header value holds to
pub record Proper (h : Head) : Type 0 where
  pub fits : fits_mode h.mode h.tag ≡ true
  pub small : h.version < 2 ^ 8
  pub some : 0 < h.count
  pub few : h.count < 2 ^ 20
  pub within : h.base + h.count ≤ 2 ^ 30

-- the same as a test
abbrev pub proper_head : Head → Bool
proper_head h =
    fits_mode h.mode h.tag && nat_lt h.version (2 ^ 8) && nat_lt 0 h.count && nat_lt h.count (2 ^ 20)
    && nat_le (h.base + h.count) (2 ^ 30)

-- what was laid out is read as an image, with that header and those records
pub record ReadAs (bytes : List ℕ) (h : Head) (records : List ℕ) : Type 0 where
  pub accepted : refusal_of bytes ≡ None
  pub head : head_in bytes ≡ h
  pub all : records_in bytes h ≡ records

abbrev pub LayoutIsRead : Type 0
LayoutIsRead =
    (h : Head) (records : List ℕ) → Proper h → length records ≡ h.count
    → ((k : ℕ) → k < length records → slice_index records k < 2 ^ record_bits h) → ReadAs (layout h records) h records

-- what is read as an image is the layout of what was read, and its header is proper
abbrev pub OnlyLayoutIsRead : Type 0
OnlyLayoutIsRead =
    (bytes : List ℕ) → ((k : ℕ) → slice_index bytes k < 256) → refusal_of bytes ≡ None
    → (bytes ≡ layout (head_in bytes) (records_in bytes (head_in bytes))) × Proper (head_in bytes)
