-- Laying out and reading are inverse.
use Rattle.std.proofs.Common.{◌≡◌, ℕ, zero, suc, ◌+◌, ◌-◌, ◌*◌, ◌/◌, ◌%◌, ◌^◌, ◌<◌, ◌≤◌, Bool, true, false, cond, not, eqb, ltb, leb, List, ◌++◌, length, get_or, Some, None, Option, sym, refl, ap, ◌∙◌, subst, ap₂, add-zero, mod-eq_of_lt, zero-add, div-one, arith}
use Rattle.std.proofs.lemmas.Nat.{pow_pos, shr-shr, shr_high, shl-shr, mod_low, mul-le}
use Rattle.std.proofs.lemmas.List.FromFn.{fill_by_all}
use Rattle.std.proofs.lemmas.List.{same_lists, get_or_default}
use Rattle.std.proofs.lemmas.Bool.{cond-true, cond-false, eqb-true, eqb-false, eq-eqb, ne_eqb, leb-true, le-ltb, ltb-false, and_parts, and_from}
use Rattle.bits.specs.Field.{field}
use Rattle.bits.proofs.Fields.{field_lt, field_split, field_byte}
use Rattle.cipher.specs.declared.Mode.{Mode}
use Rattle.cipher.specs.declared.Mode.TheVariants.{Tagged, Block}
use Rattle.cipher.specs.Word.{mode_number, fits_mode}
use Rattle.refusal.specs.declared.HeaderField.TheVariants.{Form, TagLength, Count, Base}
use Rattle.refusal.specs.declared.Refusal.{Refusal}
use Rattle.refusal.specs.declared.Refusal.TheVariants.{BadHeader}
use Rattle.image.specs.Laws.{Proper, LayoutIsRead, OnlyLayoutIsRead}
use Rattle.image.specs.Layout.{Head, head_fields, record_fields, record_bits, joined, widths, bytes_of, end_of, image_length, layout}
use Rattle.image.specs.Reading.{mode_from, head_in, record_in, records_in, pad_in, fits_length, head_refusal, fit_refusal, or_else, refusal_of}
use Rattle.image.proofs.Packing.{length_bytes, byte_of_lem, field_of_bytes, field-part, joined_is, widths-uniform, uniform_lt, uniform_at, uniform_read}

-- ---- tag lengths
pub tag_least : (m : Mode) (τ : ℕ) → fits_mode m τ ≡ true → 8 ≤ τ
tag_least Tagged τ h = leb-true 8 τ (and_parts (leb 8 τ) (leb τ 16) h).0
tag_least Block τ h = omega (arith, eqb-true τ 8 h)

pub tag_most : (m : Mode) (τ : ℕ) → fits_mode m τ ≡ true → τ ≤ 16
tag_most Tagged τ h = leb-true τ 16 (and_parts (leb 8 τ) (leb τ 16) h).1
tag_most Block τ h = omega (arith, eqb-true τ 8 h)

pub mode_lt : (m : Mode) → mode_number m < 2
mode_lt Tagged = omega arith
mode_lt Block = omega arith

pub mode_back : (m : Mode) → mode_from (mode_number m) ≡ m
mode_back Tagged = refl
mode_back Block = refl

mode_there : (b : ℕ) → b < 2 → mode_number (mode_from b) ≡ b
mode_there zero h = refl
mode_there (suc zero) h = refl
mode_there (suc (suc b)) h = absurd (omega arith)

-- ---- bytes whose parts are those of a header
module _ (bytes : List ℕ) (h : Head) (proper : Proper h) where
  -- the header, from its 66 bits as one number
  head_part : field bytes 0 66 ≡ joined (head_fields h) 0 → (o w : ℕ) → o + w ≤ 66 → field bytes o w ≡ joined (head_fields h) 0 / 2 ^ (66 - o - w) % 2 ^ w
  head_part e o w l = sym (field-part bytes 66 o w l) ∙ ap (λ (z : ℕ). z / 2 ^ (66 - o - w) % 2 ^ w) e

  tag_lt : h.tag < 32
  tag_lt = let t : h.tag ≤ 16 = tag_most h.mode h.tag proper.fits in omega arith

  pub form_read : field bytes 0 66 ≡ joined (head_fields h) 0 → field bytes 0 2 ≡ 0
  form_read e = head_part e 0 2 (omega arith) ∙ (let m = mode_lt h.mode in let t = tag_lt in omega (arith, proper.small, proper.few, proper.within, proper.some))

  pub head_read : field bytes 0 66 ≡ joined (head_fields h) 0 → head_in bytes ≡ h
  head_read e =
      let m = mode_lt h.mode in
      let t = tag_lt in
      let mode : mode_from (field bytes 2 1) ≡ h.mode =
      ap mode_from (head_part e 2 1 (omega arith) ∙ omega (arith, proper.small, proper.few, proper.within, proper.some)) ∙ mode_back h.mode in
      let tag : field bytes 3 5 ≡ h.tag = head_part e 3 5 (omega arith) ∙ omega (arith, proper.small, proper.few, proper.within, proper.some) in
      let version : field bytes 8 8 ≡ h.version = head_part e 8 8 (omega arith) ∙ omega (arith, proper.small, proper.few, proper.within, proper.some) in
      let base : field bytes 16 30 ≡ h.base = head_part e 16 30 (omega arith) ∙ omega (arith, proper.small, proper.few, proper.within, proper.some) in
      let count : field bytes 46 20 ≡ h.count = head_part e 46 20 (omega arith) ∙ omega (arith, proper.small, proper.few, proper.within, proper.some) in
      λ z. record { mode = mode z; tag = tag z; version = version z; base = base z; count = count z }

  long_enough : length bytes ≡ image_length h → 9 ≤ length bytes
  long_enough l =
      let t : 8 ≤ h.tag = tag_least h.mode h.tag proper.fits in
      let b : 1 * 40 ≤ h.count * record_bits h = mul-le 1 40 h.count (record_bits h) (omega (arith, proper.some)) (omega arith) in
      omega arith

  -- no test of the header fails
  no_head_refusal : field bytes 0 2 ≡ 0 → head_in bytes ≡ h → length bytes ≡ image_length h → head_refusal bytes ≡ None
  no_head_refusal form head long =
      cond-false _ _ _ (le-ltb (length bytes) 9 (long_enough long))
      ∙ cond-false _ _ _ (ap not (eq-eqb (field bytes 0 2) 0 form))
      ∙ ap (λ (g : Head). cond (not (fits_mode g.mode g.tag)) (Some (BadHeader TagLength)) (cond (eqb g.count 0) (Some (BadHeader Count)) (cond (ltb (2 ^ 30) (g.base + g.count)) (Some (BadHeader Base)) None))) head
      ∙ cond-false _ _ _ (ap not proper.fits)
      ∙ cond-false _ _ _ (ne_eqb h.count 0 (λ e. omega (arith, e, proper.some)))
      ∙ cond-false _ _ _ (le-ltb (2 ^ 30) (h.base + h.count) proper.within)

  pub not_refused : field bytes 0 2 ≡ 0 → head_in bytes ≡ h → length bytes ≡ image_length h → pad_in bytes h ≡ 0 → refusal_of bytes ≡ None
  not_refused form head long pad =
      ap (λ (o : Option Refusal). or_else o (fit_refusal bytes (head_in bytes))) (no_head_refusal form head long)
      ∙ ap (fit_refusal bytes) head
      ∙ cond-true (fits_length bytes h) _ _ (and_from _ _ (eq-eqb (length bytes) (image_length h) long) (eq-eqb (pad_in bytes h) 0 pad))

-- ---- a layout, read
module _ (h : Head) (rs : List ℕ) (proper : Proper h) (many : length rs ≡ h.count) (small : (k : ℕ) → k < length rs → get_or rs k 0 < 2 ^ record_bits h) where
  abbrev B : ℕ
  B = record_bits h

  abbrev n : ℕ
  n = image_length h

  abbrev pad : ℕ
  pad = 8 * image_length h - end_of h

  -- the header and the records, each as one number
  abbrev H : ℕ
  H = joined (head_fields h) 0

  abbrev R : ℕ
  R = joined (record_fields h rs) H

  no_pad : R * 2 ^ pad / 2 ^ pad ≡ R
  no_pad = shl-shr R pad

  records_width : widths (record_fields h rs) ≡ h.count * B
  records_width = widths-uniform B rs ∙ ap (λ (z : ℕ). z * B) many

  no_records : R / 2 ^ (h.count * B) ≡ H
  no_records =
      ap₂ (λ (x y : ℕ). x / 2 ^ y) (joined_is (record_fields h rs) H) (sym records_width)
      ∙ shr_high H (widths (record_fields h rs)) (joined (record_fields h rs) 0) (uniform_lt B rs small)

  laid_field : (o w : ℕ) → o + w ≤ 8 * n → field (layout h rs) o w ≡ R * 2 ^ pad / 2 ^ (8 * n - o - w) % 2 ^ w
  unfolding layout
  laid_field o w l = field_of_bytes n (R * 2 ^ pad) o w l

  -- the header's bits
  laid_bits : field (layout h rs) 0 66 ≡ H
  laid_bits =
      let m = mode_lt h.mode in
      let t : h.tag ≤ 16 = tag_most h.mode h.tag proper.fits in
      let e : 8 * n - 0 - 66 ≡ pad + h.count * B = omega arith in
      laid_field 0 66 (omega arith)
      ∙ ap (λ (z : ℕ). R * 2 ^ pad / 2 ^ z % 2 ^ 66) e
      ∙ ap (λ (z : ℕ). z % 2 ^ 66) (sym (shr-shr (R * 2 ^ pad) pad (h.count * B)) ∙ ap (λ (z : ℕ). z / 2 ^ (h.count * B)) no_pad ∙ no_records)
      ∙ mod-eq_of_lt (omega (arith, proper.small, proper.few, proper.within, proper.some))

  laid_head : head_in (layout h rs) ≡ h
  laid_head = head_read (layout h rs) h proper laid_bits

  laid_record : (k : ℕ) → k < h.count → record_in (layout h rs) h k ≡ get_or rs k 0
  laid_record k l =
      let c : ℕ = h.count - 1 - k in
      let whole : h.count * B ≡ k * B + (B + c * B) = split k c (let e : h.count ≡ k + (1 + c) = omega arith in e) in
      let e : 8 * n - (66 + k * B) - B ≡ pad + c * B = omega arith in
      laid_field (66 + k * B) B (omega arith)
      ∙ ap (λ (z : ℕ). R * 2 ^ pad / 2 ^ z % 2 ^ B) e
      ∙ ap (λ (z : ℕ). z % 2 ^ B) (sym (shr-shr (R * 2 ^ pad) pad (c * B)) ∙ ap (λ (z : ℕ). z / 2 ^ (c * B)) no_pad)
      ∙ ap (λ (z : ℕ). R / 2 ^ ((z - 1 - k) * B) % 2 ^ B) (sym many)
      ∙ uniform_at B rs small H k (omega arith)
    where
      split : (k c : ℕ) → h.count ≡ k + (1 + c) → h.count * B ≡ k * B + (B + c * B)
      split k c e = ap (λ (z : ℕ). z * B) e ∙ grind arith

  laid_records : records_in (layout h rs) h ≡ rs
  laid_records = sym (fill_by_all (record_in (layout h rs) h) rs h.count 0 many (λ k l. sym (laid_record k l)))

  laid_length : length (layout h rs) ≡ n
  unfolding layout
  laid_length = length_bytes n (R * 2 ^ pad)

  laid_pad : pad_in (layout h rs) h ≡ 0
  laid_pad =
      laid_field (end_of h) pad (omega arith)
      ∙ ap (λ (z : ℕ). R * 2 ^ pad / 2 ^ z % 2 ^ pad) (let e : 8 * n - end_of h - pad ≡ 0 = omega arith in e)
      ∙ ap (λ (z : ℕ). z % 2 ^ pad) (div-one (R * 2 ^ pad)) ∙ ap (λ (z : ℕ). z % 2 ^ pad) (sym (add-zero (R * 2 ^ pad))) ∙ mod_low R pad 0 (pow_pos pad)

  no_refusal : refusal_of (layout h rs) ≡ None
  no_refusal = not_refused (layout h rs) h proper (form_read (layout h rs) h proper laid_bits) laid_head laid_length laid_pad

pub layout_is_read : LayoutIsRead
layout_is_read h rs proper many small = record {
  accepted = no_refusal h rs proper many small;
  head = laid_head h rs proper many small;
  all = laid_records h rs proper many small;
}

-- ---- bytes that are read as an image
-- what tests that come to nothing let through
pub passed : {A : Type 0} (b : Bool) (e : A) (o : Option A) → cond b (Some e) o ≡ None → (b ≡ false) × (o ≡ None)
passed true e o h = absurd (cc)
passed false e o h = (refl, h)

not_false : (b : Bool) → not b ≡ false → b ≡ true
not_false true h = refl
not_false false h = sym h

pub both_none : (a b : Option Refusal) → or_else a b ≡ None → (a ≡ None) × (b ≡ None)
both_none (Some e) b h = absurd (cc)
both_none None b h = (refl, h)

pub fits_then : (b : Bool) (e : Refusal) → cond b None (Some e) ≡ None → b ≡ true
fits_then true e h = refl
fits_then false e h = absurd (cc)

module _ (bytes : List ℕ) (accepted : refusal_of bytes ≡ None) where
  abbrev g : Head
  g = head_in bytes

  head_passed : head_refusal bytes ≡ None
  head_passed = (both_none (head_refusal bytes) (fit_refusal bytes g) accepted).0

  long_passed : (ltb (length bytes) 9 ≡ false) × (cond (not (eqb (field bytes 0 2) 0)) (Some (BadHeader Form)) (cond (not (fits_mode g.mode g.tag)) (Some (BadHeader TagLength)) (cond (eqb g.count 0) (Some (BadHeader Count)) (cond (ltb (2 ^ 30) (g.base + g.count)) (Some (BadHeader Base)) None))) ≡ None)
  long_passed = passed (ltb (length bytes) 9) _ _ head_passed

  form_passed : (not (eqb (field bytes 0 2) 0) ≡ false) × (cond (not (fits_mode g.mode g.tag)) (Some (BadHeader TagLength)) (cond (eqb g.count 0) (Some (BadHeader Count)) (cond (ltb (2 ^ 30) (g.base + g.count)) (Some (BadHeader Base)) None)) ≡ None)
  form_passed = passed (not (eqb (field bytes 0 2) 0)) _ _ long_passed.1

  tag_passed : (not (fits_mode g.mode g.tag) ≡ false) × (cond (eqb g.count 0) (Some (BadHeader Count)) (cond (ltb (2 ^ 30) (g.base + g.count)) (Some (BadHeader Base)) None) ≡ None)
  tag_passed = passed (not (fits_mode g.mode g.tag)) _ _ form_passed.1

  count_passed : (eqb g.count 0 ≡ false) × (cond (ltb (2 ^ 30) (g.base + g.count)) (Some (BadHeader Base)) None ≡ None)
  count_passed = passed (eqb g.count 0) _ _ tag_passed.1

  base_passed : ltb (2 ^ 30) (g.base + g.count) ≡ false
  base_passed = (passed (ltb (2 ^ 30) (g.base + g.count)) _ _ count_passed.1).0

  fit_passed : fits_length bytes g ≡ true
  fit_passed = fits_then (fits_length bytes g) _ (both_none (head_refusal bytes) (fit_refusal bytes g) accepted).1

  right_length : length bytes ≡ image_length g
  right_length = eqb-true _ _ (and_parts (eqb (length bytes) (image_length g)) (eqb (pad_in bytes g) 0) fit_passed).0

  zero_pad : pad_in bytes g ≡ 0
  zero_pad = eqb-true _ _ (and_parts (eqb (length bytes) (image_length g)) (eqb (pad_in bytes g) 0) fit_passed).1

  pub head_proper : Proper g
  head_proper = record {
    fits = not_false (fits_mode g.mode g.tag) tag_passed.0;
    small = field_lt bytes 8 8;
    some = positive g.count (eqb-false g.count 0 count_passed.0);
    few = field_lt bytes 46 20;
    within = ltb-false (2 ^ 30) (g.base + g.count) base_passed;
  }
    where
      positive : (c : ℕ) → (c ≡ 0 → ⊥) → 0 < c
      positive zero ne = absurd (ne refl)
      positive (suc c) ne = omega arith

  -- the header's fields are its first 66 bits
  head_bits_lem : joined (head_fields g) 0 ≡ field bytes 0 66
  head_bits_lem =
      let m : mode_number g.mode ≡ field bytes 2 1 = mode_there (field bytes 2 1) (field_lt bytes 2 1) in
      let f : field bytes 0 2 ≡ 0 = eqb-true (field bytes 0 2) 0 (not_false (eqb (field bytes 0 2) 0) form_passed.0) in
      omega (arith, m, f, field_split bytes 0 2 1, field_split bytes 0 3 5, field_split bytes 0 8 8, field_split bytes 0 16 30, field_split bytes 0 46 20)

  all_bits : joined (head_fields g ++ record_fields g (records_in bytes g)) 0 * 2 ^ (8 * image_length g - end_of g) ≡ field bytes 0 (8 * image_length g)
  all_bits =
      let pad : ℕ = 8 * image_length g - end_of g in
      let e : end_of g + pad ≡ 8 * image_length g = omega arith in
      ap (λ (z : ℕ). joined (record_fields g (records_in bytes g)) z * 2 ^ pad) (head_bits_lem ∙ ap (field bytes 0) (let q : 66 ≡ 66 + 0 * record_bits g = omega arith in q))
      ∙ ap (λ (z : ℕ). z * 2 ^ pad) (uniform_read (record_bits g) bytes 66 g.count 0 ∙ ap (λ (z : ℕ). field bytes 0 (66 + z * record_bits g)) (zero-add g.count))
      ∙ sym (add-zero (field bytes 0 (end_of g) * 2 ^ pad))
      ∙ ap (λ (z : ℕ). field bytes 0 (end_of g) * 2 ^ pad + z) (sym (ap (λ (z : ℕ). field bytes z pad) (zero-add (end_of g)) ∙ zero_pad))
      ∙ sym (field_split bytes 0 (end_of g) pad) ∙ ap (field bytes 0) e

  module _ (small : (k : ℕ) → get_or bytes k 0 < 256) where
    byte_at : (k : ℕ) → k < image_length g → get_or bytes k 0 ≡ field bytes 0 (8 * image_length g) / 2 ^ (8 * (image_length g - 1 - k)) % 256
    byte_at k l =
        sym (field-part bytes (8 * image_length g) (k * 8 + 0) 8 (omega arith)
        ∙ field_byte bytes k 0 8 (omega arith) ∙ ap (λ (z : ℕ). z % 2 ^ 8) (div-one (get_or bytes k 0)) ∙ mod-eq_of_lt (small k))
        ∙ ap (λ (z : ℕ). field bytes 0 (8 * image_length g) / 2 ^ z % 256) (let e : 8 * image_length g - (k * 8 + 0) - 8 ≡ 8 * (image_length g - 1 - k) = omega arith in e)

    only : bytes ≡ layout g (records_in bytes g)
    unfolding layout
    only =
        same_lists bytes (bytes_of (image_length g) (field bytes 0 (8 * image_length g))) (right_length ∙ sym (length_bytes (image_length g) (field bytes 0 (8 * image_length g))))
        (λ k d l.
        let w : k < image_length g = subst (λ (z : ℕ). k < z) right_length l in
        get_or_default bytes k d 0 l ∙ byte_at k w ∙ sym (byte_of_lem (image_length g) (field bytes 0 (8 * image_length g)) k w)
        ∙ get_or_default _ k 0 d (subst (λ (z : ℕ). k < z) (sym (length_bytes (image_length g) (field bytes 0 (8 * image_length g)))) w))
        ∙ ap (bytes_of (image_length g)) (sym all_bits)

pub only_layout_is_read : OnlyLayoutIsRead
only_layout_is_read bytes small accepted = (only bytes accepted small, head_proper bytes accepted)
