-- Records written into slots one by one.
use Rattle.std.proofs.Common.{◌≡◌, ℕ, ◌+◌, ◌-◌, ◌*◌, ◌^◌, ◌<◌, ◌≤◌, true, List, ◌∷◌, ◌++◌, length, get_or, take, drop, set, sym, ap, ◌∙◌, arith, pow_mono, lt-ltb}
use Rattle.std.proofs.lemmas.List.FromFn.{length-map-range_with_len, get_or-map-range_with_len}
use Rattle.std.proofs.lemmas.List.{set-append_right, drop_more, take_more, append_assoc, length-append, length-take-le, length-drop, take_all}
use Rattle.bits.proofs.Fields.{field_lt}
use Rattle.cipher.specs.Word.{fits_mode}
use Rattle.memory.specs.Slots.{wide, after_write}
use Rattle.image.specs.Layout.{Head, head_bits, record_bits}
use Rattle.image.specs.Reading.{record_in, records_in}
use Rattle.image.proofs.Laying.{tag_most}

module _ (bytes : List ℕ) (h : Head) where
  pub length_records : length (records_in bytes h) ≡ h.count
  length_records = length-map-range_with_len (record_in bytes h) 0 h.count

  pub record_at_lem : (k : ℕ) → k < h.count → get_or (records_in bytes h) k 0 ≡ record_in bytes h k
  record_at_lem k l = get_or-map-range_with_len (record_in bytes h) 0 h.count k k 0 l (omega arith)

  pub record_narrow : (k : ℕ) → fits_mode h.mode h.tag ≡ true → record_in bytes h k < wide
  record_narrow k fits =
      let l : record_in bytes h k < 2 ^ record_bits h = field_lt bytes (head_bits + k * record_bits h) (record_bits h) in
      let n : record_bits h ≤ 48 = omega (arith, tag_most h.mode h.tag fits) in
      let p : 2 ^ record_bits h ≤ 2 ^ 48 = pow_mono n in
      omega arith

-- the next of the numbers rs is written over the slots
pub one_more : (rs held₀ held : List ℕ) (i : ℕ) → i < length rs → length rs ≤ length held₀ → get_or rs i 0 < wide
    → held ≡ take i rs ++ drop i held₀ → after_write held i (get_or rs i 0) ≡ take (i + 1) rs ++ drop (i + 1) held₀
one_more rs held₀ held i l n s e =
    let x = get_or rs i 0 in
    let lt : length (take i rs) ≡ i = length-take-le i rs (omega arith) in
    let lh : i < length held = rw (e, length-append, lt, length-drop) (omega arith) in
    let a : after_write held i x ≡ set held i x = rw (lt-ltb i (length held) lh, lt-ltb x wide s) in
    let b : set held i x ≡ take i rs ++ set (drop i held₀) (i - i) x = ap (λ (z : List ℕ). set z i x) e ∙ set-append_right (take i rs) (drop i held₀) i i x lt (omega arith) in
    let z : i - i ≡ 0 = omega arith in
    let d : set (drop i held₀) (i - i) x ≡ x ∷ drop (i + 1) held₀ = rw (z, drop_more held₀ i 0 (omega arith)) in
    let t : take (i + 1) rs ++ drop (i + 1) held₀ ≡ take i rs ++ (x ∷ drop (i + 1) held₀) = rw (take_more rs i 0 l, append_assoc) in
    a ∙ b ∙ ap (λ (z : List ℕ). take i rs ++ z) d ∙ sym t

-- record i of an image is written
pub record_written : (bytes : List ℕ) (h : Head) (held₀ held : List ℕ) (i : ℕ) → fits_mode h.mode h.tag ≡ true → i < h.count → h.count ≤ length held₀
    → held ≡ take i (records_in bytes h) ++ drop i held₀
    → after_write held i (record_in bytes h i) ≡ take (i + 1) (records_in bytes h) ++ drop (i + 1) held₀
record_written bytes h held₀ held i fits l n e =
    let c = length_records bytes h in
    let r = record_at_lem bytes h i l in
    ap (after_write held i) (sym r)
    ∙ one_more (records_in bytes h) held₀ held i (omega arith) (omega arith) (let b = record_narrow bytes h i fits in omega arith) e

-- and all are
pub all_written : (bytes : List ℕ) (h : Head) (held₀ held : List ℕ) (i : ℕ) → i ≡ h.count
    → held ≡ take i (records_in bytes h) ++ drop i held₀ → held ≡ records_in bytes h ++ drop h.count held₀
all_written bytes h held₀ held i l e =
    e ∙ ap (λ (z : List ℕ). z ++ drop i held₀) (take_all i (records_in bytes h) (let c = length_records bytes h in omega arith))
    ∙ ap (λ (n : ℕ). records_in bytes h ++ drop n held₀) l
