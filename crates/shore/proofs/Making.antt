-- What an image that was made says, and that it is the layout of the encryptions.
use Rattle.std.proofs.Common.{◌≡◌, ℕ, zero, suc, ◌+◌, ◌-◌, ◌*◌, ◌/◌, ◌%◌, ◌^◌, ◌<◌, ◌≤◌, true, ltb, leb, ◌⊎◌, List, [], ◌∷◌, length, get_or, take, None, sym, ap, ◌∙◌, subst, inl, inr, ⊎_elim, mod-eq_of_lt, add-mul, zero-add, arith}
use native.Mathlib.Nat.{zero-mod}
use Rattle.std.proofs.lemmas.Nat.{mul-le}
use Rattle.std.proofs.lemmas.List.FromFn.{fill_by_all, length-map-range_with_len, get_or-map-range_with_len}
use Rattle.std.proofs.lemmas.List.{get_or-take, length-take-le}
use Rattle.std.proofs.lemmas.Bool.{ltb-false, leb-false}
use Rattle.bits.specs.Field.{bit_in, field, Written}
use Rattle.bits.proofs.Fields.{field_same, reads_back}
use Rattle.cipher.specs.Word.{Lawful, fits_mode, tweak_of}
use Rattle.image.specs.Laws.{Proper}
use Rattle.image.specs.Layout.{Head, head_fields, record_bits, joined, end_of, image_length, layout}
use Rattle.image.specs.Reading.{head_in, record_in, records_in, pad_in, refusal_of}
use Rattle.image.proofs.Laying.{tag_most, mode_lt, passed, form_read, head_read, not_refused, only_layout_is_read}
use Rattle.shore.specs.declared.draft.Draft.{Draft}
use Rattle.shore.specs.Drafting.{KeyedCipher, encryption, head_for, draft_head, foreign, short_refusal, put_refusal, Advanced}
use Rattle.shore.specs.Making.{PutAll, Made, MadeIsImage, encryptions, image_of}
use Rattle.shore.proofs.Writing.{header_proper}

-- ---- the first bytes of a buffer
bit_taken : (n : ℕ) (xs : List ℕ) (j : ℕ) → j < 8 * n → bit_in (take n xs) j ≡ bit_in xs j
unfolding bit_in
bit_taken n xs j l = ap (λ (z : ℕ). z / 2 ^ (7 - j % 8) % 2) (get_or-take n xs (j / 8) 0 (omega arith))

field_taken : (n : ℕ) (xs : List ℕ) (o w : ℕ) → o + w ≤ 8 * n → field (take n xs) o w ≡ field xs o w
field_taken n xs o w l = field_same (take n xs) xs o w (λ j a b. bit_taken n xs j (omega arith))

-- ---- what a row of checks that came to nothing let through
long_let : (h : Head) (buffer : List ℕ) → short_refusal h buffer ≡ None → image_length h ≤ length buffer
long_let h buffer e = ltb-false (length buffer) (image_length h) (passed (ltb (length buffer) (image_length h)) _ _ e).0

room_let : (c : KeyedCipher) (d : Draft) (buffer : List ℕ) → put_refusal c d buffer ≡ None → d.put < (draft_head d).count
room_let c d buffer e = leb-false (draft_head d).count d.put (passed (leb (draft_head d).count d.put) _ _ e).0

put_let : (c : KeyedCipher) (d : Draft) (buffer : List ℕ) → put_refusal c d buffer ≡ None → image_length (draft_head d) ≤ length buffer
put_let c d buffer e =
    long_let (draft_head d) buffer (passed (foreign c (draft_head d)) _ _ (passed (leb (draft_head d).count d.put) _ _ e).1).1

-- ---- what a chain of puts leaves: so many words more, their records one behind the other, all other bits as they were
pub record Filled (c : KeyedCipher) (h : Head) (p : ℕ) (is before after : List ℕ) (e : Draft) : Type 0 where
  pub head : draft_head e ≡ h
  pub put : e.put ≡ p + length is
  pub long : length after ≡ length before
  pub records : (k : ℕ) → k < length is → field after (66 + (p + k) * record_bits h) (record_bits h) ≡ encryption c h.version (h.base + (p + k)) (get_or is k 0) % 2 ^ record_bits h
  pub outside : (j : ℕ) → (j < 66 + p * record_bits h) ⊎ (66 + (p + length is) * record_bits h ≤ j) → bit_in after j ≡ bit_in before j

-- one put first
module _ (c : KeyedCipher) (h : Head) (p i : ℕ) (is before mid after : List ℕ) (e : Draft)
    (few : p < h.count) (room : image_length h ≤ length before)
    (step : Written before mid (66 + p * record_bits h) (record_bits h) (encryption c h.version (h.base + p) i))
    (rest : Filled c h (p + 1) is mid after e) where
  abbrev width : ℕ
  width = record_bits h

  more : (p + 1) * width ≡ p * width + width
  more = add-mul p 1 width ∙ ap (λ (z : ℕ). p * width + z) (let q : 1 * width ≡ width = omega arith in q)

  place : (k : ℕ) → p + 1 + k ≡ p + suc k
  place k = omega arith

  fits : 66 + p * width + width ≤ length before * 8
  fits = let l : (p + 1) * width ≤ h.count * width = mul-le (p + 1) width h.count width (omega arith) (omega arith) in let m = more in omega arith

  first_record : field after (66 + (p + 0) * width) width ≡ encryption c h.version (h.base + (p + 0)) i % 2 ^ width
  first_record =
      let z : p + 0 ≡ p = omega arith in
      ap (λ (q : ℕ). field after (66 + q * width) width) z
      ∙ field_same after mid (66 + p * width) width (λ j a b. rest.outside j (inl (let m = more in omega arith)))
      ∙ reads_back before mid (66 + p * width) width (encryption c h.version (h.base + p) i) step fits
      ∙ ap (λ (q : ℕ). encryption c h.version (h.base + q) i % 2 ^ width) (sym z)

  each_record : (k : ℕ) → k < suc (length is) → field after (66 + (p + k) * width) width ≡ encryption c h.version (h.base + (p + k)) (get_or (i ∷ is) k 0) % 2 ^ width
  each_record zero l = first_record
  each_record (suc k) l =
      ap (λ (q : ℕ). field after (66 + q * width) width) (sym (place k)) ∙ rest.records k (omega arith)
      ∙ ap (λ (q : ℕ). encryption c h.version (h.base + q) (get_or is k 0) % 2 ^ width) (place k)

  past : (j : ℕ) → 66 + (p + suc (length is)) * width ≤ j → bit_in after j ≡ bit_in before j
  past j l =
      let g : 66 + (p + 1 + length is) * width ≤ j = subst (λ (q : ℕ). 66 + q * width ≤ j) (sym (place (length is))) l in
      let a : (p + 1 + length is) * width ≡ (p + 1) * width + length is * width = add-mul (p + 1) (length is) width in
      let m = more in
      rest.outside j (inr g) ∙ step.outside j (inr (omega arith))

  pub filled_more : Filled c h p (i ∷ is) before after e
  filled_more = record {
    head = rest.head;
    put = rest.put ∙ place (length is);
    long = rest.long ∙ step.long;
    records = each_record;
    outside = λ j out. ⊎_elim (λ l. let m = more in rest.outside j (inl (omega arith)) ∙ step.outside j (inl l)) (past j) out;
  }

pub filled_by : (c : KeyedCipher) (h : Head) (is : List ℕ) (p : ℕ) (d : Draft) (before : List ℕ) (e : Draft) (after : List ℕ)
    → draft_head d ≡ h → d.put ≡ p → PutAll c d before is e after → Filled c h p is before after e
filled_by c h [] p d before e after head put all = record {
  head = ap draft_head all.0 ∙ head;
  put = ap (λ (x : Draft). x.put) all.0 ∙ put ∙ (let q : p ≡ p + 0 = omega arith in q);
  long = ap length all.1;
  records = λ k l. absurd (omega arith);
  outside = λ j _. ap (λ (xs : List ℕ). bit_in xs j) all.1;
}
filled_by c h (i ∷ is) p d before e after head put all =
    let next : Draft = all.0 in
    let mid : List ℕ = all.1.0 in
    let step : Advanced c d i before mid next = all.1.1.0 in
    let few : p < h.count = subst (λ (g : Head). p < g.count) head (subst (λ (q : ℕ). q < (draft_head d).count) put (room_let c d before step.accepted)) in
    let room : image_length h ≤ length before = subst (λ (g : Head). image_length g ≤ length before) head (put_let c d before step.accepted) in
    let written : Written before mid (66 + p * record_bits h) (record_bits h) (encryption c h.version (h.base + p) i) =
    subst (λ (g : Head). Written before mid (66 + p * record_bits g) (record_bits g) (encryption c g.version (g.base + p) i)) head
    (subst (λ (q : ℕ). Written before mid (66 + q * record_bits (draft_head d)) (record_bits (draft_head d)) (encryption c (draft_head d).version ((draft_head d).base + q) i)) put step.written) in
    filled_more c h p i is before mid after e few room written
    (filled_by c h is (p + 1) next mid e after (step.head ∙ head) (step.more ∙ ap (λ (q : ℕ). q + 1) put) all.1.1.1)

-- ---- an image that was made
module _ (c : KeyedCipher) (v b : ℕ) (is image : List ℕ) (made : Made c v b is image) where
  abbrev h : Head
  h = head_for c v b (length is)

  chain : Filled c (head_for c v b made.count) 0 is made.headed made.written made.filled
  chain = filled_by c (head_for c v b made.count) is 0 made.opened made.headed made.filled made.written made.opens.head made.opens.none made.puts

  -- as many were put as were announced
  count_is : made.count ≡ length is
  count_is =
      let f : Draft = made.filled in
      let most : f.put ≤ (draft_head f).count = f.few in
      let least : (draft_head f).count ≤ f.put = ltb-false f.put (draft_head f).count (passed (ltb f.put (draft_head f).count) _ _ made.closes.accepted).0 in
      let said : (draft_head f).count ≡ made.count = ap (λ (g : Head). g.count) chain.head in
      let put : f.put ≡ 0 + length is = chain.put in
      omega arith

  head_is : head_for c v b made.count ≡ h
  head_is = ap (head_for c v b) count_is

  filled : Filled c h 0 is made.headed made.written made.filled
  filled = subst (λ (g : Head). Filled c g 0 is made.headed made.written made.filled) head_is chain

  pub proper : Proper h
  proper = subst Proper (made.opens.head ∙ head_is) (header_proper made.opened.header)

  abbrev B : ℕ
  B = record_bits h

  abbrev n : ℕ
  n = image_length h

  abbrev H : ℕ
  H = joined (head_fields h) 0

  opening : Written made.first made.headed 0 66 H
  opening = subst (λ (g : Head). Written made.first made.headed 0 66 (joined (head_fields g) 0)) head_is made.opens.written

  closing : Written made.written made.last (end_of h) (8 * n - end_of h) 0
  closing = subst (λ (g : Head). Written made.written made.last (end_of g) (8 * image_length g - end_of g) 0) filled.head made.closes.written

  length_is : made.closed.length ≡ n
  length_is = made.closes.told.length ∙ ap image_length filled.head

  room : n ≤ length made.last
  room =
      let l : image_length (draft_head made.filled) ≤ length made.written =
      long_let (draft_head made.filled) made.written (passed (ltb made.filled.put (draft_head made.filled).count) _ _ made.closes.accepted).1 in
      let e : image_length (draft_head made.filled) ≡ n = ap image_length filled.head in
      let f : length made.last ≡ length made.written = closing.long in
      omega arith

  image_is : image ≡ take n made.last
  image_is = made.is ∙ ap (λ (z : ℕ). take z made.last) length_is

  image_length_lem : length image ≡ n
  image_length_lem = ap length image_is ∙ length-take-le n made.last room

  -- a field of the image is one of the last buffer
  image_field : (o w : ℕ) → o + w ≤ 8 * n → field image o w ≡ field made.last o w
  image_field o w l = ap (λ (xs : List ℕ). field xs o w) image_is ∙ field_taken n made.last o w l

  -- the header's bits
  last_head : field made.last 0 66 ≡ field made.headed 0 66
  last_head =
      field_same made.last made.headed 0 66
      (λ j _ l. closing.outside j (inl (omega arith)) ∙ filled.outside j (inl (omega arith)))

  head_bits_lem : field image 0 66 ≡ H
  head_bits_lem =
      let m = mode_lt h.mode in
      let t : h.tag ≤ 16 = tag_most h.mode h.tag proper.fits in
      let a : length made.written ≡ length made.headed = filled.long in
      let z : length made.headed ≡ length made.first = opening.long in
      let f : length made.last ≡ length made.written = closing.long in
      let r = room in
      image_field 0 66 (omega arith) ∙ last_head
      ∙ reads_back made.first made.headed 0 66 H opening (omega arith)
      ∙ mod-eq_of_lt (omega (arith, proper.small, proper.few, proper.within, proper.some))

  pub head_there : head_in image ≡ h
  head_there = head_read image h proper head_bits_lem

  -- a record's bits
  pub record_there : (k : ℕ) → k < length is → record_in image h k ≡ encryption c v (b + k) (get_or is k 0) % 2 ^ B
  record_there k l =
      let z : 0 + k ≡ k = zero-add k in
      let m : (k + 1) * B ≡ k * B + B = add-mul k 1 B ∙ ap (λ (q : ℕ). k * B + q) (let q : 1 * B ≡ B = omega arith in q) in
      let w : (k + 1) * B ≤ length is * B = mul-le (k + 1) B (length is) B (omega arith) (omega arith) in
      image_field (66 + k * B) B (omega arith)
      ∙ field_same made.last made.written (66 + k * B) B (λ j _ u. closing.outside j (inl (omega arith)))
      ∙ ap (λ (q : ℕ). field made.written (66 + q * B) B) (sym z)
      ∙ filled.records k l
      ∙ ap (λ (q : ℕ). encryption c v (b + q) (get_or is k 0) % 2 ^ B) z

  pad_there : pad_in image h ≡ 0
  pad_there =
      let f : length made.last ≡ length made.written = closing.long in
      let r = room in
      image_field (end_of h) (8 * n - end_of h) (omega arith)
      ∙ reads_back made.written made.last (end_of h) (8 * n - end_of h) 0 closing (omega arith)
      ∙ zero-mod (2 ^ (8 * n - end_of h))

  accepted : refusal_of image ≡ None
  accepted = not_refused image h proper (form_read image h proper head_bits_lem) head_there image_length_lem pad_there

  -- under a lawful cipher a record is the whole encryption
  module _ (lawful : Lawful c.rule c.mode c.tag) (keyed : c.key < 2 ^ 128) where
    whole : (k : ℕ) → k < length is → record_in image h k ≡ encryption c v (b + k) (get_or is k 0)
    whole k l =
        record_there k l
        ∙ mod-eq_of_lt ((lawful c.key (tweak_of v (4 * (b + k))) keyed (omega (arith, proper.small, proper.within))).small (get_or is k 0) (made.words k l))

    pub record_is : (k : ℕ) → k < length is → record_in image (head_in image) k ≡ encryption c v (b + k) (get_or is k 0)
    record_is k l = ap (λ (g : Head). record_in image g k) head_there ∙ whole k l

    records_are : records_in image h ≡ encryptions c v b is
    records_are =
        fill_by_all (λ (k : ℕ). encryption c v (b + k) (get_or is k 0)) (records_in image h) (length is) 0
        (length-map-range_with_len (record_in image h) 0 (length is))
        (λ k l. get_or-map-range_with_len (record_in image h) 0 (length is) k k 0 l (zero-add k) ∙ whole k l)

    pub is_layout : ((k : ℕ) → get_or image k 0 < 256) → image ≡ image_of c v b is
    is_layout small =
        (only_layout_is_read image small accepted).0
        ∙ ap (λ (g : Head). layout g (records_in image g)) head_there ∙ ap (layout h) records_are

pub made_head : (c : KeyedCipher) (v b : ℕ) (is image : List ℕ) → fits_mode c.mode c.tag ≡ true → Made c v b is image
    → head_in image ≡ record { mode = c.mode; tag = c.tag; version = v; base = b; count = length is }
made_head c v b is image _ made = head_there c v b is image made

pub made_record : (c : KeyedCipher) (v b : ℕ) (is image : List ℕ) → fits_mode c.mode c.tag ≡ true → Lawful c.rule c.mode c.tag → c.key < 2 ^ 128 → Made c v b is image
    → (k : ℕ) → k < length is
    → record_in image (head_in image) k ≡ c.rule c.key c.mode c.tag (tweak_of v (4 * (b + k))) (get_or is k 0)
made_record c v b is image _ lawful keyed made = record_is c v b is image made lawful keyed

pub made_words : (c : KeyedCipher) (v b : ℕ) (is image : List ℕ) → Made c v b is image → (k : ℕ) → k < length is → get_or is k 0 < 2 ^ 32
made_words c v b is image made = made.words

pub made_is_image : MadeIsImage
made_is_image c v b is image lawful keyed made = is_layout c v b is image made lawful keyed
