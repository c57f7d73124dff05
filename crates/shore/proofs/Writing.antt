-- Fields that are written one behind the other.
use Rattle.std.proofs.Common.{◌≡◌, ℕ, ◌+◌, ◌-◌, ◌*◌, ◌/◌, ◌%◌, ◌^◌, ◌<◌, ◌≤◌, List, length, sym, ap, ◌∙◌, subst, inl, inr, ⊎_elim, mod-eq_of_lt, arith}
use Rattle.std.proofs.lemmas.Nat.{shr-shr, shr_high, mod_low}
use Rattle.std.proofs.lemmas.Bool.{cases_lt}
use Rattle.bits.specs.Field.{bit_in, Written}
use Rattle.bits.proofs.Fields.{below_same}
use Rattle.cipher.specs.Word.{mode_number}
use Rattle.image.specs.declared.header.Header.{Header}
use Rattle.image.specs.Laws.{Proper}
use Rattle.image.specs.Layout.{Head, head_fields, head_bits, joined}
use Rattle.image.specs.Reading.{head_of}
use Rattle.image.proofs.Laying.{tag_most, mode_lt}

-- two fields, the second right behind the first, are one
pub written_both : (xs ys zs : List ℕ) (o w u v x : ℕ) → x < 2 ^ u
    → Written xs ys o w v → Written ys zs (o + w) u x → Written xs zs o (w + u) (v * 2 ^ u + x)
written_both xs ys zs o w u v x small one two = record {
  long = two.long ∙ one.long;
  inside = λ j a b l. elim (cases_lt j (o + w)) [ inl k ↦ high j a k l | inr k ↦ low j k b l ];
  outside = λ j out.
      two.outside j (⊎_elim (λ k. inl (omega arith)) (λ k. inr (omega arith)) out)
      ∙ one.outside j (⊎_elim (λ k. inl (omega arith)) (λ k. inr (omega arith)) out);
}
  where
    high : (j : ℕ) → o ≤ j → j < o + w → j / 8 < length xs → bit_in zs j ≡ (v * 2 ^ u + x) / 2 ^ (o + (w + u) - 1 - j) % 2
    high j a k l =
        two.outside j (inl k) ∙ one.inside j a k l
        ∙ ap (λ (z : ℕ). z / 2 ^ (o + w - 1 - j) % 2) (sym (shr_high v u x small))
        ∙ ap (λ (z : ℕ). z % 2) (shr-shr (v * 2 ^ u + x) u (o + w - 1 - j))
        ∙ ap (λ (z : ℕ). (v * 2 ^ u + x) / 2 ^ z % 2) (let e : u + (o + w - 1 - j) ≡ o + (w + u) - 1 - j = omega arith in e)

    low : (j : ℕ) → o + w ≤ j → j < o + (w + u) → j / 8 < length xs → bit_in zs j ≡ (v * 2 ^ u + x) / 2 ^ (o + (w + u) - 1 - j) % 2
    low j k b l =
        two.inside j k (omega arith) (let e : length ys ≡ length xs = one.long in omega arith)
        ∙ ap (λ (z : ℕ). x / 2 ^ z % 2) (let e : o + w + u - 1 - j ≡ o + (w + u) - 1 - j = omega arith in e)
        ∙ sym (below_same (v * 2 ^ u + x) x u (o + (w + u) - 1 - j) (omega arith) (mod_low v u x small ∙ sym (mod-eq_of_lt small)))

-- the same number, written otherwise
pub written_as : (xs ys : List ℕ) (o w v x : ℕ) → v ≡ x → Written xs ys o w v → Written xs ys o w x
written_as xs ys o w v x e = subst (λ (z : ℕ). Written xs ys o w z) e

-- the six fields of a header are its 66 bits
module _ (h : Head) (proper : Proper h) where
  mode_small : mode_number h.mode < 2 ^ 1
  mode_small = mode_lt h.mode

  tag_small : h.tag < 2 ^ 5
  tag_small = omega (arith, tag_most h.mode h.tag proper.fits)

  base_small : h.base < 2 ^ 30
  base_small = omega (arith, proper.within, proper.some)

  pub head_written : (a b c d e f g : List ℕ)
      → Written a b 0 2 0 → Written b c 2 1 (mode_number h.mode) → Written c d 3 5 h.tag → Written d e 8 8 h.version
      → Written e f 16 30 h.base → Written f g 46 20 h.count → Written a g 0 head_bits (joined (head_fields h) 0)
  head_written a b c d e f g form mode tag version base count =
      written_both a f g 0 46 20 _ h.count proper.few
      (written_both a e f 0 16 30 _ h.base base_small
      (written_both a d e 0 8 8 _ h.version proper.small
      (written_both a c d 0 3 5 _ h.tag tag_small
      (written_both a b c 0 2 1 0 (mode_number h.mode) mode_small form mode) tag) version) base) count

-- a header is proper by its type
pub header_proper : (h : Header) → Proper (head_of h)
header_proper h = record { fits = h.fits; small = h.small; some = h.some; few = h.few; within = h.within }
