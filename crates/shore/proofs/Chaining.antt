-- What the calls that the list call makes come to.
use Rattle.std.proofs.Common.{◌≡◌, ℕ, ◌+◌, ◌-◌, ◌*◌, ◌^◌, ◌<◌, List, length, get_or, take, None, sym, refl, ap, ◌∙◌, subst, inl, inr, zero-add, arith}
use Rattle.std.proofs.lemmas.List.{get_or-take, get_or_past, length-take}
use Rattle.std.proofs.lemmas.Bool.{cases_lt}
use Rattle.bits.specs.Field.{Written}
use Rattle.cipher.specs.Word.{Lawful}
use Rattle.image.specs.Layout.{Head, record_bits, end_of, image_length}
use Rattle.shore.specs.declared.draft.ClosedDraft.{ClosedDraft}
use Rattle.shore.specs.Drafting.{KeyedCipher, head_for, open_refusal, Tells}
use Rattle.shore.specs.Making.{Made, image_of, Chain, KeptPast}
use Rattle.shore.proofs.Making.{Filled, filled_by, made_is_image}

-- bytes below 256 are so at the start
taken_small : (n : ℕ) (xs : List ℕ) → ((k : ℕ) → get_or xs k 0 < 256) → (k : ℕ) → get_or (take n xs) k 0 < 256
taken_small n xs small k =
    elim (cases_lt k n) [
      | inl l ↦ subst (λ (z : ℕ). z < 256) (sym (get_or-take n xs k 0 l)) (small k)
      | inr l ↦ subst (λ (z : ℕ). z < 256) (sym (get_or_past (take n xs) k 0 (omega (arith, length-take n xs)))) (omega arith)
    ]

module _ (c : KeyedCipher) (v b : ℕ) (is before after : List ℕ) (closed : ClosedDraft) (chain : Chain c v b is before after closed) where
  abbrev h : Head
  h = head_for c v b (length is)

  filled : Filled c h 0 is chain.headed chain.written chain.filled
  filled = filled_by c h is 0 chain.opened chain.headed chain.filled chain.written chain.opens.head chain.opens.none chain.puts

  pub chain_tells : (open_refusal c v b (length is) before ≡ None) × Tells h closed
  chain_tells = (chain.opens.accepted, subst (λ (g : Head). Tells g closed) filled.head chain.closes.told)

  pub chain_made : ((k : ℕ) → k < length is → get_or is k 0 < 2 ^ 32) → Made c v b is (take closed.length after)
  chain_made words = record {
    count = length is;
    first = before;
    headed = chain.headed;
    written = chain.written;
    last = after;
    opened = chain.opened;
    filled = chain.filled;
    closed = closed;
    opens = chain.opens;
    puts = chain.puts;
    closes = chain.closes;
    is = refl;
    words = words;
  }

  pub chain_image : Lawful c.rule c.mode c.tag → c.key < 2 ^ 128 → ((k : ℕ) → k < length is → get_or is k 0 < 2 ^ 32)
      → ((k : ℕ) → get_or after k 0 < 256) → take closed.length after ≡ image_of c v b is
  chain_image lawful keyed words small =
      made_is_image c v b is (take closed.length after) lawful keyed (chain_made words) (taken_small closed.length after small)

  closing : Written chain.written after (end_of h) (8 * image_length h - end_of h) 0
  closing = subst (λ (g : Head). Written chain.written after (end_of g) (8 * image_length g - end_of g) 0) filled.head chain.closes.written

  pub chain_keeps : KeptPast closed.length before after
  chain_keeps = (
    closing.long ∙ filled.long ∙ chain.opens.written.long,
    λ j l.
        let e : closed.length ≡ image_length h = chain_tells.1.length in
        let z : (0 + length is) * record_bits h ≡ length is * record_bits h = ap (λ (q : ℕ). q * record_bits h) (zero-add (length is)) in
        closing.outside j (inr (omega arith)) ∙ filled.outside j (inr (omega arith)) ∙ chain.opens.written.outside j (inr (omega arith)),
  )
