-- The two laws fix decryption from encryption.
use Rattle.std.proofs.Common.{◌≡◌, ℕ, zero, suc, ◌^◌, ◌<◌, Bool, true, false, cond, eqb, Some, None, Option, sym, refl, ap, ◌∙◌, subst, inl, inr, arith}
use Rattle.std.proofs.lemmas.Bool.{eqb-true, eqb-false, cases_eq}
use Rattle.cipher.specs.Word.{preimage, decrypted, Laws, LawsFixDecryption}

-- what is found is a preimage
preimage_is : (e : ℕ → ℕ) (s n j : ℕ) → preimage e s n ≡ Some j → (j < n) × (e j ≡ s)
unfolding preimage
preimage_is e s zero j h = absurd (cc)
preimage_is e s (suc n) j h = by (eqb (e n) s) refl h (preimage_is e s n j)
  where
    by : (b : Bool) → eqb (e n) s ≡ b → cond b (Some n) (preimage e s n) ≡ Some j → (preimage e s n ≡ Some j → (j < n) × (e j ≡ s)) → (j < suc n) × (e j ≡ s)
    by true q r ih = let p : n ≡ j = cc in (omega arith, subst (λ (z : ℕ). e z ≡ s) p (eqb-true (e n) s q))
    by false q r ih = (let l = (ih r).0 in omega arith, (ih r).1)

-- where there is a preimage, one is found
preimage_found : (e : ℕ → ℕ) (s n i : ℕ) → i < n → e i ≡ s → (j : ℕ) × (preimage e s n ≡ Some j)
unfolding preimage
preimage_found e s zero i l h = absurd (omega arith)
preimage_found e s (suc n) i l h = by (eqb (e n) s) refl (preimage_found e s n i)
  where
    by : (b : Bool) → eqb (e n) s ≡ b → (i < n → e i ≡ s → (j : ℕ) × (preimage e s n ≡ Some j)) → (j : ℕ) × (cond b (Some n) (preimage e s n) ≡ Some j)
    by true q ih = (n, refl)
    by false q ih =
        elim (cases_eq i n) [
          | inl p ↦ absurd (eqb-false (e n) s q (subst (λ (z : ℕ). e z ≡ s) p h))
          | inr p ↦ ih (omega (arith, p)) h
        ]

pub decrypted_is : (e : ℕ → ℕ) (s i : ℕ) → decrypted e s ≡ Some i → (i < 2 ^ 32) × (e i ≡ s)
unfolding decrypted
decrypted_is e s i h = preimage_is e s (2 ^ 32) i h

module _ (encrypt : ℕ → ℕ) (decrypt : ℕ → Option ℕ) (τ : ℕ) (laws : Laws encrypt decrypt τ) where
  -- an encryption has one instruction
  same_instruction : (i j : ℕ) → i < 2 ^ 32 → j < 2 ^ 32 → encrypt i ≡ encrypt j → i ≡ j
  same_instruction i j hi hj e =
      let p : decrypt (encrypt i) ≡ Some i = laws.first i hi in
      let q : decrypt (encrypt j) ≡ Some j = laws.first j hj in
      cc

  pub decrypted_of : (s i : ℕ) → i < 2 ^ 32 → encrypt i ≡ s → decrypted encrypt s ≡ Some i
  unfolding decrypted
  decrypted_of s i h e =
      let f = preimage_found encrypt s (2 ^ 32) i h e in
      let g = preimage_is encrypt s (2 ^ 32) f.0 f.1 in
      f.1 ∙ ap Some (same_instruction f.0 i g.0 h (g.1 ∙ sym e))

  fixed_at : (s : ℕ) → s < 2 ^ 64 → (o : Option ℕ) → decrypt s ≡ o → (p : Option ℕ) → decrypted encrypt s ≡ p → o ≡ p
  fixed_at s h (Some i) q p r = let t = laws.second s i h q in sym (decrypted_of s i t.0 (sym t.1)) ∙ r
  fixed_at s h None q None r = refl
  fixed_at s h None q (Some j) r =
      let t = decrypted_is encrypt s j r in
      let u : decrypt (encrypt j) ≡ Some j = laws.first j t.0 in
      let e : encrypt j ≡ s = t.1 in
      absurd (cc)

pub laws_fix_decryption : LawsFixDecryption
laws_fix_decryption encrypt decrypt τ laws s h = fixed_at encrypt decrypt τ laws s h (decrypt s) refl (decrypted encrypt s) refl

-- so the laws hold of `decrypted` too
pub laws_derived : (encrypt : ℕ → ℕ) (decrypt : ℕ → Option ℕ) (τ : ℕ) → Laws encrypt decrypt τ → Laws encrypt (decrypted encrypt) τ
laws_derived encrypt decrypt τ laws = record {
  small = laws.small;
  first = λ i h. decrypted_of encrypt decrypt τ laws (encrypt i) i h refl;
  second = λ s i _ e. let d = decrypted_is encrypt s i e in (d.0, sym d.1);
}

-- what a test of a stored number lets through
pub let_through : (b : Bool) (d i : ℕ) → cond b (Some d) None ≡ Some i → (b ≡ true) × (d ≡ i)
let_through true d i e = (refl, (cc))
let_through false d i e = absurd (cc)
