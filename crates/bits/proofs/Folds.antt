-- A fold over a range, read as a loop that counts up: P holds of the number of turns and of what has come of them.
use Rattle.std.proofs.Common.{◌≡◌, ℕ, Bool, false, eqb, zero-add, inl, inr, zero, suc, ◌+◌, ◌-◌, ◌<◌, ◌≤◌, List, [], ◌∷◌, ◌++◌, length, sym, refl, ap, ◌∙◌, subst, add-zero, arith, length-append}
use Rattle.std.specs.Fn.{Called}
use Rattle.std.specs.Iterator.{FoldsItems}
use Rattle.std.specs.List.{range_with_len}
use Rattle.std.specs.declared.ops.Range.{Range}
use Rattle.std.proofs.iter.Yields.{nat_range_steps}
use Rattle.std.proofs.lemmas.Fn.{fold_over}
use Rattle.std.proofs.lemmas.Iterator.{YieldsList-from_range}
use Rattle.std.proofs.lemmas.List.{same_from_push}
use Rattle.std.proofs.lemmas.Nat.Bits.{bit_at-zero}
use Rattle.std.proofs.lemmas.Bool.{cases_eq}
use Rattle.bits.specs.Number.{bit, number, SetsBit}
use Rattle.bits.proofs.Numbers.{number_from_bits}
use denote.Param.Members.{Mut}

range_more : (a k : ℕ) → range_with_len a (suc k) ≡ range_with_len a k ++ (a + k) ∷ []
range_more a zero = ap (λ (z : ℕ). z ∷ []) (sym (add-zero a))
range_more a (suc k) =
    ap (λ (xs : List ℕ). a ∷ xs) (range_more (a + 1) k)
    ∙ ap (λ (z : ℕ). a ∷ (range_with_len (a + 1) k ++ z ∷ [])) (let e : a + 1 + k ≡ a + suc k = omega arith in e)

module _ {F C : Type 0} (g : Mut F (C × (ℕ × Unit {0})) C) (f : F) (P : ℕ → C → Type 0) (a n : ℕ)
    (keeps : (c : C) (x : ℕ) (d : C) (f' : F) → Called g f (c, (x, tt)) d f' → f' ≡ f)
    (step : (k : ℕ) (c d : C) (f' : F) → k < n → P k c → Called g f (c, (a + k, tt)) d f' → P (suc k) d) where
  so_far : List ℕ → C → Type 0
  so_far xs c = (k : ℕ) → k ≤ n → xs ≡ range_with_len a k → P k c

  turn : (xs : List ℕ) (c : C) (x : ℕ) (d : C) (f' : F) → so_far xs c → Called g f (c, (x, tt)) d f' → (k : ℕ) → k ≤ n → xs ++ x ∷ [] ≡ range_with_len a k → P k d
  unfolding so_far
  turn xs c x d f' so called zero l e = absurd (omega (arith, ap (length {A = ℕ}) e, length-append xs (x ∷ [])))
  turn xs c x d f' so called (suc k) l e =
      let s = same_from_push xs (range_with_len a k) x (a + k) (e ∙ range_more a k) in
      step k c d f' (omega arith) (so k (omega arith) s.0) (subst (λ (z : ℕ). Called g f (c, (z, tt)) d f') s.1 called)

  none : (c : C) → P 0 c → (k : ℕ) → k ≤ n → [] ≡ range_with_len a k → P k c
  none c p zero l e = p
  none c p (suc k) l e = absurd (omega (arith, ap (length {A = ℕ}) e))

  pub fold_range : {s : Range ℕ} (b : ℕ) (init r : C) → s ≡ record { start = a; end = b } → b - a ≡ n → P 0 init → FoldsItems nat_range_steps g s f init r → P n r
  unfolding so_far
  fold_range {s = s} b init r e long start ran =
      fold_over nat_range_steps (λ x. x) g so_far f (λ xs c x d f' so called. (turn xs c x d f' so called, keeps c x d f' called))
      s (range_with_len a n) init r (YieldsList-from_range a b n e long).runs (none init start) ran n (omega arith) refl

-- a number made of bits, each set at its place, where none was set before
module _ {F : Type 0} (g : Mut F (ℕ × (ℕ × Unit {0})) ℕ) (f : F) (n : ℕ) (bits : ℕ → Bool) (room : n ≤ 128)
    (keeps : (r i s : ℕ) (f' : F) → Called g f (r, (i, tt)) s f' → f' ≡ f)
    (sets : (r i s : ℕ) (f' : F) → i < n → bit r i ≡ false → Called g f (r, (i, tt)) s f' → SetsBit r s i (bits i)) where
  -- the bits below k are set
  abbrev Below : ℕ → ℕ → Type 0
  Below k r = ((j : ℕ) → j < k → bit r j ≡ bits j) × ((j : ℕ) → k ≤ j → bit r j ≡ false)

  one_more_bit : (k r s : ℕ) (f' : F) → k < n → Below k r → Called g f (r, (0 + k, tt)) s f' → Below (suc k) s
  one_more_bit k r s f' l b called =
      let t = sets r k s f' l (b.1 k (omega arith)) (subst (λ (z : ℕ). Called g f (r, (z, tt)) s f') (zero-add k) called) in (
        λ j u. elim (cases_eq j k) [
          | inl e ↦ ap (bit s) e ∙ t.same (omega arith) ∙ ap bits (sym e)
          | inr e ↦ t.others j e ∙ b.0 j (omega (arith, e))
        ],
        λ j u. t.others j (omega arith) ∙ b.1 j (omega arith),
      )

  pub number_from_fold : {s : Range ℕ} (r : ℕ) → s ≡ record { start = 0; end = n } → FoldsItems nat_range_steps g s f 0 r → r ≡ number n bits
  number_from_fold r e ran =
      let start : Below 0 0 = (λ j l. absurd (omega arith), λ j l. ap (λ (z : ℕ). eqb z 1) (bit_at-zero j)) in
      let all = fold_range g f Below 0 n keeps one_more_bit n 0 r e (omega arith) start ran in
      number_from_bits n r bits all.0 all.1
