-- The first place at which a test fails.
use Rattle.std.proofs.Common.{◌≡◌, ℕ, zero, suc, ◌+◌, ◌<◌, ◌≤◌, Bool, true, false, cond, sym, refl, ap, ◌∙◌, ⊎_elim, arith}
use borrow.Author.Tests.{both_ways}
use Rattle.std.proofs.lemmas.Bool.{cases_lt}
use Rattle.command.specs.Forms.{first_bad}

module _ (ok : ℕ → Bool) where
  -- what the first bad place is
  pub record Firstly (k n p : ℕ) : Type 0 where
    pub from : k ≤ p
    pub to : p ≤ k + n
    pub good : (j : ℕ) → k ≤ j → j < p → ok j ≡ true
    pub bad : p < k + n → ok p ≡ false

  go_on : (k n : ℕ) (b : Bool) → ok k ≡ b → Firstly (k + 1) n (first_bad ok (k + 1) n) → Firstly k (suc n) (cond b (first_bad ok (k + 1) n) k)
  go_on k n true e r = record {
    from = omega (arith, r.from);
    to = omega (arith, r.to);
    good = λ j h l. ⊎_elim (λ (q : j < k + 1). ap ok (let z : j ≡ k = omega arith in z) ∙ e) (λ (q : k + 1 ≤ j). r.good j q l) (cases_lt j (k + 1));
    bad = λ l. r.bad (omega arith);
  }
  go_on k n false e r = record { from = omega arith; to = omega arith; good = λ j h l. absurd (omega arith); bad = λ l. e }

  pub first_bad_lem : (k n : ℕ) → Firstly k n (first_bad ok k n)
  unfolding first_bad
  first_bad_lem k zero = record { from = omega arith; to = omega arith; good = λ j h l. absurd (omega arith); bad = λ l. absurd (omega arith) }
  first_bad_lem k (suc n) = go_on k n (ok k) refl (first_bad_lem (k + 1) n)

  -- the first bad place is where a test fails that no place before it fails
  pub first_bad_is : (n p : ℕ) → p ≤ n → ((k : ℕ) → k < p → ok k ≡ true) → (p < n → ok p ≡ false) → p ≡ first_bad ok 0 n
  first_bad_is n p within good bad =
      let f = first_bad_lem 0 n in
      let before : p < first_bad ok 0 n → ⊥ = λ l. both_ways (ok p) (bad (omega (arith, f.to))) (f.good p (omega arith) l) in
      let behind : first_bad ok 0 n < p → ⊥ = λ l. both_ways (ok (first_bad ok 0 n)) (f.bad (omega arith)) (good (first_bad ok 0 n) l) in
      ⊎_elim (λ (l : p < first_bad ok 0 n). absurd (before l)) (λ (l : first_bad ok 0 n ≤ p).
      ⊎_elim (λ (m : first_bad ok 0 n < p). absurd (behind m)) (λ (m : p ≤ first_bad ok 0 n). let z : p ≡ first_bad ok 0 n = omega arith in z) (cases_lt (first_bad ok 0 n) p)) (cases_lt p (first_bad ok 0 n))

  -- where every place is good there is no bad one
  pub none_bad : (n : ℕ) → ((k : ℕ) → k < n → ok k ≡ true) → first_bad ok 0 n ≡ n
  none_bad n all = sym (first_bad_is n n (omega arith) all (λ l. absurd (omega arith)))
