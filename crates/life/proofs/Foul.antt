-- The first record that yields nothing.
use Rattle.std.proofs.Common.{◌≡◌, ℕ, zero, suc, ◌+◌, ◌-◌, ◌<◌, ◌≤◌, Bool, true, false, cond, nat_lt, Some, None, Option, is_some, sym, refl, ap, ap₂, ◌∙◌, ⊎_elim, arith, lt-ltb}
use Rattle.std.proofs.lemmas.Bool.{cases_eq}
use Rattle.refusal.specs.declared.Refusal.{Refusal}
use Rattle.refusal.specs.declared.Refusal.TheVariants.{FoulRecord}
use Rattle.life.specs.Checks.{foul_from, passes}

module _ (opens : ℕ → Option ℕ) where
  more : (k n : ℕ) → foul_from opens k (suc n) ≡ passes (opens k) k (foul_from opens (k + 1) n)
  unfolding foul_from
  more k n = refl

  none : (k : ℕ) → foul_from opens k 0 ≡ None
  unfolding foul_from
  none k = refl

  -- a search up to record e has come to k, and will find r
  module _ (k e : ℕ) (r : Option Refusal) (come : foul_from opens k (e - k) ≡ r) where
    one : k < e → passes (opens k) k (foul_from opens (k + 1) (e - (k + 1))) ≡ r
    one l = sym (more k (e - (k + 1))) ∙ ap (foul_from opens k) (let z : suc (e - (k + 1)) ≡ e - k = omega arith in z) ∙ come

    pub foul_here : (o : Option ℕ) → k < e → o ≡ opens k → is_some o ≡ false → Some (FoulRecord k) ≡ r
    foul_here None l at shut = ap (λ (o : Option ℕ). passes o k (foul_from opens (k + 1) (e - (k + 1)))) at ∙ one l
    foul_here (Some i) l at shut = absurd cc

    pub foul_later : (o : Option ℕ) → k < e → o ≡ opens k → is_some o ≡ true → foul_from opens (k + 1) (e - (k + 1)) ≡ r
    foul_later None l at shut = absurd cc
    foul_later (Some i) l at shut = ap (λ (o : Option ℕ). passes o k (foul_from opens (k + 1) (e - (k + 1)))) at ∙ one l

    pub foul_nowhere : e ≤ k → None ≡ r
    foul_nowhere l = sym (none k) ∙ ap (foul_from opens k) (let z : 0 ≡ e - k = omega arith in z) ∙ come

  -- where every record yields an instruction, none is foul
  pub none_foul : (is : ℕ → ℕ) (k n : ℕ) → ((j : ℕ) → k ≤ j → j < k + n → opens j ≡ Some (is j)) → foul_from opens k n ≡ None
  none_foul is k zero all = none k
  none_foul is k (suc n) all =
      more k n
      ∙ ap (λ (o : Option ℕ). passes o k (foul_from opens (k + 1) n)) (all k (omega arith) (omega arith))
      ∙ none_foul is (k + 1) n (λ j l u. all j (omega arith) (omega arith))

  -- and where none is foul, every record yields one
  passed : (o : Option ℕ) (k : ℕ) (rest : Option Refusal) → passes o k rest ≡ None → ((i : ℕ) × (o ≡ Some i)) × (rest ≡ None)
  passed (Some i) k rest e = ((i, refl), e)
  passed None k rest e = absurd cc

  pub all_open : (k n j : ℕ) → foul_from opens k n ≡ None → k ≤ j → j < k + n → (i : ℕ) × (opens j ≡ Some i)
  all_open k zero j e l u = absurd (omega arith)
  all_open k (suc n) j e l u =
      let p = passed (opens k) k (foul_from opens (k + 1) n) (sym (more k n) ∙ e) in
      ⊎_elim
      (λ (q : j ≡ k). (p.0.0, ap opens q ∙ p.0.1))
      (λ (q : j ≡ k → ⊥). all_open (k + 1) n j p.1 (omega arith) (omega arith))
      (cases_eq j k)

-- two searches that agree on the records they try
foul_same : (f g : ℕ → Option ℕ) (k n : ℕ) → ((j : ℕ) → k ≤ j → j < k + n → f j ≡ g j) → foul_from f k n ≡ foul_from g k n
foul_same f g k zero same = none f k ∙ sym (none g k)
foul_same f g k (suc n) same =
    more f k n
    ∙ ap₂ (λ (o : Option ℕ) (r : Option Refusal). passes o k r) (same k (omega arith) (omega arith))
    (foul_same f g (k + 1) n (λ j l u. same j (omega arith) (omega arith)))
    ∙ sym (more g k n)

-- no record past the last is tried
pub foul_within : (opens : ℕ → Option ℕ) (count k n : ℕ) → k + n ≤ count → foul_from (λ j. cond (nat_lt j count) (opens j) None) k n ≡ foul_from opens k n
foul_within opens count k n fits =
    foul_same (λ j. cond (nat_lt j count) (opens j) None) opens k n
    (λ j l u. ap (λ (b : Bool). cond b (opens j) None) (lt-ltb j count (omega arith)))
