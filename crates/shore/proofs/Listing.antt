-- The loop that puts the instructions of a list.
use Rattle.std.proofs.Common.{◌≡◌, ℕ, ◌+◌, ◌<◌, ◌≤◌, List, [], ◌∷◌, ◌++◌, length, get_or, take, sym, refl, ap, ◌∙◌, subst, add_assoc}
use Rattle.std.proofs.lemmas.List.{take_more, take_all}
use Rattle.shore.specs.declared.draft.Draft.{Draft}
use Rattle.shore.specs.Drafting.{KeyedCipher, draft_head, Advanced}
use Rattle.shore.specs.Making.{PutAll}

-- one more at the end of a chain
pub put_all_more : (c : KeyedCipher) (xs : List ℕ) (i : ℕ) (d : Draft) (before : List ℕ) (e : Draft) (mid : List ℕ) (next : Draft) (after : List ℕ)
    → PutAll c d before xs e mid → Advanced c e i mid after next → PutAll c d before (xs ++ i ∷ []) next after
put_all_more c [] i d before e mid next after all step =
    (next, (after, (subst (λ (x : Draft). Advanced c x i before after next) all.0 (subst (λ (b : List ℕ). Advanced c e i b after next) all.1 step), (refl, refl))))
put_all_more c (x ∷ xs) i d before e mid next after all step =
    (all.0, (all.1.0, (all.1.1.0, put_all_more c xs i all.0 all.1.0 e mid next after all.1.1.1 step)))

-- the first n instructions are put
pub record Reached (c : KeyedCipher) (is : List ℕ) (d : Draft) (before : List ℕ) (n : ℕ) (e : Draft) (after : List ℕ) : Type 0 where
  pub head : draft_head e ≡ draft_head d
  pub put : e.put ≡ d.put + n
  pub so_far : PutAll c d before (take n is) e after
  pub all : length is ≤ n → PutAll c d before is e after

module _ (c : KeyedCipher) (is : List ℕ) (d : Draft) (before : List ℕ) where
  whole : (n : ℕ) (e : Draft) (after : List ℕ) → PutAll c d before (take n is) e after → length is ≤ n → PutAll c d before is e after
  whole n e after so_far l = subst (λ (xs : List ℕ). PutAll c d before xs e after) (take_all n is l) so_far

  pub reached_more : (n : ℕ) (e : Draft) (mid : List ℕ) (i : ℕ) (next : Draft) (after : List ℕ)
      → n < length is → i ≡ get_or is n 0 → Reached c is d before n e mid → Advanced c e i mid after next → Reached c is d before (n + 1) next after
  reached_more n e mid i next after l item reached step =
      let longer : PutAll c d before (take (n + 1) is) next after =
      subst (λ (xs : List ℕ). PutAll c d before xs next after) (sym (take_more is n 0 l))
      (subst (λ (x : ℕ). PutAll c d before (take n is ++ x ∷ []) next after) item (put_all_more c (take n is) i d before e mid next after reached.so_far step)) in
      record {
        head = step.head ∙ reached.head;
        put = step.more ∙ ap (λ (q : ℕ). q + 1) reached.put ∙ add_assoc d.put n 1;
        so_far = longer;
        all = whole (n + 1) next after longer;
      }
