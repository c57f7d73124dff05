-- Loops that fill a table, the next place from the one before.
use Rattle.std.proofs.Common.{◌≡◌, ℕ, suc, ◌+◌, ◌<◌, ◌≤◌, cond, List, length, get_or, set, replicate, sym, ap, ◌∙◌, subst, add-one, arith, length-set}
use lib.ListN.{length-replicate}
use Rattle.std.proofs.lemmas.List.FromFn.{fill_by_all, get_or-map-range_with_len, length-map-range_with_len}
use Rattle.std.proofs.lemmas.List.Edits.{fill_by_more}
use Rattle.cipher.specs.declared.Mode.{Mode}
use Rattle.schedule.specs.Schedule.{table, inner, key_round, key_after}

-- xs has n places, and those below i are f's
pub record Filled (f : ℕ → ℕ) (n : ℕ) (xs : List ℕ) (i : ℕ) : Type 0 where
  pub size : length xs ≡ n
  pub below : (k : ℕ) → k < i → get_or xs k 0 ≡ f k

pub filled_more : (f : ℕ → ℕ) (n : ℕ) (xs : List ℕ) (i v : ℕ) → i < n → v ≡ f i → Filled f n xs i → Filled f n (set xs i v) (i + 1)
filled_more f n xs i v l e p = record {
  size = simp length-set p.size;
  below = subst (λ (w : ℕ). (k : ℕ) → k < i + 1 → get_or (set xs i w) k 0 ≡ f k) (sym e)
      (fill_by_more f xs i 0 (let s : length xs ≡ n = p.size in omega arith) p.below);
}

pub filled_none : (f : ℕ → ℕ) (n v : ℕ) → Filled f n (replicate n v) 0
filled_none f n v = record { size = length-replicate n v; below = λ k l. absurd (omega arith) }

-- at first, every place has f 0
pub filled_first : (f : ℕ → ℕ) (n v : ℕ) → v ≡ f 0 → Filled f (suc n) (replicate (suc n) v) (0 + 1)
filled_first f n v e = record { size = length-replicate (suc n) v; below = λ k l. ap (λ (j : ℕ). get_or (replicate (suc n) v) j 0) (let z : k ≡ 0 = omega arith in z) ∙ e ∙ ap f (let z : 0 ≡ k = omega arith in z) }

-- the place after i, from the one at i
pub filled_next : (f : ℕ → ℕ) (n : ℕ) (xs : List ℕ) (i v : ℕ) → i + 1 < n → v ≡ f (suc i) → Filled f n xs (i + 1) → Filled f n (set xs (i + 1) v) (i + 1 + 1)
filled_next f n xs i v l e = filled_more f n xs (i + 1) v l (e ∙ ap f (sym (add-one i)))

-- the value that the next place comes from
pub filled_last : (f : ℕ → ℕ) (n : ℕ) (xs : List ℕ) (i : ℕ) → Filled f n xs (i + 1) → get_or xs i 0 ≡ f i
filled_last f n xs i p = p.below i (omega arith)

pub filled_all : (f : ℕ → ℕ) (n : ℕ) (xs : List ℕ) (i : ℕ) → n ≤ i → Filled f n xs i → xs ≡ table n f
unfolding table
filled_all f n xs i l p = fill_by_all f xs n 0 p.size (λ k h. p.below k (omega arith))

pub table_at : (f : ℕ → ℕ) (n i : ℕ) → i < n → get_or (table n f) i 0 ≡ f i
unfolding table
table_at f n i l = get_or-map-range_with_len f 0 n i i 0 l (omega arith)

pub table_ext : (f g : ℕ → ℕ) (n : ℕ) → ((i : ℕ) → i < n → f i ≡ g i) → table n f ≡ table n g
unfolding table
table_ext f g n e = fill_by_all g (table n f) n 0 (length-map-range_with_len f 0 n) (λ k l. table_at f n k l ∙ e k l)

-- a list that has f's value at each of its n places is the table of f
pub table_from : (f : ℕ → ℕ) (xs : List ℕ) (n : ℕ) → length xs ≡ n → ((k : ℕ) → k < n → get_or xs k 0 ≡ f k) → xs ≡ table n f
unfolding table
table_from f xs n s p = fill_by_all f xs n 0 s p

pub key_after_next : (v : Mode) (k i : ℕ) → key_after v k (i + 1) ≡ cond (inner i) (key_round v i (key_after v k i)) (key_after v k i)
unfolding key_after
key_after_next v k i = ap (key_after v k) (add-one i)

-- what the loops and tables of this crate need
pub ruleset tables = (filled_none, filled_first, filled_all, table_from, table_at, key_after_next)
