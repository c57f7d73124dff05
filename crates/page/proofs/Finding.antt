-- The first place of a word, as a search goes from place to place.
use Rattle.std.proofs.Common.{◌≡◌, ℕ, ◌<◌, ◌≤◌, ◌==◌, Bool, false, cond, nat_lt, List, length, get_or, Some, None, Option, sym, ap, ◌∙◌, arith}
use Rattle.std.proofs.lemmas.Bool.{lt-ltb, le-ltb, eq-eqb}
use Rattle.std.proofs.lemmas.List.Sums.{position_or_len_is}
use Rattle.std.proofs.lemmas.Option.{unwrap_or-slice_get}
use Rattle.page.specs.Showing.{place_of, word_or_zero}

module _ (w : ℕ) (words : List ℕ) (i : ℕ) (before : (k : ℕ) → k < i → (word_or_zero words k == w) ≡ false) where
  abbrev at : ℕ → Option ℕ
  at k = cond (nat_lt k (length words)) (Some k) None

  -- the word at a place, by its name in std
  other : (k : ℕ) → k < i → (get_or words k 0 == w) ≡ false
  other k l = sym (ap (λ (x : ℕ). x == w) (unwrap_or-slice_get words k 0)) ∙ before k l

  pub found_here : i < length words → word_or_zero words i ≡ w → Some i ≡ place_of w words
  found_here l e =
      sym (ap at (position_or_len_is (λ x. x == w) words i 0 (omega arith) other (λ _. eq-eqb (get_or words i 0) w (sym (unwrap_or-slice_get words i 0) ∙ e)))
      ∙ ap (λ (b : Bool). cond b (Some i) None) (lt-ltb i (length words) l))

  pub found_nowhere : length words ≤ i → None ≡ place_of w words
  found_nowhere past =
      let n = length words in
      sym (ap at (position_or_len_is (λ x. x == w) words n 0 (omega arith) (λ k l. other k (omega arith)) (λ l. absurd (omega arith)))
      ∙ ap (λ (b : Bool). cond b (Some n) None) (le-ltb n n (omega arith)))
