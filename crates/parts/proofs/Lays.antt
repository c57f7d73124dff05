-- Reading and writing one of two memories by its place, in any arrangement.
use Rattle.std.proofs.Common.{◌≡◌, ℕ, ◌<◌, ◌≤◌, List, length, Ok, Result, sym, ◌∙◌, arith}
use Rattle.std.proofs.lemmas.Grind.{common_steps}
use Rattle.refusal.specs.declared.Refusal.{Refusal}
use Rattle.memory.specs.Slots.{most, wide, read_of, after_write}
use Rattle.memory.proofs.Written.{after_is}
use Rattle.parts.specs.declared.place.Place.{Place}
use Rattle.parts.specs.declared.arrangement.Arrangement.{Ghosts as Arrangement}
use Rattle.parts.specs.Places.{read_at, first_after, second_after}
use Rattle.parts.specs.Laws.{pick, Inside, Laid}
use Rattle.parts.specs.Arranged.{Lawful}

-- a write leaves the number of slots
length_first : (a : List ℕ) (q : Place) (n : ℕ) → length (first_after a q n) ≡ length a
length_first a q n = grind (arith, common_steps)

length_second : (b : List ℕ) (q : Place) (n : ℕ) → length (second_after b q n) ≡ length b
length_second b q n = grind (arith, common_steps)

-- the place written, and any other
pick_same : (a b : List ℕ) (q : Place) (n used_a used_b : ℕ) → used_a ≤ length a → used_b ≤ length b → n < wide → Inside used_a used_b q → pick (first_after a q n) (second_after b q n) q ≡ n
pick_same a b q n used_a used_b ea eb k l = grind (arith, common_steps)

pick_other : (a b : List ℕ) (q r : Place) (n : ℕ) → (r ≡ q → ⊥) → pick (first_after a q n) (second_after b q n) r ≡ pick a b r
pick_other a b q r n ne = grind (arith, common_steps)

read_in : (a b : List ℕ) (q : Place) (used_a used_b : ℕ) → used_a ≤ length a → used_b ≤ length b → Inside used_a used_b q → read_at a b q ≡ Ok (pick a b q)
read_in a b q used_a used_b ea eb l = grind (arith, common_steps)

-- a read and a write of slots that are laid out
laid_read : (place : ℕ → Place) (used_a used_b : ℕ) (slots a b : List ℕ) (s : ℕ) → Laid place used_a used_b slots a b → s < length slots → read_at a b (place s) ≡ read_of slots s
laid_read place used_a used_b slots a b s laid l =
    grind (arith, common_steps, read_in a b (place s) used_a used_b laid.enough_a laid.enough_b (laid.inside s l), laid.value s l)

laid_write : (place : ℕ → Place) (used_a used_b : ℕ) (slots after a b : List ℕ) (s n : ℕ) → Laid place used_a used_b slots a b → Laid place used_a used_b after (first_after a (place s) n) (second_after b (place s) n) → ((i j : ℕ) → place i ≡ place j → i ≡ j) → length after ≡ length slots → s < length slots → n < wide → after ≡ after_write slots s n
laid_write place used_a used_b slots after a b s n laid laid' apart same l k =
    after_is slots after s n l k same
    (laid'.value s (omega arith) ∙ pick_same a b (place s) n used_a used_b laid.enough_a laid.enough_b k (laid.inside s l))
    (λ i h ne. laid'.value i (omega arith) ∙ pick_other a b (place s) (place i) n (λ e. ne (apart i s e)) ∙ sym (laid.value i h))

module _ {A : Type 0} (arrangement : Arrangement A) (law : Lawful arrangement) where
  pub arranged_read : (a b : List ℕ) (m s : ℕ) (q : Place) (x : Result ℕ Refusal) → x ≡ read_at a b q → q ≡ arrangement.place m s → m ≡ length a → length a ≤ most → s < length (arrangement.held a b) → x ≡ read_of (arrangement.held a b) s
  arranged_read a b m s q x e eq em few l = rw (e, eq, em) (laid_read (arrangement.place (length a)) _ _ (arrangement.held a b) a b s (law.laid a b few) l)

  arranged_after : (a b : List ℕ) (s n : ℕ) → length a ≤ most → s < length (arrangement.held a b) → n < wide → let q = arrangement.place (length a) s in arrangement.held (first_after a q n) (second_after b q n) ≡ after_write (arrangement.held a b) s n
  arranged_after a b s n few l k =
      let q = arrangement.place (length a) s in
      let a' = first_after a q n in
      let b' = second_after b q n in
      let ea = length_first a q n in
      let eb = length_second b q n in
      let laid' = rw (ea, eb) at (law.laid a' b' (omega arith)) in
      laid_write (arrangement.place (length a)) _ _ (arrangement.held a b) (arrangement.held a' b') a b s n (law.laid a b few) laid' (law.apart (length a))
      (law.counted a' b' ∙ rw (ea, eb) (sym (law.counted a b))) l k

  -- as the code writes it
  pub arranged_write : (a b a' b' : List ℕ) (m s n : ℕ) (q : Place) → a' ≡ first_after a q n → b' ≡ second_after b q n → q ≡ arrangement.place m s → m ≡ length a → length a ≤ most → s < length (arrangement.held a b) → n < wide → arrangement.held a' b' ≡ after_write (arrangement.held a b) s n
  arranged_write a b a' b' m s n q ea eb eq em few l k = rw (ea, eb, eq, em) (arranged_after a b s n few l k)
