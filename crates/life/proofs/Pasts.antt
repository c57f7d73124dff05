-- A history grows by one call and its answer.
use Rattle.std.proofs.Common.{◌≡◌, ℕ, zero, suc, ◌+◌, ◌<◌, ◌≤◌, ◌≢◌, List, ◌∷◌, length, get_or, set, sym, refl, ap, ◌∙◌, subst, ap₂, ⊎_elim, add-one, arith, get_or-set_other, get_or-set_same, length-set}
use Rattle.std.proofs.lemmas.Bool.{cases_eq}
use Rattle.life.specs.declared.Answer.{Answer}
use Rattle.life.specs.declared.Answer.TheVariants.{Done}
use Rattle.life.specs.declared.Call.{Call}
use Rattle.life.specs.declared.Call.TheVariants.{Load}
use Rattle.life.specs.Coding.{Coding, Suite, coding}
use Rattle.life.specs.History.{Event, event, past}
use Rattle.life.specs.Life.{Law, Agrees, Step}
use Rattle.life.specs.State.{State}

module _ (calls : List Call) (answers : List Answer) (i : ℕ) (x : Answer) where
  past_same : (n : ℕ) → n ≤ i → past calls (set answers i x) n ≡ past calls answers n
  past_same zero l = refl
  past_same (suc n) l =
      let other : n ≢ i = omega arith in
      ap₂ (λ (r : Answer) (h : List Event). event (get_or calls n (Load 0)) r ∷ h) (get_or-set_other answers i n x Done other) (past_same n (omega arith))

  pub past_more : i < length answers → past calls (set answers i x) (i + 1) ≡ event (get_or calls i (Load 0)) x ∷ past calls answers i
  past_more l =
      ap (past calls (set answers i x)) (add-one i)
      ∙ ap₂ (λ (r : Answer) (h : List Event). event (get_or calls i (Load 0)) r ∷ h) (get_or-set_same answers i x Done l) (past_same i (omega arith))

  abbrev Obeys : Coding → List ℕ → List Answer → ℕ → Type 0
  Obeys c start rs n = Law c start (past calls rs n) (get_or calls n (Load 0)) (get_or rs n Done)

  -- the calls before i obey the law as they did, and so does call i with its answer
  pub laws_more : (c : Coding) (start : List ℕ) → i < length answers → ((n : ℕ) → n < i → Obeys c start answers n)
      → Law c start (past calls answers i) (get_or calls i (Load 0)) x → (n : ℕ) → n < i + 1 → Obeys c start (set answers i x) n
  laws_more c start l before now n u =
      ⊎_elim
      (λ (e : n ≡ i). subst (λ (m : ℕ). Obeys c start (set answers i x) m) (sym e)
      (subst (λ (r : Answer). Law c start (past calls (set answers i x) i) (get_or calls i (Load 0)) r) (sym (get_or-set_same answers i x Done l))
      (subst (λ (h : List Event). Law c start h (get_or calls i (Load 0)) x) (sym (past_same i (omega arith))) now)))
      (λ (e : n ≡ i → ⊥). subst (λ (r : Answer). Law c start (past calls (set answers i x) n) (get_or calls n (Load 0)) r) (sym (get_or-set_other answers i n x Done e))
      (subst (λ (h : List Event). Law c start h (get_or calls n (Load 0)) (get_or answers n Done)) (sym (past_same n (omega arith))) (before n (omega arith))))
      (cases_eq n i)

-- the first n calls of a life are performed, and its unit has the suite u as it had
pub record Lived (u : Suite) (first : ℕ) (start : List ℕ) (calls : List Call) (before answers : List Answer) (n : ℕ) (u' : Suite) (s : State) : Type 0 where
  pub called : n ≤ length calls
  pub law : (k : ℕ) → k < n → Law (coding u) start (past calls answers k) (get_or calls k (Load 0)) (get_or answers k Done)
  pub agrees : Agrees (coding u) first start (past calls answers n) s
  pub places : length answers ≡ length before
  pub others : (k : ℕ) → n ≤ k → get_or answers k Done ≡ get_or before k Done
  pub suite : u' ≡ u

module _ {u : Suite} {first : ℕ} {start : List ℕ} {calls : List Call} {before answers : List Answer} {n : ℕ} {u' : Suite} {s : State}
    (so_far : Lived u first start calls before answers n u' s) where
  -- one call more
  pub lived_more : {u'' : Suite} {t : State} (call : Call) (x : Answer) → n < length calls → n < length before → call ≡ get_or calls n (Load 0)
      → Step u' s call x u'' t → u'' ≡ u' → Lived u first start calls before (set answers n x) (n + 1) u'' t
  lived_more {u''} {t} call x called placed is step same =
      let inside : n < length answers = omega (arith, so_far.places) in
      let h = past calls answers n in
      let both = step first start h (subst (λ (v : Suite). Agrees (coding v) first start h s) (sym so_far.suite) so_far.agrees) in
      let law = subst (λ (c : Call). Law (coding u) start h c x) is (subst (λ (v : Suite). Law (coding v) start h call x) so_far.suite both.0) in
      let now : u'' ≡ u = same ∙ so_far.suite in
      let agrees = subst (λ (v : Suite). Agrees (coding v) first start (event call x ∷ h) t) now both.1 in
      let grown = ap (λ (c : Call). event c x ∷ h) is ∙ sym (past_more calls answers n x inside) in
      record {
        called = omega arith;
        law = laws_more calls answers n x (coding u) start inside so_far.law law;
        agrees = subst (λ (z : List Event). Agrees (coding u) first start z t) grown agrees;
        places = simp length-set so_far.places;
        others = λ k l. (let other : k ≢ n = omega arith in get_or-set_other answers n k x Done other) ∙ so_far.others k (omega arith);
        suite = now;
      }
