-- Walks of an odd number of steps have a closed form, and so going round twice ends at one pair.
use Rattle.std.proofs.Common.{◌≡◌, ℕ, zero, suc, ◌+◌, ◌-◌, ◌<◌, ◌≤◌, Bool, true, false, not, ◌&&◌, sym, refl, ap, ◌∙◌, arith}
use Rattle.bits.specs.Number.{◌⊕◌}
use Rattle.layers.specs.Inverse.{Pair, step, walk, cross, back}

-- the closed form, in four bits
abbrev pub form : Bool → Bool → Bool → Bool → Pair → Pair
form a b c d s = (a ⊕ (b && (not s.0 && s.1)), c ⊕ (d && s.0))

pub record Odd (f : Pair → Pair) : Type 0 where
  pub a : Bool
  pub b : Bool
  pub c : Bool
  pub d : Bool
  pub apart : b && c ≡ false
  pub is : (s : Pair) → f s ≡ form a b c d s

two_apart : (z a b c : Bool) → b && c ≡ false → (not z && b) && (z ⊕ (not a && c)) ≡ false
two_apart z a b c h = grind arith

two_more : (w z a b c d p q : Bool) → b && c ≡ false
    → step w (step z (form a b c d (p, q))) ≡ form (w ⊕ (not z && a)) (not z && b) (z ⊕ (not a && c)) (not a && d) (p, q)
two_more w z a b c d p q h = grind arith

-- the odd numbers
abbrev pub odd : ℕ → ℕ
odd zero = 1
odd (suc j) = suc (suc (odd j))

pub odd-walk : (y : ℕ → Bool) (j i : ℕ) → Odd (walk y i (odd j))
odd-walk y zero i = record { a = y i; b = true; c = false; d = true; apart = refl; is = λ s. refl }
odd-walk y (suc j) i = more (odd-walk y j (i + 1 + 1))
  where
    more : Odd (walk y (i + 1 + 1) (odd j)) → Odd (walk y i (suc (suc (odd j))))
    more o = record {
      a = y i ⊕ (not (y (i + 1)) && o.a);
      b = not (y (i + 1)) && o.b;
      c = y (i + 1) ⊕ (not o.a && o.c);
      d = not o.a && o.d;
      apart = two_apart (y (i + 1)) o.a o.b o.c o.apart;
      is = λ s. ap (λ (t : Pair). step (y i) (step (y (i + 1)) t)) (o.is s)
          ∙ two_more (y i) (y (i + 1)) o.a o.b o.c o.d s.0 s.1 o.apart;
    }

-- ---- once round, over any two walks f and g; c0 to c3 are four bits of the result
abbrev pub over_to : Bool → Bool → (Pair → Pair) → Pair → Pair
over_to c0 c1 f s = cross c0 c1 s.1 (f s)

abbrev pub round : Bool → Bool → Bool → Bool → (Pair → Pair) → (Pair → Pair) → Pair → Pair
round c0 c1 c2 c3 f g s = back c2 c3 (over_to c0 c1 f s) (g (over_to c0 c1 f s))

cross_form : (c0 c1 a b c d p q : Bool) → b && c ≡ false
    → cross c0 c1 q (form a b c d (p, q)) ≡ (c1 ⊕ (not a && c) ⊕ (not a && (d && p)), c0 ⊕ (a && not q))
cross_form c0 c1 a b c d p q h = grind arith

back_form : (c2 c3 a b c d v u : Bool) → b && c ≡ false
    → back c2 c3 (v, u) (form a b c d (v, u)) ≡ (not c2 ⊕ (not a && not u), c3 ⊕ (not a && c) ⊕ (not a && (d && v)))
back_form c2 c3 a b c d v u h = grind arith

-- so each bit of the pair comes out in the other's place, and at most one of the two is kept
abbrev pub swap : Bool → Bool → Bool → Bool → Bool → Bool → Bool → Bool → Pair → Pair
swap e1 e0 e2 e3 a d a' d' s =
    (e2 ⊕ (not a' && not (e0 ⊕ (a && not s.1))), e3 ⊕ (not a' && (d' && (e1 ⊕ (not a && (d && s.0))))))

swap-swap : (e1 e0 e2 e3 a d a' d' p q : Bool)
    → swap e1 e0 e2 e3 a d a' d' (swap e1 e0 e2 e3 a d a' d' (p, q)) ≡ swap e1 e0 e2 e3 a d a' d' (swap e1 e0 e2 e3 a d a' d' (false, false))
swap-swap e1 e0 e2 e3 a d a' d' p q = grind arith

module _ (c0 c1 c2 c3 : Bool) (f g : Pair → Pair) (o : Odd f) (r : Odd g) where
  over_is : (s : Pair) → over_to c0 c1 f s ≡ (c1 ⊕ (not o.a && o.c) ⊕ (not o.a && (o.d && s.0)), c0 ⊕ (o.a && not s.1))
  over_is s = ap (λ (t : Pair). cross c0 c1 s.1 t) (o.is s) ∙ cross_form c0 c1 o.a o.b o.c o.d s.0 s.1 o.apart

  back_is : (v : Pair) → back c2 c3 v (g v) ≡ (not c2 ⊕ (not r.a && not v.1), c3 ⊕ (not r.a && r.c) ⊕ (not r.a && (r.d && v.0)))
  back_is v = ap (λ (t : Pair). back c2 c3 v t) (r.is v) ∙ back_form c2 c3 r.a r.b r.c r.d v.0 v.1 r.apart

  swap_of : Pair → Pair
  swap_of = swap (c1 ⊕ (not o.a && o.c)) c0 (not c2) (c3 ⊕ (not r.a && r.c)) o.a o.d r.a r.d

  round_is : (s : Pair) → round c0 c1 c2 c3 f g s ≡ swap_of s
  unfolding swap_of
  round_is s = back_is (over_to c0 c1 f s)
      ∙ ap (λ (v : Pair). (not c2 ⊕ (not r.a && not v.1), c3 ⊕ (not r.a && r.c) ⊕ (not r.a && (r.d && v.0)))) (over_is s)

  -- twice round leads to one pair, wherever it begins
  pub one_end : (s : Pair) → round c0 c1 c2 c3 f g (round c0 c1 c2 c3 f g s) ≡ round c0 c1 c2 c3 f g (round c0 c1 c2 c3 f g (false, false))
  unfolding swap_of
  one_end s =
      round_is (round c0 c1 c2 c3 f g s) ∙ ap swap_of (round_is s)
      ∙ swap-swap (c1 ⊕ (not o.a && o.c)) c0 (not c2) (c3 ⊕ (not r.a && r.c)) o.a o.d r.a r.d s.0 s.1
      ∙ sym (round_is (round c0 c1 c2 c3 f g (false, false)) ∙ ap swap_of (round_is (false, false)))

-- a loop's step: one bit further down, on a walk that ends at t
pub walk_more : (y : ℕ → Bool) (i t : ℕ) (s p q : Pair) → 0 < i → i ≤ t → p ≡ walk y i (t - i) s → q ≡ step (y (i - 1)) p → q ≡ walk y (i - 1) (t - (i - 1)) s
walk_more y i t s p q pos l e is =
    let a : i ≡ i - 1 + 1 = omega arith in
    let b : suc (t - i) ≡ t - (i - 1) = omega arith in
    is ∙ ap (step (y (i - 1))) (e ∙ ap (λ (z : ℕ). walk y z (t - i) s) a) ∙ ap (λ (z : ℕ). walk y (i - 1) z s) b
