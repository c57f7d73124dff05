-- The state that is found from its bits m - 3 and m - 2: a walk down its upper half, four bits, a walk down its lower half.
use Rattle.std.proofs.Common.{◌≡◌, ℕ, ◌+◌, ◌-◌, ◌<◌, ◌≤◌, ◌⊎◌, Bool, eqb, sym, ap, ◌∙◌, subst, inl, inr, arith}
use Rattle.std.proofs.lemmas.Bool.{cases_lt, cases_eq}
use Rattle.std.proofs.lemmas.Nat.Bits.{bit_at-zero}
use Rattle.bits.specs.Number.{bit, number, SetsBit}
use Rattle.bits.proofs.Numbers.{number_from_bits}
use Rattle.layers.specs.Inverse.{Pair, walk, crossing, state_bit}
use Rattle.layers.proofs.Systems.{among_low, among_b, among_v, among_u, among_high}

-- one bit more, of a walk from bits t and t + 1 down
pub inside_more : (w : ℕ → Bool) (r s i t : ℕ) (b : Bool) → 0 < i → i ≤ 128 → SetsBit r s (i - 1) b → b ≡ w (i - 1)
    → ((j : ℕ) → i ≤ j → j < t → bit r j ≡ w j) → (j : ℕ) → i - 1 ≤ j → j < t → bit s j ≡ w j
inside_more w r s i t b pos room set is inside j l u =
    elim (cases_eq j (i - 1)) [
      | inl e ↦ ap (bit s) e ∙ set.same (omega arith) ∙ is ∙ ap w (sym e)
      | inr e ↦ set.others j e ∙ inside j (omega (arith, e)) u
    ]

module _ (m : ℕ) (h : 2 < m) (room : m ≤ 64) (y : ℕ → Bool) (s v : Pair) (v_is : v ≡ crossing m y s)
    (upper a b c d r : ℕ) (set_u : SetsBit upper a m v.1) (set_v : SetsBit a b (m - 1) v.0) (set_b : SetsBit b c (m - 2) s.1) (set_a : SetsBit c d (m - 3) s.0)
    (in_upper : (i : ℕ) → m + 1 ≤ i → i < m + m → bit upper i ≡ (walk y i (m + m - i) v).0) (out_upper : (i : ℕ) → (i < m + 1) ⊎ (m + m ≤ i) → bit upper i ≡ bit 0 i)
    (in_lower : (i : ℕ) → 0 ≤ i → i < m - 3 → bit r i ≡ (walk y i (m - 3 - i) s).0) (out_lower : (i : ℕ) → (i < 0) ⊎ (m - 3 ≤ i) → bit r i ≡ bit d i) where
  from_upper : (i : ℕ) → m < i → bit r i ≡ bit upper i
  from_upper i l =
      out_lower i (inr (omega arith)) ∙ set_a.others i (omega arith) ∙ set_b.others i (omega arith) ∙ set_v.others i (omega arith) ∙ set_u.others i (omega arith)

  at_a : bit r (m - 3) ≡ state_bit m y s (m - 3)
  at_a =
      out_lower (m - 3) (inr (omega arith)) ∙ set_a.same (omega arith)
      ∙ ap (λ (k : ℕ). (walk y (m - 3) k s).0) (let z : 0 ≡ m - 3 - (m - 3) = omega arith in z) ∙ sym (among_low m h _ _ _ _ _ (m - 3) (omega arith))

  at_b : bit r (m - 2) ≡ state_bit m y s (m - 2)
  at_b = out_lower (m - 2) (inr (omega arith)) ∙ set_a.others (m - 2) (omega arith) ∙ set_b.same (omega arith) ∙ sym (among_b m h _ _ _ _ _)

  at_v : bit r (m - 1) ≡ state_bit m y s (m - 1)
  at_v =
      out_lower (m - 1) (inr (omega arith)) ∙ set_a.others (m - 1) (omega arith) ∙ set_b.others (m - 1) (omega arith) ∙ set_v.same (omega arith)
      ∙ ap (λ (p : Pair). p.0) v_is ∙ sym (among_v m h _ _ _ _ _)

  at_u : bit r m ≡ state_bit m y s m
  at_u =
      out_lower m (inr (omega arith)) ∙ set_a.others m (omega arith) ∙ set_b.others m (omega arith) ∙ set_v.others m (omega arith) ∙ set_u.same (omega arith)
      ∙ ap (λ (p : Pair). p.1) v_is ∙ sym (among_u m h _ _ _ _ _)

  abbrev Is : ℕ → Type 0
  Is i = bit r i ≡ state_bit m y s i

  each : (i : ℕ) → i < m + m → Is i
  each i l =
      elim (cases_lt i (m - 3)) [
        | inl k ↦ in_lower i (omega arith) k ∙ sym (among_low m h _ _ _ _ _ i (omega arith))
        | inr k ↦
            elim (cases_eq i (m - 3)) [
              | inl e ↦ subst Is (sym e) at_a
              | inr na ↦
                  elim (cases_eq i (m - 2)) [
                    | inl e ↦ subst Is (sym e) at_b
                    | inr nb ↦
                        elim (cases_eq i (m - 1)) [
                          | inl e ↦ subst Is (sym e) at_v
                          | inr nv ↦
                              elim (cases_eq i m) [
                                | inl e ↦ subst Is (sym e) at_u
                                | inr nu ↦
                                    let g : m < i = omega (arith, na, nb, nv, nu) in
                                    from_upper i g ∙ in_upper i (omega arith) l ∙ ap (λ (p : Pair). (walk y i (m + m - i) p).0) v_is
                                    ∙ sym (among_high m h _ _ _ _ _ i g)
                              ]
                        ]
                  ]
            ]
      ]

  pub state_is : r ≡ number (m + m) (state_bit m y s)
  state_is =
      number_from_bits (m + m) r (state_bit m y s) each
      (λ i l. from_upper i (omega arith) ∙ out_upper i (inr l) ∙ ap (λ (z : ℕ). eqb z 1) (bit_at-zero i))
