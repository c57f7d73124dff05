-- The equations between the bits x of a state and the bits y of its ChiChi, and their solution.
use Rattle.std.proofs.Common.{◌≡◌, ℕ, zero, suc, ◌+◌, ◌-◌, ◌<◌, ◌≤◌, Bool, cond, not, eqb, ltb, sym, refl, ap, ◌∙◌, subst, inl, inr, arith}
use Rattle.std.proofs.lemmas.Bool.{cases_lt, cases_eq, lt-ltb, le-ltb, cond-true, cond-false}
use Rattle.layers.specs.ChiChi.{gate, chi_bit}
use Rattle.layers.specs.Inverse.{Pair, step, walk, cross, back, crossing, around, state_bit}

-- ---- what a gate has added is taken off by adding it again
undo : (y x b c : Bool) → y ≡ gate x b c → gate y b c ≡ x
undo y x b c h = grind arith

undo_not : (y x b c : Bool) → y ≡ gate (not x) b c → gate (not y) b c ≡ x
undo_not y x b c h = grind arith

redo : (y x b b' c c' : Bool) → x ≡ gate y b c → b' ≡ b → c ≡ c' → y ≡ gate x b' c'
redo y x b b' c c' p q r = grind arith

redo_not : (y x b b' c c' : Bool) → x ≡ gate (not y) b (not c) → b' ≡ b → c ≡ c' → y ≡ gate (not x) b' (not c')
redo_not y x b b' c c' p q r = grind arith

gate_same : {a a' b b' c c' : Bool} → a ≡ a' → b ≡ b' → c ≡ c' → gate a b c ≡ gate a' b' c'
gate_same p q r = λ i. gate (p i) (q i) (r i)

-- the upper half reads bits m - 1 and m past its end
abbrev over : ℕ → (ℕ → Bool) → ℕ → Bool
over m x i = cond (ltb i (m + m)) (x i) (x (i - (m + 1)))

over_in : (m : ℕ) (x : ℕ → Bool) (i : ℕ) → i < m + m → over m x i ≡ x i
over_in m x i h = cond-true (ltb i (m + m)) (x i) (x (i - (m + 1))) (lt-ltb i (m + m) h)

over_out : (m : ℕ) (x : ℕ → Bool) (i j : ℕ) → m + m ≤ i → i ≡ j + (m + 1) → over m x i ≡ x j
over_out m x i j h e = cond-false (ltb i (m + m)) (x i) (x (i - (m + 1))) (le-ltb i (m + m) h) ∙ ap x (omega arith)

module _ (f y : ℕ → Bool) (lo t : ℕ) (s : Pair) where
  -- a walk finds bits f that satisfy the equations
  along : ((i : ℕ) → lo ≤ i → i < t → y i ≡ gate (f i) (f (i + 1)) (f (i + 2))) → f t ≡ s.0 → f (t + 1) ≡ s.1
      → (k i : ℕ) → lo ≤ i → i + k ≡ t → walk y i k s ≡ (f i, f (i + 1))
  along e p q zero i h r = (λ j. (sym p j, sym q j)) ∙ ap (λ (z : ℕ). (f z, f (z + 1))) (omega arith)
  along e p q (suc k) i h r =
      ap (step (y i)) (along e p q k (i + 1) (omega arith) (omega arith))
      ∙ ap (λ (b : Bool). (b, f (i + 1)))
      (ap (λ (z : ℕ). gate (y i) (f (i + 1)) (f z)) (omega arith) ∙ undo (y i) (f i) (f (i + 1)) (f (i + 2)) (e i h (omega arith)))

  -- and bits that a walk found satisfy them
  module _ (p : (i : ℕ) → lo ≤ i → i ≤ t → f i ≡ (walk y i (t - i) s).0) (q : f (t + 1) ≡ s.1) where
    second : (k i : ℕ) → lo ≤ i → i + k ≡ t → (walk y i k s).1 ≡ f (i + 1)
    second zero i h r = sym q ∙ ap (λ (z : ℕ). f (z + 1)) (omega arith)
    second (suc k) i h r = ap (λ (z : ℕ). (walk y (i + 1) z s).0) (let e : k ≡ t - (i + 1) = omega arith in e) ∙ sym (p (i + 1) (omega arith) (omega arith))

    both : (k i : ℕ) → lo ≤ i → i + k ≡ t → walk y i k s ≡ (f i, f (i + 1))
    both k i h r =
        let a : (walk y i k s).0 ≡ f i = ap (λ (z : ℕ). (walk y i z s).0) (let e : k ≡ t - i = omega arith in e) ∙ sym (p i h (omega arith)) in
        λ j. (a j, second k i h r j)

    equation : (i : ℕ) → lo ≤ i → i < t → y i ≡ gate (f i) (f (i + 1)) (f (i + 2))
    equation i h l =
        let a : f i ≡ (walk y i (suc (t - suc i)) s).0 = p i h (omega arith) ∙ ap (λ (z : ℕ). (walk y i z s).0) (let e : t - i ≡ suc (t - suc i) = omega arith in e) in
        let b : f i ≡ gate (y i) (f (i + 1)) (f (i + 1 + 1)) = a ∙ ap (λ (w : Pair). (step (y i) w).0) (both (t - suc i) (i + 1) (omega arith) (omega arith)) in
        let c : f i ≡ gate (y i) (f (i + 1)) (f (i + 2)) = b ∙ ap (λ (z : ℕ). gate (y i) (f (i + 1)) (f z)) (omega arith) in
        sym (undo (f i) (y i) (f (i + 1)) (f (i + 2)) c)

-- the equations, with the upper half's as one
pub record System (m : ℕ) (x y : ℕ → Bool) : Type 0 where
  pub low : (i : ℕ) → i < m - 3 → y i ≡ gate (x i) (x (i + 1)) (x (i + 2))
  pub e0 : y (m - 3) ≡ gate (x m) (x (m - 2)) (x 0)
  pub e1 : y (m - 2) ≡ gate (x (m - 1)) (x 0) (x 1)
  pub e2 : y (m - 1) ≡ gate (not (x (m - 3))) (x m) (not (x (m + 1)))
  pub e3 : y m ≡ gate (x (m - 2)) (x (m + 1)) (x (m + 2))
  pub high : (i : ℕ) → m + 1 ≤ i → i < m + m → y i ≡ gate (over m x i) (over m x (i + 1)) (over m x (i + 2))

-- ---- which case a place is
abbrev place : ℕ → ℕ → Bool → Bool → Bool → Bool → Bool → Bool → Bool → Bool → Bool
place m i low c0 c1 c2 c3 high d0 d1 =
    cond (ltb i (m - 3)) low
    (cond (eqb i (m - 3)) c0
    (cond (eqb i (m - 2)) c1
    (cond (eqb i (m - 1)) c2
    (cond (eqb i m) c3
    (cond (ltb i (m + m - 2)) high
    (cond (eqb i (m + m - 2)) d0 d1))))))

module _ (m : ℕ) (h : 2 < m) (low c0 c1 c2 c3 high d0 d1 : Bool) where
  place_low : (i : ℕ) → i < m - 3 → place m i low c0 c1 c2 c3 high d0 d1 ≡ low
  place_low i l = grind arith

  place_0 : place m (m - 3) low c0 c1 c2 c3 high d0 d1 ≡ c0
  place_0 = grind arith

  place_1 : place m (m - 2) low c0 c1 c2 c3 high d0 d1 ≡ c1
  place_1 = grind arith

  place_2 : place m (m - 1) low c0 c1 c2 c3 high d0 d1 ≡ c2
  place_2 = grind arith

  place_3 : place m m low c0 c1 c2 c3 high d0 d1 ≡ c3
  place_3 = grind arith

  place_high : (i : ℕ) → m < i → i < m + m - 2 → place m i low c0 c1 c2 c3 high d0 d1 ≡ high
  place_high i l u = grind arith

  place_4 : place m (m + m - 2) low c0 c1 c2 c3 high d0 d1 ≡ d0
  place_4 = grind arith

  place_5 : place m (m + m - 1) low c0 c1 c2 c3 high d0 d1 ≡ d1
  place_5 = grind arith

abbrev among : ℕ → ℕ → Bool → Bool → Bool → Bool → Bool → Bool
among m i low b v u high =
    cond (ltb i (m - 2)) low (cond (eqb i (m - 2)) b (cond (eqb i (m - 1)) v (cond (eqb i m) u high)))

module _ (m : ℕ) (h : 2 < m) (low b v u high : Bool) where
  pub among_low : (i : ℕ) → i < m - 2 → among m i low b v u high ≡ low
  among_low i l = grind arith

  pub among_b : among m (m - 2) low b v u high ≡ b
  among_b = grind arith

  pub among_v : among m (m - 1) low b v u high ≡ v
  among_v = grind arith

  pub among_u : among m m low b v u high ≡ u
  among_u = grind arith

  pub among_high : (i : ℕ) → m < i → among m i low b v u high ≡ high
  among_high i l = grind arith

module _ (m : ℕ) (h : 2 < m) (x y : ℕ → Bool) where
  at_kinds : (P : ℕ → Type 0) → ((i : ℕ) → i < m - 3 → P i) → P (m - 3) → P (m - 2) → P (m - 1) → P m
      → ((i : ℕ) → m < i → i < m + m - 2 → P i) → P (m + m - 2) → P (m + m - 1) → (i : ℕ) → i < m + m → P i
  at_kinds P low p0 p1 p2 p3 high p4 p5 i l =
      elim (cases_lt i (m - 3)) [
        | inl k ↦ low i k
        | inr k ↦
            elim (cases_eq i (m - 3)) [
              | inl e ↦ subst P (sym e) p0
              | inr n0 ↦
                  elim (cases_eq i (m - 2)) [
                    | inl e ↦ subst P (sym e) p1
                    | inr n1 ↦
                        elim (cases_eq i (m - 1)) [
                          | inl e ↦ subst P (sym e) p2
                          | inr n2 ↦
                              elim (cases_eq i m) [
                                | inl e ↦ subst P (sym e) p3
                                | inr n3 ↦
                                    elim (cases_lt i (m + m - 2)) [
                                      | inl u ↦ high i (omega (arith, n0, n1, n2, n3)) u
                                      | inr u ↦
                                          elim (cases_eq i (m + m - 2)) [
                                            | inl e ↦ subst P (sym e) p4
                                            | inr n4 ↦
                                                let e : m + m - 1 ≡ i = omega (arith, n4) in subst P e p5
                                          ]
                                    ]
                              ]
                        ]
                  ]
            ]
      ]

  abbrev gates : ℕ → Bool
  gates i = gate (over m x i) (over m x (i + 1)) (over m x (i + 2))

  gates_in : (i : ℕ) → i < m + m - 2 → gates i ≡ gate (x i) (x (i + 1)) (x (i + 2))
  gates_in i u = gate_same (over_in m x i (omega arith)) (over_in m x (i + 1) (omega arith)) (over_in m x (i + 2) (omega arith))

  gates_0 : gates (m + m - 2) ≡ gate (x (m + m - 2)) (x (m + m - 1)) (x (m - 1))
  gates_0 = gate_same (over_in m x (m + m - 2) (omega arith))
      (over_in m x (m + m - 2 + 1) (omega arith) ∙ ap x (omega arith)) (over_out m x (m + m - 2 + 2) (m - 1) (omega arith) (omega arith))

  gates_1 : gates (m + m - 1) ≡ gate (x (m + m - 1)) (x (m - 1)) (x m)
  gates_1 = gate_same (over_in m x (m + m - 1) (omega arith))
      (over_out m x (m + m - 1 + 1) (m - 1) (omega arith) (omega arith)) (over_out m x (m + m - 1 + 2) m (omega arith) (omega arith))

  high_gates : ((i : ℕ) → i < m + m → y i ≡ chi_bit m x i) → (i : ℕ) → m + 1 ≤ i → i < m + m → y i ≡ gates i
  high_gates e i l u =
      e i u ∙ elim (cases_lt i (m + m - 2)) [
        | inl k ↦ place_high m h _ _ _ _ _ _ _ _ i (omega arith) k ∙ sym (gates_in i k)
        | inr k ↦
            elim (cases_eq i (m + m - 2)) [
              | inl q ↦ subst (λ (z : ℕ). chi_bit m x z ≡ gates z) (sym q) (place_4 m h _ _ _ _ _ _ _ _ ∙ sym gates_0)
              | inr q ↦ let r : m + m - 1 ≡ i = omega (arith, q) in subst (λ (z : ℕ). chi_bit m x z ≡ gates z) r (place_5 m h _ _ _ _ _ _ _ _ ∙ sym gates_1)
            ]
      ]

  pub from_chi : ((i : ℕ) → i < m + m → y i ≡ chi_bit m x i) → System m x y
  from_chi e = record {
    low = λ i l. e i (omega arith) ∙ place_low m h _ _ _ _ _ _ _ _ i l;
    e0 = e (m - 3) (omega arith) ∙ place_0 m h _ _ _ _ _ _ _ _;
    e1 = e (m - 2) (omega arith) ∙ place_1 m h _ _ _ _ _ _ _ _;
    e2 = e (m - 1) (omega arith) ∙ place_2 m h _ _ _ _ _ _ _ _;
    e3 = e m (omega arith) ∙ place_3 m h _ _ _ _ _ _ _ _;
    high = high_gates e;
  }

  pub to_chi : System m x y → (i : ℕ) → i < m + m → y i ≡ chi_bit m x i
  to_chi s = at_kinds (λ i. y i ≡ chi_bit m x i)
      (λ i l. s.low i l ∙ sym (place_low m h _ _ _ _ _ _ _ _ i l))
      (s.e0 ∙ sym (place_0 m h _ _ _ _ _ _ _ _))
      (s.e1 ∙ sym (place_1 m h _ _ _ _ _ _ _ _))
      (s.e2 ∙ sym (place_2 m h _ _ _ _ _ _ _ _))
      (s.e3 ∙ sym (place_3 m h _ _ _ _ _ _ _ _))
      (λ i l u. high i (omega arith) (omega arith) ∙ gates_in i u ∙ sym (place_high m h _ _ _ _ _ _ _ _ i l u))
      (high (m + m - 2) (omega arith) (omega arith) ∙ gates_0 ∙ sym (place_4 m h _ _ _ _ _ _ _ _))
      (high (m + m - 1) (omega arith) (omega arith) ∙ gates_1 ∙ sym (place_5 m h _ _ _ _ _ _ _ _))
    where
      high : (i : ℕ) → m + 1 ≤ i → i < m + m → y i ≡ gates i
      high = s.high

  -- ---- the state's bits m - 3 and m - 2 go round to themselves, and give all its bits
  module _ (e : System m x y) where
    lower : (k i : ℕ) → i + k ≡ m - 3 → walk y i k (x (m - 3), x (m - 2)) ≡ (x i, x (i + 1))
    lower k i r = along x y 0 (m - 3) (x (m - 3), x (m - 2)) (λ i _ l. e.low i l) refl (ap x (omega arith)) k i (omega arith) r

    crossing_is : crossing m y (x (m - 3), x (m - 2)) ≡ (x (m - 1), x m)
    crossing_is =
        ap (λ (w : Pair). cross (y (m - 3)) (y (m - 2)) (x (m - 2)) w) (lower (m - 3) 0 (omega arith))
        ∙ λ j. (undo (y (m - 2)) (x (m - 1)) (x 0) (x 1) e.e1 j, undo (y (m - 3)) (x m) (x (m - 2)) (x 0) e.e0 j)

    upper : (k i : ℕ) → m + 1 ≤ i → i + k ≡ m + m → walk y i k (x (m - 1), x m) ≡ (over m x i, over m x (i + 1))
    upper k i l r =
        along (over m x) y (m + 1) (m + m) (x (m - 1), x m) e.high
        (over_out m x (m + m) (m - 1) (omega arith) (omega arith)) (over_out m x (m + m + 1) m (omega arith) (omega arith)) k i l r

    upper_is : walk y (m + 1) (m - 1) (x (m - 1), x m) ≡ (x (m + 1), x (m + 2))
    upper_is =
        let p : m + 1 + 1 ≡ m + 2 = omega arith in
        upper (m - 1) (m + 1) (omega arith) (omega arith)
        ∙ λ j. (over_in m x (m + 1) (omega arith) j, (over_in m x (m + 1 + 1) (omega arith) ∙ ap x p) j)

    pub fixed : around m y (x (m - 3), x (m - 2)) ≡ (x (m - 3), x (m - 2))
    fixed =
        ap (λ (w : Pair). back (y (m - 1)) (y m) w (walk y (m + 1) (m - 1) w)) crossing_is
        ∙ ap (λ (w : Pair). back (y (m - 1)) (y m) (x (m - 1), x m) w) upper_is
        ∙ λ j. (undo_not (y (m - 1)) (x (m - 3)) (x m) (not (x (m + 1))) e.e2 j, undo (y m) (x (m - 2)) (x (m + 1)) (x (m + 2)) e.e3 j)

    pub found : (i : ℕ) → i < m + m → state_bit m y (x (m - 3), x (m - 2)) i ≡ x i
    found i l =
        elim (cases_lt i (m - 2)) [
          | inl k ↦ among_low m h _ _ _ _ _ i k ∙ ap (λ (w : Pair). w.0) (lower (m - 3 - i) i (omega arith))
          | inr k ↦
              elim (cases_eq i (m - 2)) [
                | inl q ↦ subst Is (sym q) (among_b m h _ _ _ _ _)
                | inr n1 ↦
                    elim (cases_eq i (m - 1)) [
                      | inl q ↦ subst Is (sym q) (among_v m h _ _ _ _ _ ∙ ap (λ (w : Pair). w.0) crossing_is)
                      | inr n2 ↦
                          elim (cases_eq i m) [
                            | inl q ↦ subst Is (sym q) (among_u m h _ _ _ _ _ ∙ ap (λ (w : Pair). w.1) crossing_is)
                            | inr n3 ↦
                                let g : m < i = omega (arith, n1, n2, n3) in
                                among_high m h _ _ _ _ _ i g
                                ∙ ap (λ (w : Pair). (walk y i (m + m - i) w).0) crossing_is ∙ ap (λ (w : Pair). w.0) (upper (m + m - i) i (omega arith) (omega arith))
                                ∙ over_in m x i l
                          ]
                    ]
              ]
        ]
      where
        Is : ℕ → Type 0
        Is z = state_bit m y (x (m - 3), x (m - 2)) z ≡ x z

  -- ---- bits that come of a pair which goes round to itself satisfy the equations
  module _ (s : Pair) (fix : around m y s ≡ s) (e : (i : ℕ) → i < m + m → x i ≡ state_bit m y s i) where
    x_low : (i : ℕ) → 0 ≤ i → i ≤ m - 3 → x i ≡ (walk y i (m - 3 - i) s).0
    x_low i _ l = e i (omega arith) ∙ among_low m h _ _ _ _ _ i (omega arith)

    x_b : x (m - 2) ≡ s.1
    x_b = e (m - 2) (omega arith) ∙ among_b m h _ _ _ _ _

    x_b' : x (m - 3 + 1) ≡ s.1
    x_b' = ap x (let q : m - 3 + 1 ≡ m - 2 = omega arith in q) ∙ x_b

    x_a : x (m - 3) ≡ s.0
    x_a = x_low (m - 3) (omega arith) (omega arith) ∙ ap (λ (k : ℕ). (walk y (m - 3) k s).0) (let q : m - 3 - (m - 3) ≡ 0 = omega arith in q)

    x_v : x (m - 1) ≡ (crossing m y s).0
    x_v = e (m - 1) (omega arith) ∙ among_v m h _ _ _ _ _

    x_u : x m ≡ (crossing m y s).1
    x_u = e m (omega arith) ∙ among_u m h _ _ _ _ _

    lows : walk y 0 (m - 3) s ≡ (x 0, x 1)
    lows = both x y 0 (m - 3) s x_low x_b' (m - 3) 0 (omega arith) (omega arith)

    over_is : (i : ℕ) → m + 1 ≤ i → i ≤ m + m → over m x i ≡ (walk y i (m + m - i) (crossing m y s)).0
    over_is i l u =
        elim (cases_lt i (m + m)) [
          | inl k ↦ over_in m x i k ∙ e i k ∙ among_high m h _ _ _ _ _ i (omega arith)
          | inr k ↦ over_out m x i (m - 1) k (omega arith) ∙ x_v ∙ ap (λ (z : ℕ). (walk y i z (crossing m y s)).0) (let q : 0 ≡ m + m - i = omega arith in q)
        ]

    over_u : over m x (m + m + 1) ≡ (crossing m y s).1
    over_u = over_out m x (m + m + 1) m (omega arith) (omega arith) ∙ x_u

    highs : walk y (m + 1) (m - 1) (crossing m y s) ≡ (x (m + 1), x (m + 2))
    highs =
        let q : m + 1 + 1 ≡ m + 2 = omega arith in
        both (over m x) y (m + 1) (m + m) (crossing m y s) over_is over_u (m - 1) (m + 1) (omega arith) (omega arith)
        ∙ λ j. (over_in m x (m + 1) (omega arith) j, (over_in m x (m + 1 + 1) (omega arith) ∙ ap x q) j)

    pub solved : System m x y
    solved = record {
      low = λ i l. equation x y 0 (m - 3) s x_low x_b' i (omega arith) l;
      e0 = redo (y (m - 3)) (x m) s.1 (x (m - 2)) (walk y 0 (m - 3) s).0 (x 0) x_u x_b (ap (λ (w : Pair). w.0) lows);
      e1 = redo (y (m - 2)) (x (m - 1)) (walk y 0 (m - 3) s).0 (x 0) (walk y 0 (m - 3) s).1 (x 1) x_v (sym (ap (λ (w : Pair). w.0) lows)) (ap (λ (w : Pair). w.1) lows);
      e2 = redo_not (y (m - 1)) (x (m - 3)) (crossing m y s).1 (x m) (walk y (m + 1) (m - 1) (crossing m y s)).0 (x (m + 1))
          (x_a ∙ sym (ap (λ (w : Pair). w.0) fix)) x_u (ap (λ (w : Pair). w.0) highs);
      e3 = redo (y m) (x (m - 2)) (walk y (m + 1) (m - 1) (crossing m y s)).0 (x (m + 1)) (walk y (m + 1) (m - 1) (crossing m y s)).1 (x (m + 2))
          (x_b ∙ sym (ap (λ (w : Pair). w.1) fix)) (sym (ap (λ (w : Pair). w.0) highs)) (ap (λ (w : Pair). w.1) highs);
      high = equation (over m x) y (m + 1) (m + m) (crossing m y s) over_is over_u;
    }
