-- ChiChi, the nonlinear layer on n = 2 m bits, for an even m above 2.
use Rattle.std.specs.Prelude.{ℕ, ◌+◌, ◌-◌, Bool, cond, not, ◌&&◌, ◌==◌, nat_lt}
use Rattle.bits.specs.Number.{bit, number, ◌⊕◌}

abbrev pub gate : Bool → Bool → Bool → Bool
gate a b c = a ⊕ (not b && c)

-- bit i of the result, from the bits x of the state
abbrev pub chi_bit : ℕ → (ℕ → Bool) → ℕ → Bool
chi_bit m x i =
    cond (nat_lt i (m - 3)) (gate (x i) (x (i + 1)) (x (i + 2)))
    (cond (i == m - 3) (gate (x m) (x (m - 2)) (x 0))
    (cond (i == m - 2) (gate (x (m - 1)) (x 0) (x 1))
    (cond (i == m - 1) (gate (not (x (m - 3))) (x m) (not (x (m + 1))))
    (cond (i == m) (gate (x (m - 2)) (x (m + 1)) (x (m + 2)))
    (cond (nat_lt i (m + m - 2)) (gate (x i) (x (i + 1)) (x (i + 2)))
    (cond (i == m + m - 2) (gate (x (m + m - 2)) (x (m + m - 1)) (x (m - 1)))
    (gate (x (m + m - 1)) (x (m - 1)) (x m))))))))

unfoldable pub chichi : ℕ → ℕ → ℕ
chichi m x = number (m + m) (chi_bit m (bit x))
