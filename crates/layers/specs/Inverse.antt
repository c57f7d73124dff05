-- The inverse of ChiChi, bit by bit. Two neighbouring bits x (i + 1), x (i + 2) of the state and bit i of the
-- result give bit i of the state; what is missing is a pair to begin with, and going round twice finds it.
use Rattle.std.specs.Prelude.{◌≡◌, ℕ, zero, suc, ◌+◌, ◌-◌, ◌%◌, ◌^◌, ◌<◌, Bool, false, cond, not, ◌==◌, nat_lt}
use Rattle.bits.specs.Number.{bit, number}
use Rattle.layers.specs.ChiChi.{gate, chichi}

-- two neighbouring bits of the state, the lower first
abbrev pub Pair : Type 0
Pair = Bool × Bool

-- one bit further down, with bit i of the result
abbrev pub step : Bool → Pair → Pair
step y s = (gate y s.0 s.1, s.0)

-- from bits i + k and i + k + 1 of the state to bits i and i + 1
abbrev pub walk : (ℕ → Bool) → ℕ → ℕ → Pair → Pair
walk y i zero s = s
walk y i (suc k) s = step (y i) (walk y (i + 1) k s)

-- bits m - 1 and m: c and d are bits m - 3 and m - 2 of the result, b is bit m - 2 and low are bits 0 and 1 of the state
abbrev pub cross : Bool → Bool → Bool → Pair → Pair
cross c d b low = (gate d low.0 low.1, gate c b low.0)

-- bits m - 3 and m - 2: c and d are bits m - 1 and m of the result, mid are bits m - 1 and m and high bits m + 1 and m + 2 of the state
abbrev pub back : Bool → Bool → Pair → Pair → Pair
back c d mid high = (gate (not c) mid.1 (not high.0), gate d high.0 high.1)

-- bits m - 1 and m, from bits m - 3 and m - 2: down the lower half, and across
abbrev pub crossing : ℕ → (ℕ → Bool) → Pair → Pair
crossing m y s = cross (y (m - 3)) (y (m - 2)) s.1 (walk y 0 (m - 3) s)

-- bits m - 3 and m - 2 again: on down the upper half, and back
abbrev pub around : ℕ → (ℕ → Bool) → Pair → Pair
around m y s = back (y (m - 1)) (y m) (crossing m y s) (walk y (m + 1) (m - 1) (crossing m y s))

-- the pair that goes round to itself
abbrev pub fixed_pair : ℕ → (ℕ → Bool) → Pair
fixed_pair m y = around m y (around m y (false, false))

-- bit i of the state, from its bits m - 3 and m - 2
abbrev pub state_bit : ℕ → (ℕ → Bool) → Pair → ℕ → Bool
state_bit m y s i =
    cond (nat_lt i (m - 2)) (walk y i (m - 3 - i) s).0
    (cond (i == m - 2) s.1
    (cond (i == m - 1) (crossing m y s).0
    (cond (i == m) (crossing m y s).1
    (walk y i (m + m - i) (crossing m y s)).0)))

unfoldable pub chichi⁻¹ : ℕ → ℕ → ℕ
chichi⁻¹ m y = number (m + m) (state_bit m (bit y) (fixed_pair m (bit y)))

-- at every even m above 2, either undoes the other: a state of 2 m bits is given back (of a larger number, its low 2 m bits)
abbrev pub Undoes : Type 0
Undoes = (m x : ℕ) → m % 2 ≡ 0 → 2 < m → chichi⁻¹ m (chichi m x) ≡ x % 2 ^ (m + m)

abbrev pub Undone : Type 0
Undone = (m y : ℕ) → m % 2 ≡ 0 → 2 < m → chichi m (chichi⁻¹ m y) ≡ y % 2 ^ (m + m)
