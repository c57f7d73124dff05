-- Two linear maps undo each other where their lists of offsets, multiplied out, cancel to a lone 0.
use Rattle.std.proofs.Common.{◌≡◌, ℕ, ◌+◌, ◌*◌, ◌/◌, ◌%◌, ◌^◌, ◌<◌, Bool, true, false, not, eqb, List, [], ◌∷◌, ◌++◌, sym, refl, ap, ◌∙◌, ap₂, add-zero, add_assoc, mod-lt, mod-eq_of_lt, mul_assoc, mul_comm, add-mul, one-mul, div-add-mod', mul-add, arith, lit<}
use mathlib.Core.Bool.{beq}
use native.Mathlib.Nat.{add-mod-mod, mul-add-mod_self_right}
use Rattle.std.proofs.lemmas.Bool.{eqb-true}
use Rattle.bits.specs.Number.{bit, ◌⊕◌}
use Rattle.bits.proofs.Numbers.{number_lt, number_ext, number_bits, bit-number, only_one}
use Rattle.linear.specs.Linear.{xor_all, linear_bit, linear, map_size, map_of, forward, inverse_of, MapUndone, MapUndoes}
use Rattle.linear.specs.declared.DataMap.{DataMap}
use Rattle.linear.specs.declared.DataMap.TheVariants.{D32, D40}
use Rattle.linear.specs.declared.LinearMap.{LinearMap}
use Rattle.linear.specs.declared.LinearMap.TheVariants.{Data32, Tag32, Data40, Tweak64, Key128}

abbrev pick : Bool → List ℕ → List ℕ → List ℕ
pick true a b = a
pick false a b = b

-- b put in, or taken out where it is
abbrev toggle : ℕ → List ℕ → List ℕ
toggle b [] = b ∷ []
toggle b (c ∷ cs) = pick (eqb b c) cs (c ∷ toggle b cs)

-- equal offsets cancelled in pairs
abbrev cancel : List ℕ → List ℕ
cancel [] = []
cancel (b ∷ bs) = toggle b (cancel bs)

xor_left : (a b c : Bool) → a ⊕ (b ⊕ c) ≡ b ⊕ (a ⊕ c)
xor_left a b c = grind arith

xor_twice : (a b c : Bool) → a ≡ b → c ≡ a ⊕ (b ⊕ c)
xor_twice a b c h = grind arith

xor_assoc : (a b c : Bool) → (a ⊕ b) ⊕ c ≡ a ⊕ (b ⊕ c)
xor_assoc a b c = grind arith

xor_false : (b : Bool) → b ⊕ false ≡ b
xor_false b = grind arith

module _ (f : ℕ → Bool) where
  toggled : (b : ℕ) (cs : List ℕ) → xor_all f (toggle b cs) ≡ f b ⊕ xor_all f cs
  toggled b [] = refl
  toggled b (c ∷ cs) = by (eqb b c) refl (toggled b cs)
    where
      by : (t : Bool) → eqb b c ≡ t → xor_all f (toggle b cs) ≡ f b ⊕ xor_all f cs
          → xor_all f (pick t cs (c ∷ toggle b cs)) ≡ f b ⊕ (f c ⊕ xor_all f cs)
      by true e ih = xor_twice (f b) (f c) (xor_all f cs) (ap f (eqb-true b c e))
      by false e ih = ap (λ (z : Bool). f c ⊕ z) ih ∙ xor_left (f c) (f b) (xor_all f cs)

  cancelled : (bs : List ℕ) → xor_all f (cancel bs) ≡ xor_all f bs
  cancelled [] = refl
  cancelled (b ∷ bs) = toggled b (cancel bs) ∙ ap (λ (z : Bool). f b ⊕ z) (cancelled bs)

  pub joined : (bs cs : List ℕ) → xor_all f (bs ++ cs) ≡ xor_all f bs ⊕ xor_all f cs
  joined [] cs = refl
  joined (b ∷ bs) cs = ap (λ (z : Bool). f b ⊕ z) (joined bs cs) ∙ sym (xor_assoc (f b) (xor_all f bs) (xor_all f cs))

same_all : (f g : ℕ → Bool) → ((b : ℕ) → f b ≡ g b) → (bs : List ℕ) → xor_all f bs ≡ xor_all g bs
same_all f g h [] = refl
same_all f g h (b ∷ bs) = ap₂ (λ (p q : Bool). p ⊕ q) (h b) (same_all f g h bs)

-- the lists multiplied out: each (a * c + b) mod n
abbrev row : ℕ → ℕ → List ℕ → List ℕ
row n k [] = []
row n k (b ∷ bs) = (k + b) % n ∷ row n k bs

abbrev rows : ℕ → ℕ → List ℕ → List ℕ → List ℕ
rows n a bs [] = []
rows n a bs (c ∷ cs) = row n (a * c) bs ++ rows n a bs cs

row_is : (f : ℕ → Bool) (n k : ℕ) (bs : List ℕ) → xor_all f (row n k bs) ≡ xor_all (λ b. f ((k + b) % n)) bs
row_is f n k [] = refl
row_is f n k (b ∷ bs) = ap (λ (z : Bool). f ((k + b) % n) ⊕ z) (row_is f n k bs)

rows_is : (f : ℕ → Bool) (n a : ℕ) (bs cs : List ℕ) → xor_all f (rows n a bs cs) ≡ xor_all (λ c. xor_all (λ b. f ((a * c + b) % n)) bs) cs
rows_is f n a bs [] = refl
rows_is f n a bs (c ∷ cs) = joined f (row n (a * c) bs) (rows n a bs cs) ∙ ap₂ (λ (p q : Bool). p ⊕ q) (row_is f n (a * c) bs) (rows_is f n a bs cs)

-- a * (r mod n) is a * r, mod n
mul_mod : (a r b n : ℕ) → (a * (r % n) + b) % n ≡ (a * r + b) % n
mul_mod a r b n =
    sym (ap (λ (z : ℕ). (a * z + b) % n) (sym (div-add-mod' r n))
    ∙ ap (λ (z : ℕ). (z + b) % n) (mul-add a (r / n * n) (r % n) ∙ ap (λ (z : ℕ). z + a * (r % n)) (sym (mul_assoc a (r / n) n)))
    ∙ ap (λ (z : ℕ). z % n) (add_assoc (a * (r / n) * n) (a * (r % n)) b)
    ∙ mul-add-mod_self_right (a * (r / n)) n (a * (r % n) + b))

module _ (n a a' q : ℕ) (one : a * a' ≡ q * n + 1) where
  -- a * (a' * i + c) + b is i + (a * c + b), mod n
  index : (i c b : ℕ) → (a * ((a' * i + c) % n) + b) % n ≡ (i + (a * c + b) % n) % n
  index i c b =
      mul_mod a (a' * i + c) b n
      ∙ ap (λ (z : ℕ). (z + b) % n) (mul-add a (a' * i) c ∙ ap (λ (z : ℕ). z + a * c) (sym (mul_assoc a a' i) ∙ ap (λ (z : ℕ). z * i) one ∙ add-mul (q * n) 1 i ∙ ap₂ (λ (z w : ℕ). z + w) (mul_assoc q n i ∙ ap (λ (z : ℕ). q * z) (mul_comm n i) ∙ sym (mul_assoc q i n)) (one-mul i)))
      ∙ ap (λ (z : ℕ). z % n) (let e : q * i * n + i + a * c + b ≡ q * i * n + (i + (a * c + b)) = omega arith in e)
      ∙ mul-add-mod_self_right (q * i) n (i + (a * c + b))
      ∙ sym (add-mod-mod i (a * c + b) n)

  module _ (bs cs : List ℕ) (test : cancel (rows n a bs cs) ≡ 0 ∷ []) (x : ℕ → Bool) where
    over_bits : (i : ℕ) → i < n → linear_bit n a' cs (linear_bit n a bs x) i ≡ x i
    over_bits i l =
        same_all (λ c. xor_all (λ b. x ((a * ((a' * i + c) % n) + b) % n)) bs) (λ c. xor_all (λ b. x ((i + (a * c + b) % n) % n)) bs)
        (λ c. same_all (λ b. x ((a * ((a' * i + c) % n) + b) % n)) (λ b. x ((i + (a * c + b) % n) % n)) (λ b. ap x (index i c b)) bs) cs
        ∙ sym (rows_is (λ d. x ((i + d) % n)) n a bs cs)
        ∙ sym (cancelled (λ d. x ((i + d) % n)) (rows n a bs cs))
        ∙ ap (xor_all (λ d. x ((i + d) % n))) test
        ∙ xor_false (x ((i + 0) % n)) ∙ ap x (ap (λ (z : ℕ). z % n) (add-zero i) ∙ mod-eq_of_lt l)

  pub undo : (bs cs : List ℕ) → cancel (rows n a bs cs) ≡ 0 ∷ [] → 0 < n → (x : ℕ) → linear n a' cs (linear n a bs x) ≡ x % 2 ^ n
  unfolding linear
  undo bs cs test pos x =
      number_ext n (linear_bit n a' cs (bit (linear n a bs x))) (bit x)
      (λ i l. same_all (λ c. bit (linear n a bs x) ((a' * i + c) % n)) (λ c. linear_bit n a bs (bit x) ((a' * i + c) % n))
      (λ c. bit-number n (linear_bit n a bs (bit x)) ((a' * i + c) % n) (mod-lt (a' * i + c) pos)) cs
      ∙ over_bits bs cs test (bit x) i l)
      ∙ number_bits n x

pub map_undoes : MapUndoes
map_undoes D32 = undo 32 11 3 1 refl _ _ refl (lit< tt)
map_undoes D40 = undo 40 17 33 14 refl _ _ refl (lit< tt)

pub map_undone : MapUndone
map_undone D32 = undo 32 3 11 1 refl _ _ refl (lit< tt)
map_undone D40 = undo 40 33 17 14 refl _ _ refl (lit< tt)

pub linear_lt : (n a : ℕ) (bs : List ℕ) (x : ℕ) → linear n a bs x < 2 ^ n
unfolding linear
linear_lt n a bs x = number_lt n (linear_bit n a bs (bit x))

pub map_lt : (m : LinearMap) (x : ℕ) → map_of m x < 2 ^ map_size m
map_lt Data32 = linear_lt 32 _ _
map_lt Tag32 = linear_lt 32 _ _
map_lt Data40 = linear_lt 40 _ _
map_lt Tweak64 = linear_lt 64 _ _
map_lt Key128 = linear_lt 128 _ _

pub inverse_lt : (d : DataMap) (y : ℕ) → inverse_of d y < 2 ^ map_size (forward d)
inverse_lt D32 = linear_lt 32 _ _
inverse_lt D40 = linear_lt 40 _ _

module _ (d : DataMap) (y r : ℕ) (is : r ≡ inverse_of d y) where
  pub is_argument : map_of (forward d) r ≡ y % 2 ^ map_size (forward d)
  is_argument = ap (map_of (forward d)) is ∙ map_undone d y

  pub no_other : (x : ℕ) → x < 2 ^ map_size (forward d) → map_of (forward d) x ≡ y % 2 ^ map_size (forward d) → x ≡ r
  no_other x small e =
      only_one (map_size (forward d)) (map_of (forward d)) (inverse_of d) (map_undoes d) (map_undone d) (inverse_lt d) x y small e ∙ sym is

pub ruleset inversion = (is_argument, no_other, map_undoes, map_undone)

-- one offset more, of a fold
pub bit_more : (f : ℕ → Bool) (bs : List ℕ) (b : ℕ) (r s : Bool) → r ≡ xor_all f bs → s ≡ not (beq r (f b)) → s ≡ xor_all f (bs ++ b ∷ [])
bit_more f bs b r s is next =
    next ∙ xor_is r (f b) ∙ ap₂ (λ (p q : Bool). p ⊕ q) is (sym (xor_false (f b))) ∙ sym (joined f bs (b ∷ []))
  where
    xor_is : (r b : Bool) → not (beq r b) ≡ r ⊕ b
    xor_is r b = grind arith
