-- Linear maps of n bits: bit i of the result is the exclusive or of bits (a * i + b) mod n, over a list of offsets b.
use Rattle.std.specs.Prelude.{◌≡◌, ℕ, ◌+◌, ◌*◌, ◌%◌, ◌^◌, Bool, false, List, [], ◌∷◌}
use Rattle.bits.specs.Number.{bit, number, ◌⊕◌}
use Rattle.linear.specs.declared.LinearMap.{LinearMap}
use Rattle.linear.specs.declared.LinearMap.TheVariants.{Data32, Tag32, Data40, Tweak64, Key128}
use Rattle.linear.specs.declared.DataMap.{DataMap}
use Rattle.linear.specs.declared.DataMap.TheVariants.{D32, D40}

abbrev pub place : ℕ → ℕ → ℕ → ℕ → ℕ
place n a i b = (a * i + b) % n

abbrev pub xor_all : (ℕ → Bool) → List ℕ → Bool
xor_all f [] = false
xor_all f (b ∷ bs) = f b ⊕ xor_all f bs

abbrev pub linear_bit : ℕ → ℕ → List ℕ → (ℕ → Bool) → ℕ → Bool
linear_bit n a bs x i = xor_all (λ b. x (place n a i b)) bs

unfoldable pub linear : ℕ → ℕ → List ℕ → ℕ → ℕ
linear n a bs x = number n (linear_bit n a bs (bit x))

-- the five maps
abbrev pub map_size : LinearMap → ℕ
map_size Data32 = 32
map_size Tag32 = 32
map_size Data40 = 40
map_size Tweak64 = 64
map_size Key128 = 128

abbrev pub map_of : LinearMap → ℕ → ℕ
map_of Data32 = linear 32 11 (5 ∷ 9 ∷ 12 ∷ [])
map_of Tag32 = linear 32 11 (1 ∷ 26 ∷ 30 ∷ [])
map_of Data40 = linear 40 17 (1 ∷ 9 ∷ 30 ∷ [])
map_of Tweak64 = linear 64 3 (1 ∷ 26 ∷ 50 ∷ [])
map_of Key128 = linear 128 17 (7 ∷ 11 ∷ 14 ∷ [])

-- the two that encryption undoes, and their inverses
abbrev pub forward : DataMap → LinearMap
forward D32 = Data32
forward D40 = Data40

abbrev pub inverse_of : DataMap → ℕ → ℕ
inverse_of D32 = linear 32 3 (3 ∷ 5 ∷ 6 ∷ 7 ∷ 8 ∷ 10 ∷ 13 ∷ 14 ∷ 15 ∷ 17 ∷ 18 ∷ 22 ∷ 24 ∷ 25 ∷ 28 ∷ 30 ∷ 31 ∷ [])
inverse_of D40 =
    linear 40 33 (2 ∷ 4 ∷ 6 ∷ 7 ∷ 8 ∷ 10 ∷ 11 ∷ 13 ∷ 14 ∷ 17 ∷ 18 ∷ 19 ∷ 21 ∷ 22 ∷ 23 ∷ 29 ∷ 31 ∷ 32 ∷ 33 ∷ 36 ∷ 37 ∷ 38 ∷ 39 ∷ [])

-- either undoes the other: a state is given back (of a larger number, its low bits)
abbrev pub MapUndone : Type 0
MapUndone = (d : DataMap) (x : ℕ) → map_of (forward d) (inverse_of d x) ≡ x % 2 ^ map_size (forward d)

abbrev pub MapUndoes : Type 0
MapUndoes = (d : DataMap) (x : ℕ) → inverse_of d (map_of (forward d) x) ≡ x % 2 ^ map_size (forward d)
