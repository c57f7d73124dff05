-- Bare words keep the two laws.
use Rattle.std.specs.Prelude.{◌≡◌, ℕ, ◌*◌, ◌/◌, ◌%◌, ◌^◌, ◌<◌, ◌&&◌, Some, ◌==◌, nat_lt}
use Rattle.std.proofs.Common.{ap, ◌∙◌, arith}
use Rattle.std.proofs.lemmas.Nat.{shr_split, shl-shr}
use Rattle.std.proofs.lemmas.Bool.{cond-true, ltb-true, lt-ltb, eqb-true, eq-eqb, and_parts, and_from}
use Rattle.cipher.specs.declared.Mode.TheVariants.{Tagged}
use Rattle.cipher.specs.Word.{Laws}
use Rattle.cipher.proofs.Fixed.{let_through}
use Rattle.cipher_tests.specs.Bare.{bare, bare_opened}

first : (i : ℕ) → i < 2 ^ 32 → bare_opened (i * 2 ^ 8) ≡ Some i
first i h =
    cond-true _ _ _ (and_from _ _ (lt-ltb (i * 2 ^ 8) (2 ^ 40) (omega arith)) (eq-eqb (i * 2 ^ 8 % 2 ^ 8) 0 (omega arith)))
    ∙ ap Some (shl-shr i 8)

second : (s i : ℕ) → bare_opened s ≡ Some i → (i < 2 ^ 32) × (s ≡ i * 2 ^ 8)
second s i e =
    let p = let_through (nat_lt s (2 ^ 40) && s % 2 ^ 8 == 0) (s / 2 ^ 8) i e in
    let q = and_parts (nat_lt s (2 ^ 40)) (s % 2 ^ 8 == 0) p.0 in
    let small : s < 2 ^ 40 = ltb-true s (2 ^ 40) q.0 in
    let zero : s % 2 ^ 8 ≡ 0 = eqb-true (s % 2 ^ 8) 0 q.1 in
    let is : s / 2 ^ 8 ≡ i = p.1 in
    (omega (arith, shr_split s 8), omega (arith, shr_split s 8))

pub bare_laws : (k t : ℕ) → Laws (bare k Tagged 8 t) bare_opened 8
bare_laws k t = record { small = λ i h. omega arith; first = first; second = λ s i _ e. second s i e }
