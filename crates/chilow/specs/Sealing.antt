-- ChiLow keeps the two laws of a word cipher, in both modes.
use Rattle.std.specs.Prelude.{◌≡◌, ℕ, ◌+◌, ◌*◌, ◌/◌, ◌%◌, ◌^◌, ◌<◌, true, cond, ◌&&◌, Some, None, ◌==◌, nat_lt, refl}
use Rattle.std.proofs.Math.Path.{sym, ap, ap₂, subst}
use Rattle.std.proofs.Common.{◌∙◌, mod-eq_of_lt, div-one, arith, pow-add}
use Rattle.std.proofs.lemmas.Nat.{shr_high, mod_low, shr_split, shr_below, mod_below, mul-add-lt}
use Rattle.std.proofs.lemmas.Bool.{cond-true, ltb-true, lt-ltb, eqb-true, eq-eqb, and_parts, and_from}
use Rattle.bits.specs.Number.{part}
use Rattle.bits.proofs.Numbers.{part_lt, high_zero}
use Rattle.layers.specs.Widths.{size}
use Rattle.cipher.specs.declared.Mode.{Mode}
use Rattle.cipher.specs.declared.Mode.TheVariants.{Tagged, Block}
use Rattle.cipher.specs.Word.{fits_mode, decrypted, Laws, Lawful}
use Rattle.cipher.proofs.Fixed.{let_through, laws_derived, laws_fix_decryption}
use Rattle.paths.specs.declared.path.Path.{Path}
use Rattle.paths.specs.declared.path.Path.TheVariants.{Data32, Tag32, Data40}
use Rattle.paths.specs.Algorithm.{decryption}
use Rattle.paths.specs.Encryption.{encryption, source}
use Rattle.paths.specs.Paths.{width_of}
use Rattle.paths.specs.Data.{schedules}
use Rattle.paths.proofs.Rows.{schedules_decrypt, outcome_lt}
use Rattle.paths.proofs.Undoing.{encryption_undoes, encryption_undone, encryption_lt}
use Rattle.chilow.specs.Words.{run, stored_by, opened_by, chilow, opened}

-- ---- by schedules made ahead, or by the key
pub opened_by_lem : (m : Mode) (k τ t s : ℕ)
    → opened_by (run (schedules m k t)) m τ s ≡ opened k m τ t s
unfolding opened
opened_by_lem Tagged k τ t s =
    ap₂ (λ (a b : ℕ). cond (nat_lt s (2 ^ (32 + τ)) && part a 0 τ == s % 2 ^ τ) (Some b) None)
    (schedules_decrypt Tag32 k t (s / 2 ^ τ)) (schedules_decrypt Data32 k t (s / 2 ^ τ))
opened_by_lem Block k τ t s =
    ap (λ (a : ℕ). cond (nat_lt s (2 ^ (32 + τ)) && part a 32 8 == 0) (Some (part a 0 32)) None) (schedules_decrypt Data40 k t s)

pub stored_by_lem : (m : Mode) (k τ t i : ℕ)
    → stored_by (source m (schedules m k t)) (run (schedules m k t)) m τ i
    ≡ chilow k m τ t i
unfolding chilow encryption
stored_by_lem Tagged k τ t i =
    ap (λ (a : ℕ). source Tagged (schedules Tagged k t) i * 2 ^ τ + part a 0 τ)
    (schedules_decrypt Tag32 k t (source Tagged (schedules Tagged k t) i))
stored_by_lem Block k τ t i = refl

decryption_lt : (p : Path) (k t x : ℕ) → decryption p k t x < 2 ^ size (width_of p)
decryption_lt p k t x = subst (λ (z : ℕ). z < 2 ^ size (width_of p)) (schedules_decrypt p k t x) (outcome_lt p _ x)

-- ---- a tag beside the ciphertext
module _ (k τ t : ℕ) where
  tag : ℕ → ℕ
  tag c = part (decryption Tag32 k t c) 0 τ

  joined_lt : (c g : ℕ) → c < 2 ^ 32 → g < 2 ^ τ → c * 2 ^ τ + g < 2 ^ (32 + τ)
  joined_lt c g h l = omega (arith, mul-add-lt c (2 ^ τ) g (2 ^ 32) h l, pow-add 2 32 τ)

  -- a ciphertext beside its tag opens to its decryption
  opens : (c : ℕ) → c < 2 ^ 32 → opened k Tagged τ t (c * 2 ^ τ + tag c) ≡ Some (decryption Data32 k t c)
  unfolding opened tag
  opens c h =
      ap₂ (λ (a b : ℕ). cond (nat_lt (c * 2 ^ τ + tag c) (2 ^ (32 + τ)) && tag a == b) (Some (decryption Data32 k t a)) None)
      (shr_high c τ (tag c) (part_lt (decryption Tag32 k t c) 0 τ)) (mod_low c τ (tag c) (part_lt (decryption Tag32 k t c) 0 τ))
      ∙ cond-true _ _ _ (and_from _ _ (lt-ltb _ _ (joined_lt c (tag c) h (part_lt (decryption Tag32 k t c) 0 τ))) (eq-eqb (tag c) (tag c) refl))

  tagged_second : (s i : ℕ) → opened k Tagged τ t s ≡ Some i → (i < 2 ^ 32) × (s ≡ chilow k Tagged τ t i)
  unfolding opened chilow tag
  tagged_second s i e =
      let c : ℕ = s / 2 ^ τ in
      let p = let_through (nat_lt s (2 ^ (32 + τ)) && tag c == s % 2 ^ τ) (decryption Data32 k t c) i e in
      let q = and_parts (nat_lt s (2 ^ (32 + τ))) (tag c == s % 2 ^ τ) p.0 in
      let small : c < 2 ^ 32 = shr_below s 32 τ (ltb-true s (2 ^ (32 + τ)) q.0) in
      let same : encryption Tagged k t i ≡ c = ap (encryption Tagged k t) (sym p.1) ∙ encryption_undoes Tagged k t c small in (
        subst (λ (z : ℕ). z < 2 ^ 32) p.1 (decryption_lt Data32 k t c),
        sym (ap (λ (z : ℕ). z * 2 ^ τ + tag z) same ∙ ap (λ (g : ℕ). c * 2 ^ τ + g) (eqb-true (tag c) (s % 2 ^ τ) q.1) ∙ shr_split s τ),
      )

  tagged_laws : Laws (chilow k Tagged τ t) (opened k Tagged τ t) τ
  unfolding chilow tag
  tagged_laws = record {
    small = λ i h. joined_lt (encryption Tagged k t i) _ (encryption_lt Tagged k t i h) (part_lt (decryption Tag32 k t (encryption Tagged k t i)) 0 τ);
    first = λ i h. opens (encryption Tagged k t i) (encryption_lt Tagged k t i h) ∙ ap Some (encryption_undone Tagged k t i h);
    second = λ s i _ e. tagged_second s i e;
  }

-- ---- check bits inside the block
low_part : (x : ℕ) → x < 2 ^ 32 → part x 0 32 ≡ x
low_part x h = ap (λ (z : ℕ). z % 2 ^ 32) (div-one x) ∙ mod-eq_of_lt h

top_part : (x : ℕ) → x < 2 ^ 32 → part x 32 8 ≡ 0
top_part x h = ap (λ (z : ℕ). z % 2 ^ 8) (high_zero x 32 32 h (omega arith))

no_top : (x : ℕ) → x < 2 ^ 40 → part x 32 8 ≡ 0 → x < 2 ^ 32
no_top x h e =
    let a : x / 2 ^ 32 ≡ 0 = sym (mod-eq_of_lt (shr_below x 8 32 h)) ∙ e in
    omega (arith, shr_split x 32, a, mod_below x (2 ^ 32) (omega arith))

module _ (k t : ℕ) where
  wide : (i : ℕ) → i < 2 ^ 32 → i < 2 ^ 40
  wide i h = omega arith

  block_first : (i : ℕ) → i < 2 ^ 32 → opened k Block 8 t (chilow k Block 8 t i) ≡ Some i
  unfolding opened chilow
  block_first i h =
      ap (λ (a : ℕ). cond (nat_lt (encryption Block k t i) (2 ^ 40) && part a 32 8 == 0) (Some (part a 0 32)) None) (encryption_undone Block k t i (wide i h))
      ∙ cond-true _ _ _ (and_from _ _ (lt-ltb _ _ (encryption_lt Block k t i (wide i h))) (eq-eqb (part i 32 8) 0 (top_part i h)))
      ∙ ap Some (low_part i h)

  block_second : (s i : ℕ) → opened k Block 8 t s ≡ Some i → (i < 2 ^ 32) × (s ≡ chilow k Block 8 t i)
  unfolding opened chilow
  block_second s i e =
      let d : ℕ = decryption Data40 k t s in
      let p = let_through (nat_lt s (2 ^ 40) && part d 32 8 == 0) (part d 0 32) i e in
      let q = and_parts (nat_lt s (2 ^ 40)) (part d 32 8 == 0) p.0 in
      let small : d < 2 ^ 32 = no_top d (decryption_lt Data40 k t s) (eqb-true (part d 32 8) 0 q.1) in
      let same : d ≡ i = sym (low_part d small) ∙ p.1 in (
        subst (λ (z : ℕ). z < 2 ^ 32) same small,
        sym (ap (encryption Block k t) (sym same) ∙ encryption_undoes Block k t s (ltb-true s (2 ^ 40) q.0)),
      )

  block_laws : Laws (chilow k Block 8 t) (opened k Block 8 t) 8
  unfolding chilow
  block_laws = record {
    small = λ i h. encryption_lt Block k t i (wide i h);
    first = block_first;
    second = λ s i _ e. block_second s i e;
  }

-- ---- both modes
pub opened_laws : (k : ℕ) (m : Mode) (τ t : ℕ) → fits_mode m τ ≡ true → Laws (chilow k m τ t) (opened k m τ t) τ
opened_laws k Tagged τ t h = tagged_laws k τ t
opened_laws k Block τ t h = subst (λ (z : ℕ). Laws (chilow k Block z t) (opened k Block z t) z) (sym (eqb-true τ 8 h)) (block_laws k t)

pub chilow-lawful : (m : Mode) (τ : ℕ) → fits_mode m τ ≡ true → Lawful chilow m τ
chilow-lawful m τ h k t _ _ = laws_derived (chilow k m τ t) (opened k m τ t) τ (opened_laws k m τ t h)

pub opened_is : (k : ℕ) (m : Mode) (τ t : ℕ) → fits_mode m τ ≡ true → (s : ℕ) → s < 2 ^ 64 → opened k m τ t s ≡ decrypted (chilow k m τ t) s
opened_is k m τ t h = laws_fix_decryption (chilow k m τ t) (opened k m τ t) τ (opened_laws k m τ t h)
