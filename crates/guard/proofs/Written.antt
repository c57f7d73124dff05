-- What follows from ChiLow's encryption rule is the published decryption, for every number.
use Rattle.std.proofs.Common.{◌≡◌, ℕ, ◌+◌, ◌^◌, ◌<◌, ◌≤◌, Bool, true, false, cond, ◌&&◌, ltb, List, Some, None, Option, sym, refl, ap, ◌∙◌, subst, ⊎_elim, arith, pow_mono, le-ltb}
use Rattle.std.proofs.lemmas.Bool.{cases_lt}
use Rattle.cipher.specs.declared.Mode.{Mode}
use Rattle.cipher.specs.declared.Mode.TheVariants.{Tagged, Block}
use Rattle.cipher.specs.Word.{fits_mode, decrypted}
use Rattle.cipher.proofs.Fixed.{decrypted_is}
use Rattle.chilow.specs.Words.{chilow, opened}
use Rattle.chilow.specs.Sealing.{opened_laws, opened_is}
use Rattle.image.proofs.Laying.{tag_most}
use Rattle.life.specs.declared.Answer.{Answer}
use Rattle.life.specs.declared.Call.{Call}
use Rattle.life.specs.Coding.{Coding, coding}
use Rattle.life.specs.Life.{Life}
use Rattle.life.specs.State.{State}
use Rattle.guard.specs.Published.{published}

shut : (a b : Bool) (x : Option ℕ) → a ≡ false → cond (a && b) x None ≡ None
shut a b x e = ap (λ (z : Bool). cond (z && b) x None) e

module _ (m : Mode) (τ : ℕ) (fits : fits_mode m τ ≡ true) where
  narrow : 2 ^ (32 + τ) ≤ 2 ^ 48
  narrow = let n : 32 + τ ≤ 48 = omega (arith, tag_most m τ fits) in pow_mono n

  -- a number too wide for a word decrypts to nothing, by the rule and as published
  too_wide : (k t s : ℕ) → 2 ^ 64 ≤ s → decrypted (chilow k m τ t) s ≡ None
  too_wide k t s l = by (decrypted (chilow k m τ t) s) refl
    where
      by : (o : Option ℕ) → decrypted (chilow k m τ t) s ≡ o → o ≡ None
      by None e = refl
      by (Some i) e =
          let f = decrypted_is (chilow k m τ t) s i e in
          let small = (opened_laws k m τ t fits).small i f.0 in
          let n = narrow in
          absurd (omega (arith, f.1))

  not_opened : (k t s : ℕ) → 2 ^ 64 ≤ s → opened k m τ t s ≡ None
  unfolding opened
  not_opened k t s l = by m (le-ltb s (2 ^ (32 + τ)) (let n = narrow in omega arith))
    where
      by : (m : Mode) → ltb s (2 ^ (32 + τ)) ≡ false → opened k m τ t s ≡ None
      by Tagged e = shut _ _ _ e
      by Block e = shut _ _ _ e

  all_opened : (k t s : ℕ) → decrypted (chilow k m τ t) s ≡ opened k m τ t s
  all_opened k t s =
      ⊎_elim (λ (l : s < 2 ^ 64). sym (opened_is k m τ t fits s l)) (λ (l : 2 ^ 64 ≤ s). too_wide k t s l ∙ sym (not_opened k t s l)) (cases_lt s (2 ^ 64))

  pub written_in : coding (record { rule = chilow; mode = m; tag = τ }) ≡ published m τ
  written_in = λ z. record { rule = chilow; mode = m; tag = τ; decrypt = λ k t s. all_opened k t s z }

  pub published_life : {first : ℕ} {start : List ℕ} {calls : List Call} {before answers : List Answer} {s : State}
      → Life (coding (record { rule = chilow; mode = m; tag = τ })) first start calls before answers s
      → Life (published m τ) first start calls before answers s
  published_life {first} {start} {calls} {before} {answers} {s} life =
      subst (λ (c : Coding). Life c first start calls before answers s) written_in life
