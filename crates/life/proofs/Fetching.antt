-- When the row of checks of a fetch yields an instruction.
use Rattle.std.proofs.Common.{◌≡◌, ℕ, ◌+◌, ◌-◌, ◌*◌, ◌/◌, ◌%◌, ◌<◌, Bool, true, false, cond, eqb, ltb, leb, get_or, Some, None, Option, refl, ap, ◌∙◌, arith, ltb-true, lt-ltb, eq-eqb, eqb-true, le-leb, leb-true}
use Rattle.std.proofs.lemmas.Bool.{and_parts, and_from}
use Rattle.refusal.specs.declared.Refusal.{Refusal}
use Rattle.refusal.specs.declared.Refusal.TheVariants.{Odd, OffMap}
use Rattle.life.specs.declared.Answer.{Answer}
use Rattle.life.specs.declared.Answer.TheVariants.{Instruction, Refused}
use Rattle.life.specs.declared.Call.TheVariants.{Fetch}
use Rattle.life.specs.Coding.{Coding, opened_at, tells}
use Rattle.life.specs.Coding.Told.{yielded}
use Rattle.life.specs.Checks.{Program, Known, on_map, slot_of, decoded, fetch_answer, row_by, row_of}

pub record Fetching (c : Coding) (K : Known) (a i : ℕ) : Type 0 where
  pub key : ℕ
  pub keyed : K.key ≡ Some key
  pub program : Program
  pub installed : K.program ≡ Some program
  pub slot : ℕ
  pub address : a ≡ 4 * (program.base + slot)
  pub within : slot < program.count
  pub opened : opened_at c key program.version a (get_or K.held slot 0) ≡ Some i

only : (b : Bool) (x : Answer) (e : Refusal) (i : ℕ) → tells (cond b x (Refused e)) ≡ yielded i → (b ≡ true) × (tells x ≡ yielded i)
only true x e i q = (refl, q)
only false x e i q = absurd cc

decodes : (o : Option ℕ) (a i : ℕ) → tells (decoded o a) ≡ yielded i → o ≡ Some i
decodes (Some j) a i e = let q : j ≡ i = cc in ap Some q
decodes None a i e = absurd cc

module _ (c : Coding) (K : Known) (a i : ℕ) where
  at : (k : ℕ) → K.key ≡ Some k → (P : Option Program) → K.program ≡ P → a % 4 ≡ 0 → tells (fetch_answer c k P K.held a) ≡ yielded i → Fetching c K a i
  at k ek None ep m e = absurd cc
  at k ek (Some p) ep m e =
      let o = only (on_map p a) (decoded (opened_at c k p.version a (get_or K.held (slot_of p a) 0)) a) (OffMap a) i e in
      let b = and_parts (leb p.base (a / 4)) (ltb (a / 4 - p.base) p.count) o.0 in
      let low = leb-true p.base (a / 4) b.0 in
      record {
        key = k;
        keyed = ek;
        program = p;
        installed = ep;
        slot = slot_of p a;
        address = omega arith;
        within = ltb-true (a / 4 - p.base) p.count b.1;
        opened = decodes (opened_at c k p.version a (get_or K.held (slot_of p a) 0)) a i o.1;
      }

  by_key : (o : Option ℕ) → K.key ≡ o → tells (row_by o c K (Fetch a)) ≡ yielded i → Fetching c K a i
  by_key None q e = absurd cc
  by_key (Some k) q e =
      let o = only (eqb (a % 4) 0) (fetch_answer c k K.program K.held a) (Odd a) i e in
      at k q K.program refl (eqb-true (a % 4) 0 o.0) o.1

  pub fetching_from : tells (row_of c K (Fetch a)) ≡ yielded i → Fetching c K a i
  fetching_from e = by_key K.key refl e

  pub fetched_from : Fetching c K a i → row_of c K (Fetch a) ≡ Instruction i
  fetched_from f =
      let p = f.program in
      let where-is : a ≡ 4 * (p.base + f.slot) = f.address in
      let m : eqb (a % 4) 0 ≡ true = eq-eqb (a % 4) 0 (omega arith) in
      let low : leb p.base (a / 4) ≡ true = le-leb p.base (a / 4) (omega arith) in
      let j : a / 4 - p.base ≡ f.slot = omega arith in
      let high : ltb (a / 4 - p.base) p.count ≡ true = ap (λ (z : ℕ). ltb z p.count) j ∙ lt-ltb f.slot p.count f.within in
      ap (λ (o : Option ℕ). row_by o c K (Fetch a)) f.keyed
      ∙ ap (λ (b : Bool). cond b (fetch_answer c f.key K.program K.held a) (Refused (Odd a))) m
      ∙ ap (λ (P : Option Program). fetch_answer c f.key P K.held a) f.installed
      ∙ ap (λ (b : Bool). cond b (decoded (opened_at c f.key p.version a (get_or K.held (slot_of p a) 0)) a) (Refused (OffMap a))) (and_from _ _ low high)
      ∙ ap (λ (z : ℕ). decoded (opened_at c f.key p.version a (get_or K.held z 0)) a) j
      ∙ ap (λ (o : Option ℕ). decoded o a) f.opened
