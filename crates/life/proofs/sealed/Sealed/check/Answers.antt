use Rattle.std.proofs.Common.{◌≡◌, ℕ, ◌-◌, refl, ap, ◌∙◌, Some, arith, rules}
use Rattle.refusal.specs.declared.Refusal.TheVariants.{FoulRecord}
use Rattle.life.specs.Checks.{foul_from}
use Rattle.life.specs.Records.{opens}
use Rattle.life.proofs.Foul.{foul_here, foul_later, foul_nowhere}
use Rattle.life.proofs.sealed.Sealed.check.Goals as goal

pub loop-index-init : goal.loop-index-init
loop-index-init g c =
    let yield_at = opens g.C.WordCipher c.args.self.now in
    let given = c.into_iter-index-iterator.ensures.into_iter_gives in
    let start : c.into_iter-index-iterator.result.start ≡ c.args.records.start = search (rules, given) in
    let come = ap (λ (k : ℕ). foul_from yield_at k (c.args.records.end - k)) start in
    record { come = come; same = refl; within = search (rules, given, arith); over = foul_nowhere yield_at _ c.args.records.end _ come }

pub returns-then-is_none : goal.returns-then-is_none
returns-then-is_none g c =
    let yield_at = opens g.C.WordCipher c.args.self.now in
    let steps = c.in-Some.ensures.steps in
    let so_far = c.loop-index.invariant in
    ap (λ (k : ℕ). Some (FoulRecord k)) steps.1.1
    ∙ foul_here yield_at c.loop-index.index-iterator.start c.args.records.end _ so_far.come
    c.open.result (omega (arith, steps.1.0, so_far.within)) (c.open.ensures ∙ ap yield_at steps.1.1) c.if-is_none.ensures

pub loop-index-preserved : goal.loop-index-preserved
loop-index-preserved g c =
    let yield_at = opens g.C.WordCipher c.args.self.now in
    let steps = c.in-Some.ensures.steps in
    let so_far = c.loop-index.invariant in
    let later = foul_later yield_at c.loop-index.index-iterator.start c.args.records.end _ so_far.come
    c.open.result (omega (arith, steps.1.0, so_far.within)) (c.open.ensures ∙ ap yield_at steps.1.1) c.if-is_none.ensures in
    let come = ap (λ (k : ℕ). foul_from yield_at k (c.args.records.end - k)) steps.1.2 ∙ later in
    record { come = come; same = steps.0 ∙ so_far.same; within = omega (arith, steps.0, so_far.within); over = foul_nowhere yield_at _ c.args.records.end _ come }
