use Rattle.std.proofs.Common.{◌≡◌, ℕ, get_or, ap, ◌∙◌, arith}
use Rattle.schedule.specs.Schedule.{mask, tweak_round, tweak_after, tweak_mask}
use Rattle.schedule.proofs.Tables.{filled_more, filled_last, filled_next}
use Rattle.schedule.proofs.tweak.tweak_schedule.Goals as goal

pub loop-i-preserved : goal.loop-i-preserved
unfolding tweak_after
loop-i-preserved c =
    let i : ℕ = c.loop-i.i in
    let w : ℕ = c.args.keys.now.tweak in
    let ws : ℕ → ℕ = λ (k : ℕ). get_or c.args.keys.now.rounds k 0 in
    let f : ℕ → ℕ = tweak_after w ws c.args.tweak in
    let last : get_or c.loop-i.states i 0 ≡ f i = filled_last f 9 c.loop-i.states i c.loop-i.invariant.0 in (
      filled_next f 9 c.loop-i.states i _ (omega arith)
          (c.tweak_round-turn.ensures.next ∙ ap (λ (u : ℕ). tweak_round i u (ws i)) last) c.loop-i.invariant.0,
      filled_more (tweak_mask w ws c.args.tweak) 8 c.loop-i.mask-items i _ (omega arith)
          (c.tweak_round-turn.ensures.mask ∙ ap (mask i) last) c.loop-i.invariant.1,
    )
