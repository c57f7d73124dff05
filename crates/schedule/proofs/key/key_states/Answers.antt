use Rattle.std.proofs.Common.{ℕ, cond, sym, ap, ◌∙◌, arith}
use Rattle.schedule.specs.Schedule.{inner, key_round}
use Rattle.schedule.proofs.Tables.{filled_more, key_after_next}
use Rattle.schedule.proofs.key.key_states.Goals as goal

pub loop-i-preserved : goal.loop-i-preserved
loop-i-preserved c =
    let now = c.loop-i.invariant.0 in (
      c.key_step-state.ensures ∙ ap (λ (s : ℕ). cond (inner c.loop-i.i) (key_round c.args.mode c.loop-i.i s) s) now
          ∙ sym (key_after_next c.args.mode c.args.key c.loop-i.i),
      filled_more _ 9 _ c.loop-i.i _ (omega arith) now c.loop-i.invariant.1,
    )
