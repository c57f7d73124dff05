use Rattle.std.proofs.Common.{ℕ, get_or, ap, ◌∙◌, arith}
use Rattle.schedule.proofs.Tables.{filled_next, filled_last}
use Rattle.paths.specs.Data.{data_round, data_after}
use Rattle.paths.proofs.data.data_states.Goals as goal

pub loop-i-preserved : goal.loop-i-preserved
unfolding data_after
loop-i-preserved c =
    let f : ℕ → ℕ = data_after c.args.path (λ (k : ℕ). get_or c.args.masks.now k 0) c.args.x in
    filled_next f 9 c.loop-i.states c.loop-i.i c.data_round.result (omega arith)
    (c.data_round.ensures
    ∙ ap (λ (s : ℕ). data_round c.args.path c.loop-i.i s (get_or c.args.masks.now c.loop-i.i 0)) (filled_last f 9 c.loop-i.states c.loop-i.i c.loop-i.invariant))
    c.loop-i.invariant
