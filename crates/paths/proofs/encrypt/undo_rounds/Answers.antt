use Rattle.std.proofs.Common.{ℕ, get_or, sym, ap, ◌∙◌, arith}
use Rattle.paths.specs.Encryption.{data_before}
use Rattle.paths.proofs.Undoing.{before_fewer}
use Rattle.paths.proofs.encrypt.undo_rounds.Goals as goal

pub loop-i-preserved : goal.loop-i-preserved
loop-i-preserved c =
    let next = c.in-Some.ensures.steps in
    let left = c.loop-i.invariant in
    let fewer =
    before_fewer c.args.mode c.args.masks.now _ _ c.in-Some.mask.now c.in-Some.i c.loop-i.state c.undo_round-state.result
    next.1.0 (omega arith) c.undo_round-state.ensures left.1 in
    (next.0 ∙ left.0, fewer.0, fewer.1 ∙ left.2)

pub returns : goal.returns
unfolding data_before
returns c =
    ap (data_before c.args.mode (λ (k : ℕ). get_or c.args.masks.now k 0) c.loop-i.state) (sym c.in-None.ensures.steps.1.0) ∙ c.loop-i.invariant.2
