use Rattle.std.proofs.Common.{◌-◌, ap, ◌∙◌, inl, inr, ⊎_elim, arith}
use Rattle.bits.specs.Number.{bit}
use Rattle.layers.specs.Inverse.{Pair, walk}
use Rattle.layers.proofs.Walks.{walk_more}
use Rattle.layers.proofs.States.{inside_more}
use Rattle.layers.proofs.nonlinear.State.with_walk.Goals as goal

pub loop-i-preserved : goal.loop-i-preserved
loop-i-preserved c =
    let y = bit c.args.self.bits in
    let l = c.loop-i in
    let more = walk_more y l.i c.args.high c.args.pair l.pair c.step-pair.result (omega arith) l.auto.i l.invariant.walked c.step-pair.ensures in
    record {
      above = omega arith;
      walked = more;
      inside = inside_more (λ j. (walk y j (c.args.high - j) c.args.pair).0) l.r c.with_bit-r.result l.i c.args.high c.step-pair.result.0
          (omega arith) (omega arith) c.with_bit-r.ensures (ap (λ (p : Pair). p.0) more) l.invariant.inside;
      outside = λ j out.
          c.with_bit-r.ensures.others j (⊎_elim (λ k. omega arith) (λ k. omega arith) out)
          ∙ l.invariant.outside j (⊎_elim (λ k. inl (omega arith)) (λ k. inr k) out);
    }
