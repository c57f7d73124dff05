use Rattle.std.proofs.Common.{arith, ◌∙◌}
use Rattle.life.specs.declared.Call.TheVariants.{Load}
use Rattle.life.proofs.Pasts.{lived_more}
use Rattle.unit.proofs.run.run.Goals as goal

pub loop-n-preserved : goal.loop-n-preserved
loop-n-preserved g c =
    let so_far = c.loop-n.invariant in
    let done = c.perform.ensures in
    let place = c.in-Some.ensures.lookup.3 in
    record {
      lived = lived_more so_far.lived c.in-Some.call.now c.perform.result place.0 (omega (arith, c.loop-n-test.true)) (place.1 (Load 0)) done.life done.did.machine.suite;
      kept = record { suite = done.did.machine.suite ∙ so_far.kept.suite; rest = done.did.rest ∙ so_far.kept.rest };
    }
