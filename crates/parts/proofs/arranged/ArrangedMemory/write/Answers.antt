use Rattle.std.proofs.Common.{arith}
use Rattle.std.proofs.lemmas.Bool.Decides.{nat_tests}
use Rattle.parts.proofs.Lays.{arranged_write}
use Rattle.parts.proofs.arranged.ArrangedMemory.write.Goals as goal

pub returns-clause-after : goal.returns-clause-after
returns-clause-after g c =
    let first = c.args.self.now.first in
    arranged_write g.A.Arrangement g.met.A.Arrangement.arranges (g.F.Memory.held first) (g.S.Memory.held c.args.self.now.second)
    (g.F.Memory.held c.write_at.new.first) (g.S.Memory.held c.write_at.new.second) c.slots-2.result c.args.slot c.args.number c.place-place.result
    c.write_at.ensures.first c.write_at.ensures.second c.place-place.ensures c.slots-2.ensures (g.met.F.Memory.sound first).few
    (grind (arith, nat_tests)) (grind (arith, nat_tests))
