use Rattle.std.proofs.Common.{arith}
use Rattle.std.proofs.lemmas.Bool.Decides.{nat_tests}
use Rattle.parts.proofs.Lays.{arranged_read}
use Rattle.parts.proofs.arranged.ArrangedMemory.read.Goals as goal

pub returns : goal.returns
returns g c =
    let first = c.args.self.now.first in
    arranged_read g.A.Arrangement g.met.A.Arrangement.arranges (g.F.Memory.held first) (g.S.Memory.held c.args.self.now.second)
    c.slots-2.result c.args.slot c.place-place.result c.read_at.result
    c.read_at.ensures c.place-place.ensures c.slots-2.ensures (g.met.F.Memory.sound first).few (grind (arith, nat_tests))
