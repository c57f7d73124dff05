use Rattle.chips.proofs.Bytes.{packed_whole}
use Rattle.chips.proofs.packed.Packed.into_chip.Goals as goal

pub returns-clause-whole : goal.returns-clause-whole
returns-clause-whole c = packed_whole _ c.args.self.in_range
