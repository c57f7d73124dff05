use Rattle.chips.proofs.Bytes.{high_whole, low_whole}
use Rattle.chips.proofs.paired.Paired.into_chips.Goals as goal

pub returns-clause-whole_high : goal.returns-clause-whole_high
returns-clause-whole_high c = high_whole _ _ c.args.self.high_in_range

pub returns-clause-whole_low : goal.returns-clause-whole_low
returns-clause-whole_low c = low_whole _ _ c.args.self.low_in_range
