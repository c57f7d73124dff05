use Rattle.std.proofs.Common.{◌≡◌, ◌^◌, ◌<◌}
use Rattle.command.specs.Digits.{hex_of}
use Rattle.command.proofs.digits.value_of.Given as goal

abbrev pub invariant-loop-byte : goal.invariant-loop-byte
invariant-loop-byte l = (l.value ≡ hex_of l.word l.byte-index) × (l.value < 16 ^ l.byte-index)
