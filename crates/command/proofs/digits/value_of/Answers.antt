use Rattle.std.proofs.Common.{sym, arith, lit<, rules}
use Rattle.std.proofs.Math.Nat.{pow-le-pow_right}
use Rattle.command.proofs.Hex.{hex_more, hex_none, hex_small}
use Rattle.command.proofs.digits.value_of.Goals as goal

pub loop-byte-init : goal.loop-byte-init
loop-byte-init c = (sym (hex_none c.args.word.now), lit< tt)

pub overflow_mul-value : goal.overflow_mul-value
overflow_mul-value c = omega (arith, c.loop-byte.invariant.1, pow-le-pow_right {n = 16} (lit< tt) {i = c.loop-byte.byte-index} {j = 31} (omega arith))

pub overflow_add-value : goal.overflow_add-value
overflow_add-value c = omega (arith, c.loop-byte.invariant.1, c.digit_of.ensures.small, pow-le-pow_right {n = 16} (lit< tt) {i = c.loop-byte.byte-index} {j = 31} (omega arith))

pub loop-byte-preserved : goal.loop-byte-preserved
loop-byte-preserved c = (cc (hex_more c.args.word.now c.loop-byte.byte-index), hex_small _ _ c.loop-byte.byte-index c.loop-byte.invariant.1 (search rules))
