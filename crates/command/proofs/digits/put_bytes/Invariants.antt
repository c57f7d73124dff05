use Rattle.std.proofs.Common.{◌≡◌, ◌*◌, ◌≤◌, length, take, drop}
use Rattle.command.specs.Digits.{bytes_up_to}
use Rattle.command.proofs.digits.put_bytes.Given as goal

abbrev pub invariant-loop-index : goal.invariant-loop-index
invariant-loop-index l = record {
  count : l.index-iterator.count ≡ length l.yielded;
  size : l.index-iterator.iter.size ≡ 2;
  rest : l.index-iterator.iter.rest.now ≡ drop (2 * length l.yielded) l.word;
  within : 2 * length l.yielded ≤ length l.word;
  bytes : take (length l.yielded) l.buffer ≡ bytes_up_to l.word (length l.yielded);
  spared : drop (length l.yielded) l.buffer ≡ drop (length l.yielded) l.initial.buffer;
}
