use Rattle.bits.proofs.Writing.{part_written}
use Rattle.bits.proofs.field.Span.write.Goals as goal

pub returns-then-self-end : goal.returns-then-self-end
returns-then-self-end c =
    let s = c.args.self in
    part_written c.args.bytes.now c.to_be_bytes.result c.copy_from_slice.new.self s.first s.end c.min-end.result c.args.number
    s.few c.if-self-end.true c.min-end.ensures c.to_be_bytes.ensures c.copy_from_slice.ensures.after
