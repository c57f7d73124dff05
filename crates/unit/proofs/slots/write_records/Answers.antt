use Rattle.std.proofs.Common.{◌+◌, ◌∙◌, arith}
use Rattle.image.specs.Reading.{head_of}
use Rattle.life.proofs.Writing.{record_written, all_written}
use Rattle.unit.proofs.slots.write_records.Goals as goal

pub loop-index-preserved : goal.loop-index-preserved
loop-index-preserved g c =
    let M = g.M.Memory in
    let a = c.args in
    let held = M.held c.write_record.new.memory in
    let start = M.held a.memory.now in
    let i = c.loop-index.index in
    let done = c.write_record.ensures in
    let more = done.after ∙ record_written a.image.now (head_of a.header.now) start (M.held c.loop-index.memory) i a.header.now.fits done.inside c.requires c.loop-index.invariant.0 in
    (more, done.kept ∙ c.loop-index.invariant.1, λ l. all_written a.image.now (head_of a.header.now) start held (i + 1) (omega (arith, done.inside)) more)
