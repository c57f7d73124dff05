use Rattle.std.proofs.Common.{refl, arith}
use Rattle.shore.specs.Drafting.{keyed_by}
use Rattle.shore.proofs.Listing.{reached_more}
use Rattle.shore.proofs.list.put_all.Goals as goal

pub loop-instruction-preserved : goal.loop-instruction-preserved
loop-instruction-preserved g c =
    let l = c.loop-instruction in
    let a = c.args in
    reached_more (keyed_by g.C.WordCipher a.cipher.now) a.instructions.now a.draft a.buffer.now l.instruction-index l.draft l.buffer
    _ c.in_ok-draft.draft c.put.new.buffer (omega arith) refl l.invariant c.in_ok-draft.ensures
