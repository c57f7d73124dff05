use Rattle.shore.specs.Drafting.{keyed_by}
use Rattle.shore.proofs.Listing.{Reached}
use Rattle.shore.proofs.list.put_all.Given as goal

abbrev pub invariant-loop-instruction : goal.invariant-loop-instruction
invariant-loop-instruction g l =
    let w = g.C.WordCipher in
    Reached (keyed_by w l.cipher) l.instructions l.initial.draft l.initial.buffer l.instruction-index l.draft l.buffer
