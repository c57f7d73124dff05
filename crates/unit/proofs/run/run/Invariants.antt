use Rattle.life.proofs.Pasts.{Lived}
use Rattle.unit.specs.View.{suite_of, state_of, Keeps}
use Rattle.unit.proofs.run.run.Given as goal

abbrev pub invariant-loop-n : goal.invariant-loop-n
invariant-loop-n g l =
    let C = g.C.WordCipher in
    let M = g.M.Memory in
    record {
      lived : Lived (suite_of C l.fn.cipher) (C.key_of l.fn.cipher) (M.held l.fn.memory) l.calls l.fn.answers l.answers l.n (suite_of C l.unit.core.cipher) (state_of C M l.unit);
      kept : Keeps C M l.fn.cipher l.fn.memory l.unit;
    }
