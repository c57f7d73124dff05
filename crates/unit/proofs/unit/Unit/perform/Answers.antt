use Rattle.unit.specs.View.{suite_of, state_of}
use Rattle.life.proofs.Stepping.{step}
use Rattle.unit.proofs.unit.Unit.perform.Goals as goal

pub returns-clause-life : goal.returns-clause-life
returns-clause-life g c =
    let C = g.C.WordCipher in
    let M = g.M.Memory in
    let cipher = c.args.self.now.core.cipher in
    step (suite_of C cipher) (g.met.C.WordCipher.lawful cipher) (g.met.C.WordCipher.fitting cipher)
    (state_of C M c.args.self.now) (g.met.C.WordCipher.keyed cipher) (g.met.M.Memory.sound c.args.self.now.memory) _ _ _ _ c.decide.ensures.machine
