use Rattle.command.specs.Lines.{meaning}
use Rattle.command.proofs.Lasting.{lasts, sessions_last}
use Rattle.command.proofs.step.answer_line.Goals as goal

pub returns : goal.returns
returns g c =
    let C = g.C.WordCipher in
    let M = g.M.Memory in
    let before = c.args.unit.now in
    let after = c.do_line.new.unit in
    let what = meaning c.args.line.now in
    let did = c.do_line.ensures.did in
    record {
      did = did;
      life = lasts C M before after what c.do_line.result did;
      sessions = sessions_last C M;
      rest = c.do_line.ensures.rest;
    }
