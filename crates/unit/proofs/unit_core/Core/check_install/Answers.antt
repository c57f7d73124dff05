use Rattle.std.proofs.Common.{rules}
use Rattle.unit.proofs.Installing.{tried, tried_by}
use Rattle.unit.proofs.unit_core.Core.check_install.Goals as goal

pub returns-in_err-sealed-clause-refusal : goal.returns-in_err-sealed-clause-refusal
returns-in_err-sealed-clause-refusal g c = rw (tried g.C.WordCipher c.args.self.now c.args.slots c.args.image.now) (search rules)

pub returns-in_err-check_sealed-clause-refusal : goal.returns-in_err-check_sealed-clause-refusal
returns-in_err-check_sealed-clause-refusal g c =
    rw (tried_by g.C.WordCipher c.args.self.now c.args.slots c.args.image.now c.in_ok-sealed.sealed (search rules) (search rules)) (search rules)

pub returns-clause-refusal : goal.returns-clause-refusal
returns-clause-refusal g c =
    rw (tried_by g.C.WordCipher c.args.self.now c.args.slots c.args.image.now c.in_ok-sealed.sealed (search rules) (search rules)) (search rules)
