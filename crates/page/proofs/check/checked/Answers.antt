use Rattle.std.proofs.Common.{rules}
use Rattle.page.proofs.Trying.{tried, tried_sealed}
use Rattle.page.proofs.check.checked.Goals as goal

pub returns-in_err-sealed-clause-refusal : goal.returns-in_err-sealed-clause-refusal
returns-in_err-sealed-clause-refusal g c = rw (tried g.C.WordCipher c.args.cipher.now c.args.image.now c.args.first c.args.length) (search rules)

pub returns-in_err-check_shown-clause-refusal : goal.returns-in_err-check_shown-clause-refusal
returns-in_err-check_shown-clause-refusal g c =
    rw (tried_sealed g.C.WordCipher c.args.cipher.now c.args.image.now c.args.first c.args.length c.in_ok-sealed.sealed (search rules) (search rules)) (search rules)

pub returns-clause-refusal : goal.returns-clause-refusal
returns-clause-refusal g c =
    rw (tried_sealed g.C.WordCipher c.args.cipher.now c.args.image.now c.args.first c.args.length c.in_ok-sealed.sealed (search rules) (search rules)) (search rules)
