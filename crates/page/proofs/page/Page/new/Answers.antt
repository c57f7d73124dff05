use Rattle.std.proofs.Common.{arith}
use Rattle.shore.specs.Drafting.{keyed_by}
use Rattle.page.proofs.PutIn.{shows_decryptions, shows_what_was_put_in}
use Rattle.page.proofs.page.Page.new.Goals as goal

pub returns-clause-opens : goal.returns-clause-opens
returns-clause-opens g c =
    shows_decryptions (keyed_by g.C.WordCipher c.args.cipher.now) c.args.image.now c.args.first c.fill.new.words c.args.words.now c.fill.auto.words c.fill.ensures

pub returns-clause-made : goal.returns-clause-made
returns-clause-made g c =
    let x = c.args.cipher.now in
    let law = g.met.C.WordCipher in
    shows_what_was_put_in (keyed_by g.C.WordCipher x) (law.fitting x) (law.lawful x) (law.keyed x) c.args.image.now (λ i. omega (arith, c.type_inv.image i))
    c.args.first c.fill.new.words c.args.words.now c.fill.auto.words c.fill.ensures
