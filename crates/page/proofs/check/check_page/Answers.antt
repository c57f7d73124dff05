use Rattle.std.proofs.Common.{arith}
use Rattle.shore.specs.Drafting.{keyed_by}
use Rattle.page.proofs.PutIn.{refused_only_past_end}
use Rattle.page.proofs.check.check_page.Goals as goal

pub returns-clause-made : goal.returns-clause-made
returns-clause-made g c =
    let x = c.args.cipher.now in
    let law = g.met.C.WordCipher in
    refused_only_past_end (keyed_by g.C.WordCipher x) (law.fitting x) (law.lawful x) (law.keyed x) c.args.image.now (λ i. omega (arith, c.type_inv.image i)) c.args.first c.args.length
