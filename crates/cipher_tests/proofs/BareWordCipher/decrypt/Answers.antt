use Rattle.std.proofs.Common.{◌∙◌, arith}
use Rattle.cipher.specs.declared.Mode.TheVariants.{Tagged}
use Rattle.cipher.proofs.Fixed.{laws_fix_decryption}
use Rattle.cipher_tests.specs.Bare.{bare, bare_opened}
use Rattle.cipher_tests.specs.Lawful.{bare_laws}
use Rattle.cipher_tests.proofs.BareWordCipher.decrypt.Goals as goal

pub returns : goal.returns
returns c =
    c.opened.ensures
    ∙ laws_fix_decryption (bare c.args.self.now.key Tagged 8 c.args.tweak) bare_opened 8 (bare_laws c.args.self.now.key c.args.tweak) c.args.stored (omega arith)
