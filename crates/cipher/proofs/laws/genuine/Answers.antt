use Rattle.cipher.proofs.Fixed.{laws_fix_decryption}
use Rattle.cipher.proofs.laws.genuine.Goals as goal

pub returns-clause-fixed : goal.returns-clause-fixed
returns-clause-fixed g c = laws_fix_decryption
