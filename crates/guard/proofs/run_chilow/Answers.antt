use Rattle.guard.proofs.Written.{published_life}
use Rattle.guard.proofs.run_chilow.Goals as goal

pub returns-clause-life : goal.returns-clause-life
returns-clause-life g c = published_life c.args.cipher.mode c.args.cipher.tag_bits c.args.cipher.fits c.perform_all.ensures.life
