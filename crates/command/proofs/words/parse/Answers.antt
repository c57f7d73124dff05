use Rattle.command.proofs.Law.{judged}
use Rattle.command.proofs.words.parse.Goals as goal

pub returns-in_err-form-clause-law : goal.returns-in_err-form-clause-law
returns-in_err-form-clause-law c = judged c.args.line.now

pub returns-clause-law : goal.returns-clause-law
returns-clause-law c = judged c.args.line.now
