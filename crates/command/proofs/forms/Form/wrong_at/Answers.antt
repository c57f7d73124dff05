use Rattle.std.proofs.Common.{length, rules}
use Rattle.command.specs.Forms.{allows_at}
use Rattle.command.proofs.First.{first_bad_is}
use Rattle.command.proofs.forms.Form.wrong_at.Goals as goal

pub returns-clause-is : goal.returns-clause-is
returns-clause-is c =
    first_bad_is (allows_at c.args.self c.args.line.now) (length c.args.line.now) c.unwrap_or.result (search rules) (λ k l. search rules) (λ l. search rules)
