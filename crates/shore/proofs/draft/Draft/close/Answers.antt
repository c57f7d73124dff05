use Rattle.shore.proofs.Making.{made_is_image}
use Rattle.shore.proofs.draft.Draft.close.Goals as goal

pub returns : goal.returns
returns c = record { answer = c.finish.ensures; image = made_is_image }
