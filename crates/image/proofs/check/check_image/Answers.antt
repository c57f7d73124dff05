use Rattle.image.proofs.Laying.{layout_is_read, only_layout_is_read}
use Rattle.image.proofs.check.check_image.Goals as goal

pub returns-clause-laid : goal.returns-clause-laid
returns-clause-laid c = layout_is_read

pub returns-clause-only : goal.returns-clause-only
returns-clause-only c = only_layout_is_read
