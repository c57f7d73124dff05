use Rattle.std.proofs.Common.{◌∙◌}
use Rattle.chilow.specs.Sealing.{opened_by_lem}
use Rattle.chilow.proofs.word_cipher.ChiLow.open.Goals as goal

pub returns : goal.returns
returns c =
    let s = c.args.self.now in
    (rw (c.under.ensures.schedules, c.under.ensures.mode, c.under.ensures.tag) at c.open.ensures)
    ∙ opened_by_lem s.mode s.key s.tag_bits c.args.tweak c.args.stored
