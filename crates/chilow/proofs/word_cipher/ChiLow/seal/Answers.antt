use Rattle.std.proofs.Common.{◌≡◌, sym, ap, ◌∙◌, arith}
use Rattle.chilow.specs.Words.{chilow, opened}
use Rattle.chilow.specs.Sealing.{stored_by_lem, opened_laws}
use Rattle.chilow.proofs.word_cipher.ChiLow.seal.Goals as goal

pub returns : goal.returns
returns c =
    let s = c.args.self.now in
    let laws = opened_laws s.key s.mode s.tag_bits c.args.tweak s.fits in
    let is : c.store.result ≡ chilow s.key s.mode s.tag_bits c.args.tweak c.args.instruction =
    (rw (c.under.ensures.schedules, c.under.ensures.mode, c.under.ensures.tag) at c.store.ensures)
    ∙ stored_by_lem s.mode s.key s.tag_bits c.args.tweak c.args.instruction in
    record {
      is = is;
      opens = ap (opened s.key s.mode s.tag_bits c.args.tweak) is ∙ laws.first c.args.instruction (omega arith);
      only = λ n h e. (laws.second n c.args.instruction h e).1 ∙ sym is;
    }
