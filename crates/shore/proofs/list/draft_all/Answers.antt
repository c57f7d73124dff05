use Rattle.std.proofs.Common.{rules, ◌≡◌, ℕ, length, Ok, subst}
use Rattle.shore.specs.Drafting.{keyed_by, Opens}
use Rattle.shore.proofs.list.draft_all.Goals as goal

pub returns-clause-chain : goal.returns-clause-chain
returns-clause-chain g c =
    let a = c.args in
    let is : c.in_ok-count.count ≡ length a.instructions.now = search rules in
    record {
      headed = c.open.new.buffer;
      written = c.put_all.new.buffer;
      opened = c.in_ok-opened.opened;
      filled = c.in_ok-filled.filled;
      opens = subst (λ (n : ℕ). Opens (keyed_by g.C.WordCipher a.cipher.now) a.version a.base n a.buffer.now c.open.new.buffer (Ok c.in_ok-opened.opened)) is c.in_ok-opened.ensures;
      puts = c.in_ok-filled.ensures.all;
      closes = c.in_ok-close.ensures.answer;
    }
