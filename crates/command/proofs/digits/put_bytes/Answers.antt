use Rattle.std.proofs.Common.{◌≡◌, ℕ, ◌+◌, ◌*◌, [], ◌∷◌, length, sym, refl, ap, ◌∙◌, arith, length-append, drop}
use Rattle.command.specs.Digits.{byte_of}
use Rattle.command.proofs.Hex.{paired, bytes_none, put_more, spared_more}
use Rattle.command.proofs.digits.put_bytes.Goals as goal

pub loop-index-init : goal.loop-index-init
loop-index-init c =
    record { count = cc; size = cc; rest = cc; within = omega arith; bytes = sym (bytes_none c.args.word.now); spared = refl }

pub bounds-buffer-index : goal.bounds-buffer-index
bounds-buffer-index c =
    let i = c.loop-index.invariant in
    let s = c.in-Some.ensures.steps in
    let p = paired c.args.word.now c.in-Some.pair.now _ (length c.loop-index.yielded) (sym i.rest ∙ s.0.1.0) (s.0.1.1 ∙ i.size) i.within in
    omega (arith, p.within, s.1, i.count, c.requires, c.loop-index.auto.buffer)

pub loop-index-preserved : goal.loop-index-preserved
loop-index-preserved c =
    let i = c.loop-index.invariant in
    let s = c.in-Some.ensures.steps in
    let n = length c.loop-index.yielded in
    let b = c.loop-index.buffer in
    let word = c.args.word.now in
    let p = paired word c.in-Some.pair.now _ n (sym i.rest ∙ s.0.1.0) (s.0.1.1 ∙ i.size) i.within in
    let m = length-append c.loop-index.yielded ((c.in-Some.index, c.in-Some.pair) ∷ []) in
    let at = s.1 ∙ i.count in
    let byte : 16 * c.digit_of.result + c.digit_of-in-loop-index.result ≡ byte_of word n = cc (p.byte, c.digit_of.ensures.is, c.digit_of-in-loop-index.ensures.is) in
    record {
      count = s.2 ∙ ap (λ (k : ℕ). k + 1) i.count ∙ sym m;
      size = s.0.0 ∙ i.size;
      rest = p.rest_of ∙ ap (λ (k : ℕ). drop (2 * k) word) (sym m);
      within = omega (arith, m, p.within);
      bytes = put_more word b n _ _ _ m at (omega (arith, p.within, c.requires, c.loop-index.auto.buffer)) byte i.bytes;
      spared = spared_more b c.args.buffer.now n _ _ _ m at i.spared;
    }
