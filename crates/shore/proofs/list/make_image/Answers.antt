use Rattle.std.proofs.Common.{ℕ, ◌^◌, ◌<◌, List, length, get_or, arith}
use Rattle.std.proofs.lemmas.Result.{IfOk-weaker, MatchResult-from_both}
use Rattle.shore.specs.Drafting.{KeyedCipher, keyed_by}
use Rattle.shore.proofs.Chaining.{chain_tells, chain_made, chain_image, chain_keeps}
use Rattle.shore.proofs.list.make_image.Goals as goal

pub returns : goal.returns
returns g c =
    let w = g.C.WordCipher in
    let x = c.args.cipher.now in
    let k : KeyedCipher = keyed_by w x in
    let v : ℕ = c.args.version in
    let b : ℕ = c.args.base in
    let is : List ℕ = c.args.instructions.now in
    let before : List ℕ = c.args.buffer.now in
    let after : List ℕ = c.draft_all.new.buffer in
    let r = c.draft_all.result in
    let chain = c.draft_all.ensures.chain in
    let words : (i : ℕ) → i < length is → get_or is i 0 < 2 ^ 32 = λ i _. omega (arith, c.type_inv.instructions i) in
    let small : (i : ℕ) → get_or after i 0 < 256 = λ i. omega (arith, c.type_inv.buffer i) in
    record {
      answer = MatchResult-from_both r _ _ (IfOk-weaker r _ _ (chain_tells k v b is before after) chain) c.draft_all.ensures.refused;
      made = IfOk-weaker r _ _ (λ d h. chain_made k v b is before after d h words) chain;
      image = IfOk-weaker r _ _ (λ d h. chain_image k v b is before after d h (g.met.C.WordCipher.lawful x) (g.met.C.WordCipher.keyed x) words small) chain;
      kept = IfOk-weaker r _ _ (chain_keeps k v b is before after) chain;
    }
