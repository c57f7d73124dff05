use Rattle.std.proofs.Common.{◌≡◌, ℕ, ◌<◌, get_or}
use Rattle.image.specs.Reading.{head_in}
use Rattle.shore.specs.Drafting.{keyed_by}
use Rattle.page.specs.Showing.{word_at}
use Rattle.page.proofs.fill.decrypt_words.Given as goal

-- the words before `place` are shown
abbrev pub invariant-loop-place : goal.invariant-loop-place
invariant-loop-place g l =
    let image = l.sealed.image.now in
    (k : ℕ) → k < l.place → get_or l.words k 0 ≡ word_at (keyed_by g.C.WordCipher l.sealed.cipher.now) image (head_in image) l.first k
