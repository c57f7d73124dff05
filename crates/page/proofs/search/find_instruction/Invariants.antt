use Rattle.std.proofs.Common.{◌≡◌, ◌<◌, ◌==◌, ℕ, false}
use Rattle.page.specs.Showing.{word_or_zero}
use Rattle.page.proofs.search.find_instruction.Given as goal

abbrev pub invariant-loop-place : goal.invariant-loop-place
invariant-loop-place g l = (k : ℕ) → k < l.place → (word_or_zero l.page.words.now k == l.instruction) ≡ false
