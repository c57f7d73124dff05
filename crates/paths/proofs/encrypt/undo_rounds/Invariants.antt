use Rattle.std.proofs.Common.{◌≡◌, ℕ, length, get_or}
use Rattle.paths.specs.Encryption.{data_before}
use Rattle.paths.proofs.Undoing.{Left}
use Rattle.paths.proofs.encrypt.undo_rounds.Given as goal

abbrev pub invariant-loop-i : goal.invariant-loop-i
invariant-loop-i l =
    let rest = l.i-iterator.iter.iter.rest.now in
    (l.i-iterator.iter.count ≡ 0) × Left l.masks rest
    × (data_before l.mode (λ (k : ℕ). get_or l.masks k 0) l.state (length rest) ≡ data_before l.mode (λ (k : ℕ). get_or l.masks k 0) l.y 8)
