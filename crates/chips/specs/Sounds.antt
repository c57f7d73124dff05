-- The memory of lent chips keeps the law of the slots.
-- Stays in specs/: the proof of a law is named in src/, and a `ghost use` reaches no proofs/ of its own crate.
use Rattle.std.specs.Prelude.{ℕ, List}
use Rattle.std.proofs.Common.{arith}
use Rattle.memory.specs.Slots.{Sound}
use Rattle.chips.specs.Chips.{packed, paired}
use Rattle.chips.specs.Elements.{length-packed, get_or-packed, length-paired, get_or-paired}

pub packed-sound : (b : List ℕ) → Sound (packed b)
packed-sound b = record { few = omega (arith, length-packed b); small = λ s h. omega (arith, get_or-packed b s h) }

pub paired-sound : (high low : List ℕ) → Sound (paired high low)
paired-sound high low =
    record { few = omega (arith, length-paired high low); small = λ s h. omega (arith, get_or-paired high low s h) }
