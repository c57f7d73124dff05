-- A write into both chips of a pair.
use Rattle.std.proofs.Common.{◌≡◌, ℕ, ◌/◌, ◌%◌, ◌<◌, List, length, set, arith}
use Rattle.std.proofs.lemmas.Grind.{common_steps}
use Rattle.memory.specs.Slots.{wide, after_write}
use Rattle.memory.proofs.Written.{after_is}
use Rattle.chips.specs.Chips.{pair_of, paired}
use Rattle.chips.specs.Elements.{length-paired, get_or-paired}

pub pair_back : (n : ℕ) → n < wide → pair_of (n / 65536 % 4294967296) (n % 65536) ≡ n
pair_back n h = omega arith

pub slots_after : (high low : List ℕ) (s n x y : ℕ) → s < length (paired high low) → n < wide → pair_of x y ≡ n → paired (set high s x) (set low s y) ≡ after_write (paired high low) s n
slots_after high low s n x y l k e =
    after_is (paired high low) (paired (set high s x) (set low s y)) s n l k (grind (arith, common_steps, length-paired))
    (grind (arith, common_steps, length-paired, get_or-paired)) (λ i h ne. grind (arith, common_steps, length-paired, get_or-paired))

-- what the calls of a pair's memory rest on
pub ruleset pairs = (common_steps, length-paired, get_or-paired, slots_after, pair_back)
