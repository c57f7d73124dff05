-- Lemmas: how many slots the memory of lent chips has, and what is in each.
-- Stays in specs/: the proof of a law is named in src/, and a `ghost use` reaches no proofs/ of its own crate.
use Rattle.std.specs.Prelude.{◌≡◌, ℕ, ◌*◌, ◌<◌, List, length, slice_index}
use Rattle.std.proofs.Common.{arith}
use Rattle.std.proofs.lemmas.List.FromFn.{length-map-range_with_len, get_or-map-range_with_len}
use Rattle.chips.specs.Chips.{six_at, packed_count, packed, pair_of, paired_count, paired}

pub length-packed : (b : List ℕ) → length (packed b) ≡ packed_count (length b)
unfolding packed
length-packed b = length-map-range_with_len (λ s. six_at b (6 * s)) 0 (packed_count (length b))

pub get_or-packed : (b : List ℕ) (s : ℕ) → s < length (packed b) → slice_index (packed b) s ≡ six_at b (6 * s)
unfolding packed
get_or-packed b s h =
    get_or-map-range_with_len (λ s. six_at b (6 * s)) 0 (packed_count (length b)) s s 0 (omega (arith, length-packed b)) (omega arith)

pub length-paired : (high low : List ℕ) → length (paired high low) ≡ paired_count (length high) (length low)
unfolding paired
length-paired high low =
    length-map-range_with_len (λ s. pair_of (slice_index high s) (slice_index low s)) 0 (paired_count (length high) (length low))

pub get_or-paired : (high low : List ℕ) (s : ℕ) → s < length (paired high low) → slice_index (paired high low) s ≡ pair_of (slice_index high s) (slice_index low s)
unfolding paired
get_or-paired high low s h =
    get_or-map-range_with_len (λ s. pair_of (slice_index high s) (slice_index low s)) 0 (paired_count (length high) (length low)) s s 0
    (omega (arith, length-paired high low)) (omega arith)
