-- A whole chip is its slots and its rest, byte by byte and word by word.
use Rattle.std.proofs.Common.{◌≡◌, ℕ, zero, suc, ◌+◌, ◌*◌, ◌<◌, ◌≤◌, List, [], ◌∷◌, ◌++◌, map, length, get_or, take, drop, sym, refl, ap, ◌∙◌, arith}
use Rattle.std.proofs.lemmas.Grind.{common_steps}
use Rattle.std.specs.List.{range_with_len, flat_map}
use Rattle.std.proofs.lemmas.List.FromFn.{map-range_with_len_more}
use Rattle.std.proofs.lemmas.List.{take-append-drop, take_more, flat_map_more, ext_get_or, get_or-map}
use Rattle.chips.specs.Chips.{six_at, six_bytes, packed_count, packed, left_over, bytes_of, high_word, low_word, paired, surplus_high, surplus_low, highs_of, lows_of}
use Rattle.chips.specs.Elements.{length-paired, get_or-paired}

-- six elements more
take_six : (b : List ℕ) (a : ℕ) → a + 6 ≤ length b → take (a + 6) b ≡ take a b ++ (get_or b a 0 ∷ get_or b (a + 1) 0 ∷ get_or b (a + 2) 0 ∷ get_or b (a + 3) 0 ∷ get_or b (a + 4) 0 ∷ get_or b (a + 5) 0 ∷ [])
take_six b a h = grind (arith, common_steps, take_more b a 0, take_more b (a + 1) 0, take_more b (a + 2) 0, take_more b (a + 3) 0, take_more b (a + 4) 0, take_more b (a + 5) 0)

-- the bytes of the number in six bytes are these
six_again : (b : List ℕ) (a : ℕ) → ((i : ℕ) → get_or b i 0 < 256) → six_bytes (six_at b a) ≡ get_or b a 0 ∷ get_or b (a + 1) 0 ∷ get_or b (a + 2) 0 ∷ get_or b (a + 3) 0 ∷ get_or b (a + 4) 0 ∷ get_or b (a + 5) 0 ∷ []
six_again b a f = grind (arith, f a, f (a + 1), f (a + 2), f (a + 3), f (a + 4), f (a + 5))

bytes_of_slots : (b : List ℕ) (c : ℕ) → 6 * c ≤ length b → ((i : ℕ) → get_or b i 0 < 256) → flat_map six_bytes (map (λ s. six_at b (6 * s)) (range_with_len 0 c)) ≡ take (6 * c) b
bytes_of_slots b zero h f = refl
bytes_of_slots b (suc c) h f =
    let e : suc c ≡ c + 1 = omega arith in
    let e₆ : 6 * suc c ≡ 6 * c + 6 = omega arith in
    ap (λ z. flat_map six_bytes (map (λ s. six_at b (6 * s)) (range_with_len 0 z))) e
    ∙ ap (flat_map six_bytes) (map-range_with_len_more (λ s. six_at b (6 * s)) 0 c c (omega arith))
    ∙ sym (flat_map_more six_bytes [] (map (λ s. six_at b (6 * s)) (range_with_len 0 c)) (six_at b (6 * c)))
    ∙ ap (λ z. z ++ six_bytes (six_at b (6 * c))) (bytes_of_slots b c (omega arith) f)
    ∙ ap (λ z. take (6 * c) b ++ z) (six_again b (6 * c) f)
    ∙ sym (take_six b (6 * c) (omega arith))
    ∙ ap (λ z. take z b) (sym e₆)

pub packed_whole : (b : List ℕ) → ((i : ℕ) → get_or b i 0 < 256) → b ≡ bytes_of (packed b) (left_over b)
unfolding packed
packed_whole b f =
    sym (take-append-drop (6 * packed_count (length b)) b)
    ∙ ap (λ z. z ++ left_over b) (sym (bytes_of_slots b (packed_count (length b)) (omega arith) f))

-- a chip whose words are those of its slots
words_whole : (word : ℕ → ℕ) (chip slots : List ℕ) (count : ℕ) → length slots ≡ count → count ≤ length chip → ((i : ℕ) → i < count → word (get_or slots i 0) ≡ get_or chip i 0) → chip ≡ map word slots ++ drop count chip
words_whole word chip slots count e h f =
    sym (take-append-drop count chip)
    ∙ ap (λ z. z ++ drop count chip)
    (ext_get_or 0 (take count chip) (map word slots) (grind (arith, common_steps)) (λ i l. grind (arith, common_steps, f i, get_or-map word slots i 0 0)))

pub high_whole : (high low : List ℕ) → ((i : ℕ) → get_or high i 0 < 4294967296) → high ≡ highs_of (paired high low) (surplus_high high low)
high_whole high low f =
    words_whole high_word high (paired high low) _ (length-paired high low) (omega arith) (λ i l. grind (arith, length-paired high low, get_or-paired high low i, f i))

pub low_whole : (high low : List ℕ) → ((i : ℕ) → get_or low i 0 < 65536) → low ≡ lows_of (paired high low) (surplus_low high low)
low_whole high low f =
    words_whole low_word low (paired high low) _ (length-paired high low) (omega arith) (λ i l. grind (arith, length-paired high low, get_or-paired high low i, f i))
