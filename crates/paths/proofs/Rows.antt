-- The schedules made ahead, and the data path over them, are the algorithm's own states.
use Rattle.std.proofs.Common.{◌≡◌, ℕ, zero, suc, ◌^◌, ◌<◌, ◌≤◌, Bool, true, false, cond, List, length, get_or, sym, refl, ap, ◌∙◌, ap₂, arith}
use lib.Bits.{xor_lt}
use Rattle.std.proofs.lemmas.List.FromFn.{fill_by_all}
use Rattle.std.proofs.lemmas.Bool.{ltb-true}
use Rattle.bits.specs.Number.{part}
use Rattle.bits.proofs.Numbers.{part_lt}
use Rattle.linear.specs.declared.LinearMap.TheVariants.{Tweak64}
use Rattle.layers.specs.ChiChi.{chichi}
use Rattle.linear.specs.Linear.{map_of}
use Rattle.layers.specs.Widths.{half, size}
use Rattle.layers.proofs.Bijection.{chichi_lt}
use Rattle.linear.proofs.Linears.{map_lt}
use Rattle.schedule.specs.Schedule.{◌⊻◌, table, inner, key_round, key_after, round_word, key_schedule, mask, tweak_after, tweak_mask}
use Rattle.schedule.proofs.Tables.{table_at, table_ext}
use Rattle.paths.specs.declared.path.Path.{Path}
use Rattle.paths.specs.declared.decrypt.State.{State}
use Rattle.paths.specs.declared.schedules.Schedules.{Schedules}
use Rattle.paths.specs.declared.path.Path.TheVariants.{Data32, Tag32, Data40}
use Rattle.paths.specs.Algorithm.{whitened, rows, round, last_round, after, decryption, SchedulesDecrypt}
use Rattle.paths.specs.Paths.{cipher_of, width_of, linear_of, whitening, tweak_part, chi, mixed}
use Rattle.paths.specs.Data.{data_round, data_after, word_of, schedules, masks_of, outcome}

-- ---- the algorithm's state, part by part
module _ (p : Path) (k t x : ℕ) where
  abbrev masks : ℕ → ℕ
  masks = tweak_mask (part k 0 64) (round_word (cipher_of p) k) t

  one_round : (b : Bool) (i d u c : ℕ)
      → cond b (round p i (record { block = d; tweak = u; key = c })) (last_round p (record { block = d; tweak = u; key = c }))
      ≡ record {
        block = cond b (mixed p d) (chi p d) ⊻ tweak_part p (map_of Tweak64 (cond b (chichi 32 u) u));
        tweak = cond b (map_of Tweak64 (cond b (chichi 32 u) u) ⊻ part (cond b (key_round (cipher_of p) i c) c) 0 64) (map_of Tweak64 (cond b (chichi 32 u) u));
        key = cond b (key_round (cipher_of p) i c) c;
      }
  one_round true i d u c = refl
  one_round false i d u c = refl

  pub after_is : (i : ℕ) → after p k t x i ≡ record {
    block = data_after p masks (x ⊻ whitening p k) i;
    tweak = tweak_after (part k 0 64) (round_word (cipher_of p) k) t i;
    key = key_after (cipher_of p) k i;
  }
  unfolding after data_after tweak_after key_after
  after_is zero = refl
  after_is (suc i) =
      ap (λ (s : State). cond (inner i) (round p i s) (last_round p s)) (after_is i)
      ∙ one_round (inner i) i (data_after p masks (x ⊻ whitening p k) i) (tweak_after (part k 0 64) (round_word (cipher_of p) k) t i) (key_after (cipher_of p) k i)

-- ---- only the words of rounds 0 to 6 and the masks of rounds 0 to 7 are read
tweak_ext : (w : ℕ) (ws ws' : ℕ → ℕ) (t : ℕ) → ((i : ℕ) → i < 7 → ws i ≡ ws' i) → (i : ℕ) → tweak_after w ws t i ≡ tweak_after w ws' t i
unfolding tweak_after
tweak_ext w ws ws' t e zero = refl
tweak_ext w ws ws' t e (suc i) =
    ap (λ (u : ℕ). cond (inner i) (mask i u ⊻ ws i) (mask i u)) (tweak_ext w ws ws' t e i)
    ∙ by (inner i) refl (mask i (tweak_after w ws' t i))
  where
    by : (b : Bool) → inner i ≡ b → (m : ℕ) → cond b (m ⊻ ws i) m ≡ cond b (m ⊻ ws' i) m
    by true q m = ap (λ (z : ℕ). m ⊻ z) (e i (ltb-true i 7 q))
    by false q m = refl

data_ext : (p : Path) (ms ms' : ℕ → ℕ) (x n : ℕ) → ((i : ℕ) → i < n → ms i ≡ ms' i) → (i : ℕ) → i ≤ n → data_after p ms x i ≡ data_after p ms' x i
unfolding data_after
data_ext p ms ms' x n e zero l = refl
data_ext p ms ms' x n e (suc i) l = ap₂ (data_round p i) (data_ext p ms ms' x n e i (omega arith)) (e i (omega arith))

word_is : (p : Path) (k : ℕ) → word_of (key_schedule (cipher_of p) k) p ≡ whitening p k
word_is Data32 k = refl
word_is Tag32 k = refl
word_is Data40 k = refl

module _ (p : Path) (k t x : ℕ) where
  abbrev made : Schedules
  made = schedules (cipher_of p) k t

  key_row : (i : ℕ) → (after p k t x i).key ≡ key_after (cipher_of p) k i
  key_row i = ap (λ (s : State). s.key) (after_is p k t x i)

  words_are : (i : ℕ) → i < 7 → get_or made.keys.rounds i 0 ≡ round_word (cipher_of p) k i
  words_are i l = table_at (round_word (cipher_of p) k) 7 i l

  tweaks_are : (i : ℕ) → tweak_after (part k 0 64) (λ i. get_or made.keys.rounds i 0) t i ≡ tweak_after (part k 0 64) (round_word (cipher_of p) k) t i
  tweaks_are i = tweak_ext (part k 0 64) _ (round_word (cipher_of p) k) t words_are i

  tweak_row : (i : ℕ) → tweak_after (part k 0 64) (λ i. get_or made.keys.rounds i 0) t i ≡ (after p k t x i).tweak
  tweak_row i = tweaks_are i ∙ sym (ap (λ (s : State). s.tweak) (after_is p k t x i))

  masks_are : (i : ℕ) → i < 8 → masks_of made i ≡ masks p k t x i
  masks_are i l = table_at _ 8 i l ∙ ap (mask i) (tweaks_are i)

  block_row : (i : ℕ) → i ≤ 8
      → data_after p (masks_of made) (x ⊻ word_of made.keys p) i ≡ (after p k t x i).block
  block_row i l =
      ap (λ (w : ℕ). data_after p (masks_of made) (x ⊻ w) i) (word_is p k)
      ∙ data_ext p _ (masks p k t x) (x ⊻ whitening p k) 8 masks_are i l ∙ sym (ap (λ (s : State). s.block) (after_is p k t x i))

  -- the three columns of a trace
  pub block_rows : table 9 (data_after p (masks_of made) (x ⊻ word_of made.keys p)) ≡ table 9 (λ i. (after p k t x i).block)
  block_rows = table_ext _ _ 9 (λ i l. block_row i (omega arith))

  pub tweak_rows : made.tweaks.states ≡ table 9 (λ i. (after p k t x i).tweak)
  tweak_rows = table_ext _ _ 9 (λ i _. tweak_row i)

  pub key_rows : table 9 (key_after (cipher_of p) k) ≡ table 9 (λ i. (after p k t x i).key)
  key_rows = table_ext _ _ 9 (λ i _. sym (key_row i))

  -- a row, from the three parts that the code has of it
  pub row_of : (s : Schedules) (blocks keys : List ℕ) → s ≡ made
      → blocks ≡ table 9 (data_after p (masks_of s) (x ⊻ word_of s.keys p)) → keys ≡ table 9 (key_after (cipher_of p) k)
      → (i : ℕ) → i < 9 → record { block = get_or blocks i 0; tweak = get_or s.tweaks.states i 0; key = get_or keys i 0 } ≡ after p k t x i
  row_of s blocks keys is e f i l =
      let first : get_or blocks i 0 ≡ (after p k t x i).block =
      ap (λ (xs : List ℕ). get_or xs i 0) (e ∙ ap (λ (s : Schedules). table 9 (data_after p (masks_of s) (x ⊻ word_of s.keys p))) is ∙ block_rows)
      ∙ table_at _ 9 i l in
      let second : get_or s.tweaks.states i 0 ≡ (after p k t x i).tweak =
      ap (λ (xs : List ℕ). get_or xs i 0) (ap (λ (s : Schedules). s.tweaks.states) is ∙ tweak_rows) ∙ table_at _ 9 i l in
      let third : get_or keys i 0 ≡ (after p k t x i).key = ap (λ (xs : List ℕ). get_or xs i 0) (f ∙ key_rows) ∙ table_at _ 9 i l in
      λ z. record { block = first z; tweak = second z; key = third z }

  pub rows_from : (xs : List State) → length xs ≡ 9 → ((i : ℕ) → i < 9 → get_or xs i (whitened p k t x) ≡ after p k t x i) → xs ≡ rows p k t x
  unfolding rows
  rows_from xs n e = fill_by_all (after p k t x) xs 9 (whitened p k t x) n e

pub schedules_decrypt : SchedulesDecrypt
unfolding outcome decryption
schedules_decrypt p k t x = block_row p k t x 8 (omega arith)

-- ---- the width of the outcome
pub chi_lt : (p : Path) (x : ℕ) → chi p x < 2 ^ size (width_of p)
chi_lt p x = chichi_lt (half (width_of p)) x

pub mixed_lt : (p : Path) (x : ℕ) → mixed p x < 2 ^ size (width_of p)
mixed_lt Data32 x = map_lt (linear_of Data32) (chi Data32 x)
mixed_lt Tag32 x = map_lt (linear_of Tag32) (chi Tag32 x)
mixed_lt Data40 x = map_lt (linear_of Data40) (chi Data40 x)

pub round_lt : (p : Path) (i x m : ℕ) → data_round p i x m < 2 ^ size (width_of p)
round_lt p i x m = xor_lt (size (width_of p)) _ _ (by (inner i)) (part_lt m _ (size (width_of p)))
  where
    by : (b : Bool) → cond b (mixed p x) (chi p x) < 2 ^ size (width_of p)
    by true = mixed_lt p x
    by false = chi_lt p x

pub outcome_lt : (p : Path) (s : Schedules) (x : ℕ) → outcome p s x < 2 ^ size (width_of p)
unfolding outcome data_after
outcome_lt p _ x = round_lt p 7 _ _

pub last_row : (p : Path) (s : Schedules) (x : ℕ) → get_or (table 9 (data_after p (masks_of s) (x ⊻ word_of s.keys p))) 8 0 ≡ outcome p s x
unfolding outcome
last_row p s x = table_at _ 9 8 (omega arith)

pub ruleset decrypting = (last_row, outcome_lt, schedules_decrypt)
