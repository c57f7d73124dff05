-- The machine's state is what the history says.
use Rattle.std.proofs.Common.{◌≡◌, ℕ, ◌+◌, ◌-◌, ◌<◌, ◌≤◌, min, Bool, true, false, cond, ltb, List, ◌++◌, map, length, get_or, drop, set, Some, None, Option, sym, refl, ap, ◌∙◌, ap₂, ⊎_elim, arith, get_or-set_other, get_or-set_same, ltb-false, ltb-true, le-ltb, lt-ltb, eq-eqb, ne_eqb}
use Rattle.std.proofs.lemmas.List.FromFn.{fill_by_all}
use Rattle.std.proofs.lemmas.List.{length-append, length-drop, length-set, get_or_append_left, get_or-append_right, get_or-drop}
use Rattle.std.proofs.lemmas.Bool.{cases_eq, cases_lt}
use Rattle.std.specs.List.{range_with_len}
use Rattle.image.specs.Reading.{head_in, record_in, records_in}
use Rattle.life.specs.declared.Condition.TheVariants.{Live, Locked}
use Rattle.life.specs.Checks.{version_of}
use Rattle.life.specs.Deeds.{Deed}
use Rattle.life.specs.Deeds.Deed.{loaded, installed, overwrote, rejected, nothing}
use Rattle.life.specs.State.{State, live_key, program_by, known_by, after}
use Rattle.life.specs.History.{key_after, rejections_after, image_after, slot_after, live_by, condition_by, cipher_key_by, live_key_by, program_of}
use Rattle.life.specs.Life.{base_of, count_of}
use Rattle.life.proofs.Writing.{length_records, record_at_lem}

-- a state, and the words of a history: key, rejections, image, slots
pub record Fields (first : ℕ) (start : List ℕ) (K : Option ℕ) (n : ℕ) (I : Option (List ℕ)) (slot : ℕ → ℕ) (s : State) : Type 0 where
  pub condition : s.core.condition ≡ condition_by K n
  pub strikes : s.core.strikes ≡ n
  pub key : s.core.key ≡ cipher_key_by first K n
  pub version : s.core.version ≡ version_of (program_of I)
  pub base : s.core.base ≡ base_of I
  pub count : s.core.count ≡ count_of I
  pub slots : length s.held ≡ length start
  pub holds : (j : ℕ) → j < length start → get_or s.held j 0 ≡ slot j

-- what the state needs of a deed
abbrev pub Allows : ℕ → Option ℕ → ℕ → Deed → Type 0
Allows slots K n (loaded key) = Unit {0}
Allows slots K n (installed image) = (head_in image).count ≤ slots
Allows slots K n (overwrote slot number) = Unit {0}
Allows slots K n rejected = live_by K n ≡ true
Allows slots K n nothing = Unit {0}

-- ---- a strike
still_condition : (K : Option ℕ) (n : ℕ) → n < 3 → condition_by K n ≡ condition_by K (n + 1)
still_condition (Some k) n l = ap (λ (b : Bool). cond b Live Locked) (lt-ltb n 4 (omega arith) ∙ sym (lt-ltb (n + 1) 4 (omega arith)))
still_condition None n l = refl

still_key : (first : ℕ) (K : Option ℕ) (n : ℕ) → n < 3 → cipher_key_by first K n ≡ cipher_key_by first K (n + 1)
still_key first (Some k) n l = ap (λ (b : Bool). cond b k 0) (lt-ltb n 4 (omega arith) ∙ sym (lt-ltb (n + 1) 4 (omega arith)))
still_key first None n l = refl

locked : (K : Option ℕ) (n : ℕ) → 3 ≤ n → live_by K n ≡ true → Locked ≡ condition_by K (n + 1)
locked (Some k) n l e = ap (λ (b : Bool). cond b Live Locked) (sym (le-ltb (n + 1) 4 (omega arith)))
locked None n l e = absurd cc

cleared : (first : ℕ) (K : Option ℕ) (n : ℕ) → 3 ≤ n → live_by K n ≡ true → 0 ≡ cipher_key_by first K (n + 1)
cleared first (Some k) n l e = ap (λ (b : Bool). cond b k 0) (sym (le-ltb (n + 1) 4 (omega arith)))
cleared first None n l e = absurd cc

module _ {first : ℕ} {start : List ℕ} {K : Option ℕ} {n : ℕ} {I : Option (List ℕ)} {slot : ℕ → ℕ} {s : State} where
  strike : (b : Bool) → ltb s.core.strikes 3 ≡ b → Fields first start K n I slot s → live_by K n ≡ true
      → Fields first start K (n + 1) I slot (record { core = cond b (record { condition = s.core.condition; key = s.core.key; strikes = s.core.strikes + 1; version = s.core.version; base = s.core.base; count = s.core.count }) (record { condition = Locked; key = 0; strikes = s.core.strikes + 1; version = s.core.version; base = s.core.base; count = s.core.count }); held = s.held })
  strike true e a l =
      let few : n < 3 = omega (arith, ltb-true s.core.strikes 3 e, a.strikes) in
      record {
        condition = a.condition ∙ still_condition K n few;
        strikes = ap (λ (z : ℕ). z + 1) a.strikes;
        key = a.key ∙ still_key first K n few;
        version = a.version;
        base = a.base;
        count = a.count;
        slots = a.slots;
        holds = a.holds;
      }
  strike false e a l =
      let many : 3 ≤ n = omega (arith, ltb-false s.core.strikes 3 e, a.strikes) in
      record {
        condition = locked K n many l;
        strikes = ap (λ (z : ℕ). z + 1) a.strikes;
        key = cleared first K n many l;
        version = a.version;
        base = a.base;
        count = a.count;
        slots = a.slots;
        holds = a.holds;
      }

  -- ---- the slots
  laid : (image : List ℕ) → (head_in image).count ≤ length start → Fields first start K n I slot s → (j : ℕ) → j < length start
      → get_or (records_in image (head_in image) ++ drop (head_in image).count s.held) j 0 ≡ slot_after j (installed image) (slot j)
  laid image fits a j l =
      let h = head_in image in
      let many = length_records image h in
      ⊎_elim
      (λ (u : j < h.count). get_or_append_left (records_in image h) (drop h.count s.held) 0 j (omega arith) ∙ record_at_lem image h j u
      ∙ ap (λ (b : Bool). cond b (record_in image h j) (slot j)) (sym (lt-ltb j h.count u)))
      (λ (u : h.count ≤ j). get_or-append_right (records_in image h) (drop h.count s.held) h.count j 0 many u
      ∙ get_or-drop h.count s.held (j - h.count) 0 ∙ ap (λ (z : ℕ). get_or s.held z 0) (let e : h.count + (j - h.count) ≡ j = omega arith in e)
      ∙ a.holds j l ∙ ap (λ (b : Bool). cond b (record_in image h j) (slot j)) (sym (le-ltb j h.count u)))
      (cases_lt j h.count)

  put : (p m : ℕ) → Fields first start K n I slot s → (j : ℕ) → j < length start → get_or (set s.held p m) j 0 ≡ slot_after j (overwrote p m) (slot j)
  put p m a j l =
      ⊎_elim
      (λ (u : j ≡ p). ap (λ (z : ℕ). get_or (set s.held p m) z 0) u ∙ get_or-set_same s.held p m 0 (omega (arith, a.slots))
      ∙ ap (λ (b : Bool). cond b m (slot j)) (sym (eq-eqb j p u)))
      (λ (u : j ≡ p → ⊥). get_or-set_other s.held p j m 0 u ∙ a.holds j l ∙ ap (λ (b : Bool). cond b m (slot j)) (sym (ne_eqb j p u)))
      (cases_eq j p)

  -- ---- every deed
  pub fields_step : (d : Deed) → Allows (length start) K n d → Fields first start K n I slot s
      → Fields first start (key_after d K) (rejections_after d n) (image_after d I) (λ j. slot_after j d (slot j)) (after d s)
  fields_step (loaded key) m a = record {
    condition = refl;
    strikes = refl;
    key = refl;
    version = refl;
    base = refl;
    count = refl;
    slots = a.slots;
    holds = a.holds;
  }
  fields_step (installed image) m a = record {
    condition = a.condition;
    strikes = a.strikes;
    key = a.key;
    version = refl;
    base = refl;
    count = refl;
    slots = let many = length_records image (head_in image) in rw (length-append, length-drop, many) (omega (arith, a.slots));
    holds = laid image m a;
  }
  fields_step (overwrote p m) _ a = record {
    condition = a.condition;
    strikes = a.strikes;
    key = a.key;
    version = a.version;
    base = a.base;
    count = a.count;
    slots = rw length-set a.slots;
    holds = put p m a;
  }
  fields_step rejected m a = strike (ltb s.core.strikes 3) refl a m
  fields_step nothing m a = a

  -- ---- what the checks go by
  same_key : Fields first start K n I slot s → live_key s.core.condition s.core.key ≡ live_key_by K n
  same_key a = ap₂ live_key a.condition a.key ∙ by K
    where
      cases : (b : Bool) (k : ℕ) → live_key (cond b Live Locked) (cond b k 0) ≡ cond b (Some k) None
      cases true k = refl
      cases false k = refl

      by : (K : Option ℕ) → live_key (condition_by K n) (cipher_key_by first K n) ≡ live_key_by K n
      by (Some k) = cases (ltb n 4) k
      by None = refl

  same_program : ((image : List ℕ) → I ≡ Some image → (head_in image).count ≤ length start) → Fields first start K n I slot s
      → program_by s.core.version s.core.base (min s.core.count (length s.held)) ≡ program_of I
  same_program fits a =
      ap (λ (v : Option ℕ). program_by v s.core.base (min s.core.count (length s.held))) a.version
      ∙ ap (λ (b : ℕ). program_by (version_of (program_of I)) b (min s.core.count (length s.held))) a.base
      ∙ ap₂ (λ (m l : ℕ). program_by (version_of (program_of I)) (base_of I) (min m l)) a.count a.slots
      ∙ by I fits
    where
      by : (I : Option (List ℕ)) → ((image : List ℕ) → I ≡ Some image → (head_in image).count ≤ length start)
          → program_by (version_of (program_of I)) (base_of I) (min (count_of I) (length start)) ≡ program_of I
      by (Some image) f =
          let l = f image refl in
          ap (λ (m : ℕ). program_by (Some (head_in image).version) (head_in image).base m) (let e : min (head_in image).count (length start) ≡ (head_in image).count = omega arith in e)
      by None f = refl

  pub same_known : ((image : List ℕ) → I ≡ Some image → (head_in image).count ≤ length start) → Fields first start K n I slot s
      → known_by s.core s.held ≡ record { key = live_key_by K n; program = program_of I; held = map slot (range_with_len 0 (length start)) }
  same_known fits a =
      let key = same_key a in
      let program = same_program fits a in
      let held = fill_by_all slot s.held (length start) 0 a.slots a.holds in
      λ z. record { key = key z; program = program z; held = held z }
