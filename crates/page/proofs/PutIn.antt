-- Pages show what the records decrypt to; and, of an image that was made, what was put in.
use Rattle.std.proofs.Common.{◌≡◌, ℕ, ◌+◌, ◌*◌, ◌^◌, ◌<◌, ◌≤◌, Bool, true, cond, not, List, length, get_or, take, drop, Some, None, Option, sym, refl, ap, ◌∙◌, subst, ⊎_elim, arith}
use Rattle.std.proofs.lemmas.List.FromFn.{fill_by_all, length-map-range_with_len, get_or-map-range_with_len}
use Rattle.std.proofs.lemmas.List.{get_or-take, get_or-drop, length-take-le, length-drop}
use Rattle.std.proofs.lemmas.Bool.{lt-ltb, le-ltb, eq-eqb, and_from, cases_lt}
use Rattle.std.specs.Option.{unwrap_or}
use Rattle.refusal.specs.declared.Refusal.{Refusal}
use Rattle.refusal.specs.declared.Refusal.TheVariants.{PastEnd, Foreign}
use Rattle.cipher.specs.Word.{fits_mode, mode_number, tweak_of, Lawful}
use Rattle.image.specs.Laws.{Proper}
use Rattle.image.specs.Layout.{Head, record_bits}
use Rattle.image.specs.Reading.{head_in, record_in, foreign_refusal, or_else, refusal_of}
use Rattle.image.proofs.Laying.{layout_is_read, both_none}
use Rattle.life.specs.Coding.{opened_at}
use Rattle.life.specs.Checks.{foul_from}
use Rattle.shore.specs.Drafting.{KeyedCipher, encryption, head_for}
use Rattle.shore.specs.Making.{Made, encryptions}
use Rattle.shore.proofs.Making.{proper, made_head, made_record, made_words, made_is_image}
use Rattle.page.specs.Showing.{coding_of, opened, past_refusal, shown_refusal, page_refusal, word_at, shown_words, unless_refused, page_words}
use Rattle.page.specs.Laws.{ShowsDecryptions, RefusedOnlyPastEnd, ShowsWhatWasPutIn}
use Rattle.life.proofs.Foul.{none_foul, all_open}

pub shows_decryptions : (c : KeyedCipher) (image : List ℕ) (first : ℕ) (words before : List ℕ) → length words ≡ length before
    → words ≡ page_words c image first (length before) → ShowsDecryptions c image first words
shows_decryptions c image first words before long e accepted j l =
    let h = head_in image in
    let n = length words in
    let own = (both_none (refusal_of image) (shown_refusal c image h first n) accepted).1 in
    let fits = (both_none (foreign_refusal c.mode c.tag h) (or_else (past_refusal h.count first n) (foul_from (opened c image h) first n)) own).1 in
    let clean = (both_none (past_refusal h.count first n) (foul_from (opened c image h) first n) fits).1 in
    let shown : words ≡ shown_words c image h first n =
    e ∙ ap (page_words c image first) (sym long) ∙ ap (λ (o : Option Refusal). unless_refused o n (shown_words c image h first n)) accepted in
    let word : get_or words j 0 ≡ unwrap_or (opened c image h (first + j)) 0 =
    ap (λ (ws : List ℕ). get_or ws j 0) shown ∙ get_or-map-range_with_len (word_at c image h first) 0 n j j 0 l (omega arith) in
    let open_at = all_open (opened c image h) first n (first + j) clean (omega arith) (omega arith) in
    open_at.1 ∙ ap Some (sym (word ∙ ap (λ (o : Option ℕ). unwrap_or o 0) open_at.1))

module _ (c : KeyedCipher) (fits : fits_mode c.mode c.tag ≡ true) (lawful : Lawful c.rule c.mode c.tag) (keyed : c.key < 2 ^ 128)
    (image : List ℕ) (small : (k : ℕ) → get_or image k 0 < 256) where
  module _ (v b : ℕ) (is : List ℕ) (made : Made c v b is image) where
    abbrev h : Head
    h = head_for c v b (length is)

    bounds : Proper h
    bounds = proper c v b is image made

    head : head_in image ≡ h
    head = made_head c v b is image fits made

    tweak_fits : (k : ℕ) → k < length is → tweak_of v (4 * (b + k)) < 2 ^ 64
    tweak_fits k l = omega (arith, bounds.small, bounds.within)

    narrow : (k : ℕ) → k < length (encryptions c v b is) → get_or (encryptions c v b is) k 0 < 2 ^ record_bits h
    narrow k l =
        let many = length-map-range_with_len (λ (j : ℕ). encryption c v (b + j) (get_or is j 0)) 0 (length is) in
        let inside : k < length is = omega arith in
        subst (λ (z : ℕ). z < 2 ^ record_bits h) (sym (get_or-map-range_with_len (λ (j : ℕ). encryption c v (b + j) (get_or is j 0)) 0 (length is) k k 0 inside (omega arith)))
        ((lawful c.key (tweak_of v (4 * (b + k))) keyed (tweak_fits k inside)).small (get_or is k 0) (made_words c v b is image made k inside))

    good : refusal_of image ≡ None
    good =
        ap refusal_of (made_is_image c v b is image lawful keyed made small)
        ∙ (layout_is_read h (encryptions c v b is) bounds (length-map-range_with_len (λ (j : ℕ). encryption c v (b + j) (get_or is j 0)) 0 (length is)) narrow).accepted

    -- each record yields its instruction
    opens : (k : ℕ) → k < length is → opened c image (head_in image) k ≡ Some (get_or is k 0)
    opens k l =
        ap (λ (g : Head). opened_at (coding_of c) c.key g.version (4 * (g.base + k)) (record_in image (head_in image) k)) head
        ∙ ap (opened_at (coding_of c) c.key v (4 * (b + k))) (made_record c v b is image fits lawful keyed made k l)
        ∙ (lawful c.key (tweak_of v (4 * (b + k))) keyed (tweak_fits k l)).first (get_or is k 0) (made_words c v b is image made k l)

    own : foreign_refusal c.mode c.tag (head_in image) ≡ None
    own =
        ap (foreign_refusal c.mode c.tag) head
        ∙ ap (λ (t : Bool). cond (not t) (Some Foreign) None) (and_from _ _ (eq-eqb (mode_number c.mode) (mode_number c.mode) refl) (eq-eqb c.tag c.tag refl))

    module _ (first n : ℕ) where
      abbrev foul : Option Refusal
      foul = foul_from (opened c image (head_in image)) first n

      clean : first + n ≤ length is → foul ≡ None
      clean l = none_foul (opened c image (head_in image)) (λ k. get_or is k 0) first n (λ j low high. opens j (omega arith))

      -- only the end is left to try
      past_or_foul : or_else (past_refusal (length is) first n) foul ≡ past_refusal (length is) first n
      past_or_foul =
          ⊎_elim
          (λ (l : length is < first + n).
          let t = lt-ltb (length is) (first + n) l in
          ap (λ (q : Bool). or_else (cond q (Some (PastEnd (length is))) None) foul) t
          ∙ ap (λ (q : Bool). cond q (Some (PastEnd (length is))) None) (sym t))
          (λ (l : first + n ≤ length is).
          let t = le-ltb (length is) (first + n) l in
          ap (λ (q : Bool). or_else (cond q (Some (PastEnd (length is))) None) foul) t ∙ clean l
          ∙ ap (λ (q : Bool). cond q (Some (PastEnd (length is))) None) (sym t))
          (cases_lt (length is) (first + n))

      refusal_is : page_refusal c image first n ≡ past_refusal (length is) first n
      refusal_is =
          ap (λ (o : Option Refusal). or_else o (shown_refusal c image (head_in image) first n)) good
          ∙ ap (λ (o : Option Refusal). or_else o (or_else (past_refusal (head_in image).count first n) foul)) own
          ∙ ap (λ (g : Head). or_else (past_refusal g.count first n) foul) head
          ∙ past_or_foul

      none_refused : first + n ≤ length is → page_refusal c image first n ≡ None
      none_refused l = refusal_is ∙ ap (λ (q : Bool). cond q (Some (PastEnd (length is))) None) (le-ltb (length is) (first + n) l)

      words_are : first + n ≤ length is → page_words c image first n ≡ take n (drop first is)
      words_are l =
          ap (λ (o : Option Refusal). unless_refused o n (shown_words c image (head_in image) first n)) (none_refused l)
          ∙ sym (fill_by_all (word_at c image (head_in image) first) (take n (drop first is)) n 0
          (length-take-le n (drop first is) (omega (arith, length-drop first is)))
          (λ k u. get_or-take n (drop first is) k 0 u ∙ get_or-drop first is k 0 ∙ sym (ap (λ (o : Option ℕ). unwrap_or o 0) (opens (first + k) (omega arith)))))

  pub refused_only_past_end : (first n : ℕ) → RefusedOnlyPastEnd c image first n
  refused_only_past_end first n v b is made = refusal_is v b is made first n

  pub shows_what_was_put_in : (first : ℕ) (words before : List ℕ) → length words ≡ length before → words ≡ page_words c image first (length before)
      → ShowsWhatWasPutIn c image first words
  shows_what_was_put_in first words before long e v b is made l =
      e ∙ ap (page_words c image first) (sym long) ∙ words_are v b is made first (length words) l
