-- When a page is refused, and what it shows.
use Rattle.std.specs.Prelude.{◌≡◌, ℕ, ◌+◌, cond, List, map, length, replicate, position, Some, None, Option, ◌==◌, nat_lt}
use Rattle.std.specs.List.{range_with_len, slice_get}
use Rattle.std.specs.Option.{unwrap_or}
use Rattle.refusal.specs.declared.Refusal.{Refusal}
use Rattle.refusal.specs.declared.Refusal.TheVariants.{PastEnd}
use Rattle.image.specs.Layout.{Head}
use Rattle.image.specs.Reading.{head_in, foreign_refusal, or_else, refusal_of}
use Rattle.shore.specs.Drafting.{KeyedCipher}
use Rattle.cipher.specs.declared.WordCipher.{Ghosts as WordCipher}
use Rattle.life.specs.declared.sealed.Sealed.{Sealed}
use Rattle.life.specs.Coding.{Coding, coding}
use Rattle.life.specs.Records.{opens}
use Rattle.life.specs.Checks.{record_opens, foul_from}

abbrev pub coding_of : KeyedCipher → Coding
coding_of c = coding (record { rule = c.rule; mode = c.mode; tag = c.tag })

-- what record k yields at its address, under the cipher's key and the image's version
abbrev pub opened : KeyedCipher → List ℕ → Head → ℕ → Option ℕ
opened c bytes h k = record_opens (coding_of c) c.key bytes h k

-- ---- the refusals of a page of n words from record `first` on, in the order in which they are tried
abbrev pub past_refusal : ℕ → ℕ → ℕ → Option Refusal
past_refusal count first n = cond (nat_lt count (first + n)) (Some (PastEnd count)) None

-- of a good image with that header: only the records shown are tried
abbrev pub shown_refusal : KeyedCipher → List ℕ → Head → ℕ → ℕ → Option Refusal
shown_refusal c bytes h first n =
    or_else (foreign_refusal c.mode c.tag h)
    (or_else (past_refusal h.count first n)
    (foul_from (opened c bytes h) first n))

-- of an image that was read
abbrev pub sealed_refusal : {C : Type 0} → WordCipher C → Sealed C → ℕ → ℕ → Option Refusal
sealed_refusal w s first n = or_else (past_refusal s.header.count first n) (foul_from (opens w s) first n)

-- of any bytes
abbrev pub page_refusal : KeyedCipher → List ℕ → ℕ → ℕ → Option Refusal
page_refusal c bytes first n = or_else (refusal_of bytes) (shown_refusal c bytes (head_in bytes) first n)

-- ---- the words
-- word j is the instruction that record first + j decrypts to, and zero where it decrypts to none
abbrev pub word_at : KeyedCipher → List ℕ → Head → ℕ → ℕ → ℕ
word_at c bytes h first j = unwrap_or (opened c bytes h (first + j)) 0

abbrev pub shown_words : KeyedCipher → List ℕ → Head → ℕ → ℕ → List ℕ
shown_words c bytes h first n = map (word_at c bytes h first) (range_with_len 0 n)

-- a page that is refused shows zeros
abbrev pub unless_refused : Option Refusal → ℕ → List ℕ → List ℕ
unless_refused (Some e) n words = replicate n 0
unless_refused None n words = words

abbrev pub page_words : KeyedCipher → List ℕ → ℕ → ℕ → List ℕ
page_words c bytes first n = unless_refused (page_refusal c bytes first n) n (shown_words c bytes (head_in bytes) first n)

abbrev pub Zero : List ℕ → Type 0
Zero words = words ≡ replicate (length words) 0

-- the word at a place, and zero past the last
abbrev pub word_or_zero : List ℕ → ℕ → ℕ
word_or_zero words j = unwrap_or (slice_get words j) 0

-- the place of the first word that is w
abbrev pub place_of : ℕ → List ℕ → Option ℕ
place_of w words = position (λ x. x == w) words
