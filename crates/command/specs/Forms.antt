-- The five forms of a line: what may stand at each place, and how long the line is.
use Rattle.std.specs.Prelude.{ℕ, zero, suc, ◌+◌, ◌%◌, Bool, false, cond, ◌&&◌, ◌||◌, List, length, Some, None, Option, ◌==◌, nat_le, nat_lt, slice_index}
use Rattle.command.specs.declared.forms.Form.{Form}
use Rattle.command.specs.declared.forms.Form.TheVariants.{Key, Image, Fetch, Write, Status}
use Rattle.command.specs.Digits.{is_digit}

-- the most bytes that a line has
abbrev pub most : ℕ
most = 1024

-- the first letter: K, I, F, W, S
abbrev pub letter_of : Form → ℕ
letter_of Key = 75
letter_of Image = 73
letter_of Fetch = 70
letter_of Write = 87
letter_of Status = 83

abbrev pub form_of : ℕ → Option Form
form_of b =
    cond (b == 75) (Some Key)
    (cond (b == 73) (Some Image)
    (cond (b == 70) (Some Fetch)
    (cond (b == 87) (Some Write)
    (cond (b == 83) (Some Status)
    None))))

-- the most bytes of a form: one letter; after a space a word; a W has a second word after a second space
abbrev pub most_of : Form → ℕ
most_of Key = 34
most_of Image = 1024
most_of Fetch = 10
most_of Write = 20
most_of Status = 1

-- where the spaces stand
abbrev pub space_at : Form → ℕ → Bool
space_at Key k = k == 1
space_at Image k = k == 1
space_at Fetch k = k == 1
space_at Write k = k == 1 || k == 7
space_at Status k = false

-- whether byte b may stand at place k
abbrev pub allows : Form → ℕ → ℕ → Bool
allows form k b =
    cond (nat_lt k (most_of form))
    (cond (k == 0) (b == letter_of form) (cond (space_at form k) (b == 32) (is_digit b)))
    false

-- whether a line of that form may have n bytes
abbrev pub complete : Form → ℕ → Bool
complete Key n = n == 34
complete Image n = nat_le 4 n && n % 2 == 0
complete Fetch n = n == 10
complete Write n = n == 20
complete Status n = n == 1

-- the first of n places from k on at which a test fails, or the place after them
unfoldable pub first_bad : (ℕ → Bool) → ℕ → ℕ → ℕ
first_bad ok k zero = k
first_bad ok k (suc n) = cond (ok k) (first_bad ok (k + 1) n) k

abbrev pub allows_at : Form → List ℕ → ℕ → Bool
allows_at form line k = allows form k (slice_index line k)

-- the first byte that may not stand where it stands, or the length of the line
abbrev pub wrong_at : Form → List ℕ → ℕ
wrong_at form line = first_bad (allows_at form line) 0 (length line)

abbrev pub fits : Form → List ℕ → Bool
fits form line = wrong_at form line == length line && complete form (length line)
