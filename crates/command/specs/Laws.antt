-- What the allowed lines are, that each means one thing, and where any other line is garbled.
use Rattle.std.specs.Prelude.{◌≡◌, ℕ, ◌+◌, ◌*◌, ◌<◌, ◌≤◌, true, ◌⊎◌, List, ◌++◌, length, take, codes, slice_index}
use Rattle.refusal.specs.declared.Refusal.TheVariants.{Garbled}
use Rattle.command.specs.declared.forms.Form.{Form}
use Rattle.command.specs.declared.forms.Form.TheVariants.{Key, Image, Fetch, Write, Status}
use Rattle.command.specs.Digits.{is_digit}
use Rattle.command.specs.Forms.{most, allows, complete}
use Rattle.command.specs.Lines.{meaning, command_of}
use Rattle.command.specs.Lines.Meaning.{refused}

-- a line of a form: each byte may stand where it stands, and the line is as long as the form says
pub record Allowed (form : Form) (line : List ℕ) : Type 0 where
  pub bytes : (k : ℕ) → k < length line → allows form k (slice_index line k) ≡ true
  pub long : complete form (length line) ≡ true

-- a word of n digits
pub record Word (n : ℕ) (w : List ℕ) : Type 0 where
  pub size : length w ≡ n
  pub digits : (k : ℕ) → k < n → is_digit (slice_index w k) ≡ true

-- the same lines, spelled out
abbrev pub Spelled : Form → List ℕ → Type 0
Spelled Key line = (key : List ℕ) × Word 32 key × (line ≡ codes "K " ++ key)
Spelled Image line = (n : ℕ) × (image : List ℕ) × (0 < n) × (n ≤ 511) × Word (2 * n) image × (line ≡ codes "I " ++ image)
Spelled Fetch line = (address : List ℕ) × Word 8 address × (line ≡ codes "F " ++ address)
Spelled Write line = (slot : List ℕ) × (number : List ℕ) × Word 5 slot × Word 12 number × (line ≡ codes "W " ++ (slot ++ (codes " " ++ number)))
Spelled Status line = line ≡ codes "S"

-- some allowed line begins so
pub record Begins (part : List ℕ) : Type 0 where
  pub more : List ℕ
  pub form : Form
  pub line : Allowed form (part ++ more)

-- n bytes are the longest beginning of a line that some allowed line shares
pub record Longest (line : List ℕ) (n : ℕ) : Type 0 where
  pub inside : n ≤ length line
  pub shared : Begins (take n line)
  pub last : n < length line → Begins (take (n + 1) line) → ⊥

-- a line of no form is garbled there
pub record Astray (line : List ℕ) : Type 0 where
  pub place : ℕ
  pub told : meaning line ≡ refused (Garbled place)
  pub longest : Longest line place
  pub none : (form : Form) → Allowed form line → ⊥

pub record Fitting (line : List ℕ) : Type 0 where
  pub form : Form
  pub line_of : Allowed form line

pub record Judged (line : List ℕ) : Type 0 where
  -- the allowed lines of a form are those that are spelled so
  pub spelled : (form : Form) → Allowed form line → Spelled form line
  pub allowed : (form : Form) → Spelled form line → Allowed form line
  -- an allowed line means the command of its form
  pub means : (form : Form) → Allowed form line → meaning line ≡ command_of form line
  -- a line has one form at most
  pub one : (f g : Form) → Allowed f line → Allowed g line → f ≡ g
  -- a line of at most 1,024 bytes is allowed, or garbled where no allowed line goes on
  pub either : length line ≤ most → Fitting line ⊎ Astray line
  -- a longer line is garbled at 1,024
  pub over : most < length line → meaning line ≡ refused (Garbled most)
