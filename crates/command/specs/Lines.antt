-- What a line means.
use Rattle.std.specs.Prelude.{◌≡◌, ℕ, ◌-◌, ◌≤◌, cond, List, length, take, drop, Some, None, Ok, Err, Option, Result, nat_lt, slice_index}
use Rattle.refusal.specs.declared.Refusal.{Refusal}
use Rattle.refusal.specs.declared.Refusal.TheVariants.{Garbled}
use Rattle.command.specs.declared.forms.Form.{Form}
use Rattle.command.specs.declared.forms.Form.TheVariants.{Key, Image, Fetch, Write, Status}
use Rattle.command.specs.declared.words.Word.{Word}
use Rattle.command.specs.declared.words.Words.{Words}
use Rattle.command.specs.declared.words.Words.TheVariants as word
use Rattle.command.specs.declared.words.Command.{Command}
use Rattle.command.specs.declared.words.Command.TheVariants as says
use Rattle.command.specs.Digits.{value_of, bytes_of}
use Rattle.command.specs.Forms.{most, form_of, wrong_at, fits}

-- a line is refused, asks for the status, or is a call of the unit
pub data Meaning : Type 0 where
  refused : Refusal → Meaning
  status : Meaning
  load : ℕ → Meaning
  install : List ℕ → Meaning
  fetch : ℕ → Meaning
  overwrite : ℕ → ℕ → Meaning

-- the word of n bytes at a place
abbrev pub word_at : List ℕ → ℕ → ℕ → List ℕ
word_at line place n = take n (drop place line)

abbrev pub command_of : Form → List ℕ → Meaning
command_of Key line = load (value_of (word_at line 2 32))
command_of Image line = install (bytes_of (word_at line 2 (length line - 2)))
command_of Fetch line = fetch (value_of (word_at line 2 8))
command_of Write line = overwrite (value_of (word_at line 2 5)) (value_of (word_at line 8 12))
command_of Status line = status

abbrev pub meaning_by : Option Form → List ℕ → Meaning
meaning_by None line = refused (Garbled 0)
meaning_by (Some form) line = cond (fits form line) (command_of form line) (refused (Garbled (wrong_at form line)))

abbrev pub meaning : List ℕ → Meaning
meaning line = cond (nat_lt most (length line)) (refused (Garbled most)) (meaning_by (form_of (slice_index line 0)) line)

-- what cut words say
abbrev pub said_by : Words → Meaning
said_by (word.Key w) = load (value_of w.digits.now)
said_by (word.Image w) = install (bytes_of w.digits.now)
said_by (word.Address w) = fetch (value_of w.digits.now)
said_by (word.Write slot number) = overwrite (value_of slot.digits.now) (value_of number.digits.now)
said_by word.Nothing = status

-- how long each word is
abbrev pub Sized : Words → Type 0
Sized (word.Key w) = length w.digits.now ≡ 32
Sized (word.Image w) = length w.digits.now ≤ 1022
Sized (word.Address w) = length w.digits.now ≡ 8
Sized (word.Write slot number) = (length slot.digits.now ≡ 5) × (length number.digits.now ≡ 12)
Sized word.Nothing = Unit {0}

-- a word is the part of the line at its place, and so is each word of a line
abbrev pub LiesAt : List ℕ → Word → Type 0
LiesAt line w = w.digits.now ≡ word_at line w.place (length w.digits.now)

abbrev pub Lies : List ℕ → Words → Type 0
Lies line (word.Key w) = LiesAt line w
Lies line (word.Image w) = LiesAt line w
Lies line (word.Address w) = LiesAt line w
Lies line (word.Write slot number) = LiesAt line slot × LiesAt line number
Lies line word.Nothing = Unit {0}

-- what a command means, with the bytes of an image in a buffer
abbrev pub commanded : Command → List ℕ → Meaning
commanded (says.Load key) image = load key
commanded (says.Install size) image = install (take size image)
commanded (says.Fetch address) image = fetch address
commanded (says.Overwrite slot number) image = overwrite slot number
commanded says.Status image = status

abbrev pub meant : Result Command Refusal → List ℕ → Meaning
meant (Ok command) image = commanded command image
meant (Err refusal) image = refused refusal

-- the buffer is as it was, but for the bytes of an image
abbrev pub Spared : Command → List ℕ → List ℕ → Type 0
Spared (says.Load key) before after = after ≡ before
Spared (says.Install size) before after = drop size after ≡ drop size before
Spared (says.Fetch address) before after = after ≡ before
Spared (says.Overwrite slot number) before after = after ≡ before
Spared says.Status before after = after ≡ before

-- the buffer holds the whole image
abbrev pub Within : Command → Type 0
Within (says.Load key) = Unit {0}
Within (says.Install size) = size ≤ 512
Within (says.Fetch address) = Unit {0}
Within (says.Overwrite slot number) = Unit {0}
Within says.Status = Unit {0}
