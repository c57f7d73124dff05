-- The tables of states: what a row and a column are called, and how many computed states are not the published ones.
use Rattle.std.specs.Prelude.{ℕ, Bool, not, List, ◌++◌, codes, count_by, ◌==◌}
use Rattle.std.specs.Fmt.{decimal}
use Rattle.comparison.specs.declared.Row.{Row}
use Rattle.comparison.specs.declared.Row.TheVariants.{Input, Whitening, Round}
use Rattle.comparison.specs.declared.Column.{Column}
use Rattle.comparison.specs.declared.Column.TheVariants.{Cipher32, Cipher40, Tag, Tweak, Key}
use Rattle.comparison.specs.declared.Cell.{Cell}

abbrev pub row_name : Row → List ℕ
row_name Input = codes "input"
row_name Whitening = codes "whitening"
row_name (Round i) = codes "round " ++ decimal i

abbrev pub column_name : Column → List ℕ
column_name Cipher32 = codes "cipher"
column_name Cipher40 = codes "cipher"
column_name Tag = codes "tag"
column_name Tweak = codes "tweak"
column_name Key = codes "key"

-- the hexadecimal digits of a state in that column
abbrev pub digits_of : Column → ℕ
digits_of Cipher32 = 8
digits_of Cipher40 = 10
digits_of Tag = 8
digits_of Tweak = 16
digits_of Key = 32

abbrev pub differs : Cell → Bool
differs cell = not (cell.computed == cell.published)

abbrev pub differing : List Cell → ℕ
differing cells = count_by differs cells
