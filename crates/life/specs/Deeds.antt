-- What a call did, as its answer tells it.
use Rattle.std.specs.Prelude.{ℕ, Bool, cond, ◌||◌, List, ◌==◌}
use Rattle.life.specs.declared.Call.{Call}
use Rattle.life.specs.declared.Call.TheVariants.{Load, Install, Fetch, Overwrite}
use Rattle.life.specs.Coding.{Told}
use Rattle.life.specs.Coding.Told.{done, yielded, refused}

-- a key was loaded, an image (its bytes) installed, a slot overwritten with a number; a word was rejected; or nothing
pub data Deed : Type 0 where
  loaded : ℕ → Deed
  installed : List ℕ → Deed
  overwrote : ℕ → ℕ → Deed
  rejected : Deed
  nothing : Deed

abbrev pub accepted : Call → Deed
accepted (Load key) = loaded key
accepted (Install image) = installed image.now
accepted (Fetch address) = nothing
accepted (Overwrite slot number) = overwrote slot number

-- refusal 8, a foul record, and 11, a slot that does not decrypt, are rejections, and no other refusal is
abbrev pub is_rejection : ℕ → Bool
is_rejection number = number == 8 || number == 11

abbrev pub refused_with : ℕ → Deed
refused_with number = cond (is_rejection number) rejected nothing

abbrev pub deed_of : Call → Told → Deed
deed_of call done = accepted call
deed_of call (yielded i) = nothing
deed_of call (refused note) = refused_with note.number
