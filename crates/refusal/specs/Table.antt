-- The table of refusals: number, place and layer of each.
use Rattle.std.specs.Prelude.{ℕ, List, ◌++◌, Some, None, Option, codes, decimal}
use Rattle.refusal.specs.declared.HeaderField.{HeaderField}
use Rattle.refusal.specs.declared.HeaderField.TheVariants.{Form, TagLength, Count, Base}
use Rattle.refusal.specs.declared.Layer.{Layer}
use Rattle.refusal.specs.declared.Layer.TheVariants.{Image, Cipher, Memory, Unit, Draft, Console}
use Rattle.refusal.specs.declared.Note.{Note}
use Rattle.refusal.specs.declared.Refusal.{Refusal}
use Rattle.refusal.specs.declared.Refusal.TheVariants.{Stub, BadHeader, Misfit, PastEnd, BadTagLength, Foreign, FoulRecord, Rejected, NoSlot, TooWide, NoKey, Stale, TooBig, Odd, OffMap, KeyInUse, BadDraft, ShortBuffer, DraftFull, DraftShort, Garbled}

-- the bit of the header at which a field begins
abbrev pub bit_of : HeaderField → ℕ
bit_of Form = 0
bit_of TagLength = 3
bit_of Count = 46
bit_of Base = 16

-- the version in force, or 0
abbrev pub version_or0 : Option ℕ → ℕ
version_or0 (Some v) = v
version_or0 None = 0

abbrev pub told : ℕ → ℕ → Layer → Note
told n p l = record { number = n; place = p; layer = l }

abbrev pub note_of : Refusal → Note
note_of NoKey = told 1 0 Unit
note_of (Stub length) = told 2 length Image
note_of (BadHeader field) = told 3 (bit_of field) Image
note_of BadTagLength = told 3 3 Cipher
note_of (Misfit length) = told 4 length Image
note_of Foreign = told 5 2 Cipher
note_of (Stale version) = told 6 (version_or0 version) Unit
note_of (TooBig slots) = told 7 slots Unit
note_of (FoulRecord index) = told 8 index Cipher
note_of (Odd address) = told 9 address Unit
note_of (OffMap address) = told 10 address Unit
note_of (Rejected address) = told 11 address Cipher
note_of (NoSlot slot) = told 12 slot Memory
note_of (TooWide slot) = told 13 slot Memory
note_of KeyInUse = told 14 0 Unit
note_of BadDraft = told 15 0 Draft
note_of (ShortBuffer needed) = told 16 needed Draft
note_of (DraftFull put) = told 17 put Draft
note_of (DraftShort put) = told 18 put Draft
note_of (PastEnd count) = told 19 count Image
note_of (Garbled at) = told 20 at Console

-- ---- how a refusal is printed
abbrev pub layer_name : Layer → List ℕ
layer_name Image = codes "image"
layer_name Cipher = codes "cipher"
layer_name Memory = codes "memory"
layer_name Unit = codes "unit"
layer_name Draft = codes "draft"
layer_name Console = codes "console"

abbrev pub refusal_text : Note → List ℕ
refusal_text n = codes "refused " ++ decimal n.number ++ codes " at " ++ decimal n.place ++ codes " (" ++ layer_name n.layer ++ codes ")"
