-- The text of a reply.
use Rattle.std.specs.Prelude.{ℕ, ◌+◌, ◌*◌, ◌/◌, ◌%◌, cond, List, [], ◌∷◌, ◌++◌, codes, decimal, ◌==◌, nat_lt}
use Rattle.refusal.specs.declared.Note.{Note}
use Rattle.refusal.specs.Table.{note_of}
use Rattle.life.specs.declared.Answer.{Answer}
use Rattle.life.specs.declared.Answer.TheVariants as answer
use Rattle.life.specs.declared.Status.{Status as StatusOf}
use Rattle.command.specs.declared.reply.Reply.{Reply}
use Rattle.command.specs.declared.reply.Reply.TheVariants.{Done, Instruction, Refused, Status}

-- the reply of a unit's answer
abbrev pub reply_of : Answer → Reply
reply_of answer.Done = Done
reply_of (answer.Instruction i) = Instruction i
reply_of (answer.Refused e) = Refused e

-- thousandths of the slots in use, rounded down
abbrev pub share_of : ℕ → ℕ → ℕ
share_of installed slots = cond (slots == 0) 0 (1000 * installed / slots)

-- the digit of a number below 16, in capitals
abbrev pub digit_text : ℕ → ℕ
digit_text d = cond (nat_lt d 10) (48 + d) (55 + d)

-- eight digits, the most significant first
abbrev pub word_text : ℕ → List ℕ
word_text i =
    digit_text (i / 268435456 % 16) ∷ digit_text (i / 16777216 % 16) ∷ digit_text (i / 1048576 % 16) ∷ digit_text (i / 65536 % 16)
    ∷ digit_text (i / 4096 % 16) ∷ digit_text (i / 256 % 16) ∷ digit_text (i / 16 % 16) ∷ digit_text (i % 16) ∷ []

abbrev pub note_text : Note → List ℕ
note_text n = codes "no " ++ (decimal n.number ++ (codes " " ++ (decimal n.place ++ (10 ∷ []))))

abbrev pub status_text : StatusOf → List ℕ
status_text s =
    codes "slots " ++ (decimal s.slots ++ (codes " used " ++ (decimal s.installed
    ++ (codes " share " ++ (decimal (share_of s.installed s.slots)
    ++ (codes " left " ++ (decimal s.strikes_left ++ (10 ∷ []))))))))

-- a reply, with the line feed that ends it
abbrev pub text_of : Reply → List ℕ
text_of Done = codes "ok" ++ (10 ∷ [])
text_of (Instruction i) = codes "ok " ++ (word_text i ++ (10 ∷ []))
text_of (Refused e) = note_text (note_of e)
text_of (Status s) = status_text s
