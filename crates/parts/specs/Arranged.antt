-- Two memories as one, in any arrangement.
use Rattle.std.specs.Prelude.{ℕ, ◌∷◌, ◌++◌, List, length, drop}
use Rattle.memory.specs.Slots.{Rest}
use Rattle.parts.specs.declared.arrangement.Arrangement.{Ghosts as Arrangement}
use Rattle.parts.specs.Laws.{Arranges}

module _ {A : Type 0} (arrangement : Arrangement A) where
  -- the law of the arrangement
  abbrev pub Lawful : Type 0
  Lawful = Arranges arrangement.held arrangement.slots arrangement.used_first arrangement.used_second arrangement.place

  -- the rest of both parts, and the slots of a part past those that are used
  abbrev pub arranged_rest : List ℕ → List ℕ → Rest → Rest → Rest
  arranged_rest a b r q =
      record {
        chips = r.chips ++ q.chips;
        unused = drop (arrangement.used_first (length a) (length b)) a ∷ drop (arrangement.used_second (length a) (length b)) b ∷ (r.unused ++ q.unused);
      }
