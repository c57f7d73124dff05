use mathlib.Core.Path.{◌∙◌}
use mathlib.Core.List.{[], ◌∷◌}
use Rattle.paths.specs.Algorithm.{after, rows}
use Rattle.worked.proofs.Values.{worked}
use Rattle.worked.proofs.worked_values.Goals as goal

pub returns : goal.returns
unfolding rows after
returns c = record {
  table = worked;
  values = c.computed.ensures ∙ λ z.
      worked.whitened_data z ∷ worked.whitened_tag z ∷ worked.whitened_tweak z
      ∷ worked.chichi_sevens z ∷ worked.chichi_ones z ∷ worked.chichi_wide z ∷ worked.chichi_zero z
      ∷ worked.map_data z ∷ worked.map_tag z ∷ worked.map_tweak z ∷ [];
}
