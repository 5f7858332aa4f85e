-- The register cells of a core, as the replay has them.
use Rattle.std.specs.Prelude.{ℕ, List}
use Rattle.lf_model.specs.Flips.{Moment}

-- histories: what happened to each cell; flips: how many the script has
pub record CellsState : Type 0 where
  pub histories : List (List Moment)
  pub flips : ℕ
