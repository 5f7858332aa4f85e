-- How the register cells are kept.
use Rattle.std.specs.Prelude.{◌≡◌, length}
use Rattle.lf_model.specs.Course.Arrays.{register_cells}
use Rattle.lf_model.specs.Flips.{word_budget}
use Rattle.replay_arrays.specs.CellsState.{CellsState}
use Rattle.replay_arrays.specs.declared.cells.Cells.TheInside.{Inside}

abbrev pub seen : Inside → CellsState
seen cells = record { histories = cells.units.histories; flips = cells.units.flips }

pub record IsCells (cells : Inside) : Type 0 where
  pub budget : cells.units.budget ≡ word_budget
  pub count : length cells.units.histories ≡ register_cells
