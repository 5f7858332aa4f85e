-- The cell of a unit, a memory word or a register, by the unit's history.
use Rattle.std.specs.Prelude.{◌≡◌, List, length}
use Rattle.lf_model.specs.Flips.{Moment, turned_bits, standing, word_budget}
use Rattle.ft_cells.specs.WordCells.{CellState}

-- a cell is as its unit's history has it: which bits stand turned, and how many flips
pub record IsCellOf (h : List Moment) (cell : CellState) : Type 0 where
  pub toggled : cell.toggled ≡ turned_bits h
  pub hits : cell.hits ≡ length (standing word_budget h)
