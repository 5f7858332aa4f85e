-- How a cell is stored: its bits as a number, the flips that struck them since they were written, and what was written.
use Rattle.std.specs.Prelude.{◌≡◌, ℕ, ◌^◌, ◌<◌, ◌≤◌, Bool, true, length}
use Rattle.lf_num.specs.Toggles.{differing_places}
use Rattle.ft_cells.specs.Cells.{CellState}

-- the cell as its readers and writers know it: toggled are the bits that differ from the encoding of the value last written
abbrev pub state_of : {V : Type 0} → ℕ → ℕ → ℕ → V → ℕ → CellState V
state_of width bits code value hits = record { value = value; toggled = differing_places width bits code; hits = hits }

-- what holds of every cell; `valued` says that what was written is a value of the code
pub record AreStored (width budget bits code hits : ℕ) (valued : Bool) : Type 0 where
  pub value : valued ≡ true
  pub fits : bits < 2 ^ width
  pub in_budget : hits ≤ budget
  -- no more bits are toggled than flips were applied; so a cell without flips is the encoding of its value
  pub few : length (differing_places width bits code) ≤ hits
