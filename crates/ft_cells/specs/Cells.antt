-- A protected cell, as its readers and writers know it, and what upsets do to it.
use Rattle.std.specs.Prelude.{◌≡◌, ℕ, ◌+◌, ◌<◌, ◌≤◌, List, [], length}
use Rattle.lf_num.specs.Toggles.{IsPlaceSet}
use Rattle.ft_cells.specs.Toggling.{with_toggled}
use Rattle.ft_cells.specs.declared.flipped.Flipped.{Flipped}
use Rattle.ft_cells.specs.declared.flipped.Flipped.TheVariants.{Applied, Declined}

-- what a cell holds, and what struck it since it was written
pub record CellState (V : Type 0) : Type 0 where
  -- the value last written
  pub value : V
  -- the set of bits flipped an odd number of times since, the highest first
  pub toggled : List ℕ
  -- the number of flips applied since
  pub hits : ℕ

-- what holds of every cell of this many bits and budget
pub record IsCell {V : Type 0} (bits budget : ℕ) (cell : CellState V) : Type 0 where
  pub set : IsPlaceSet bits cell.toggled
  -- no more bits are toggled than flips were applied
  pub few : length cell.toggled ≤ cell.hits
  pub in_budget : cell.hits ≤ budget

-- a cell that was just written
abbrev pub fresh : {V : Type 0} → V → CellState V
fresh value = record { value = value; toggled = []; hits = 0 }

-- a cell of this many bits after one more applied flip of a bit
abbrev pub flipped : {V : Type 0} → ℕ → CellState V → ℕ → CellState V
flipped bits cell bit = record cell { toggled = with_toggled bits cell.toggled bit; hits = cell.hits + 1 }

-- what a flip of a bit does to a cell of this many bits that takes a budget of flips between two writes, by its answer: below
-- the budget it is applied; at the budget it is declined with the number of flips, and changes nothing
abbrev pub FlipsCell : {V : Type 0} → ℕ → ℕ → CellState V → ℕ → Flipped → CellState V → Type 0
FlipsCell bits budget old bit Applied new = (old.hits < budget) × (new ≡ flipped bits old bit)
FlipsCell bits budget old bit (Declined hits) new = (old.hits ≡ budget) × (hits ≡ old.hits) × (new ≡ old)
