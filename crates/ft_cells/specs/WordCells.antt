-- The cell of a word, in memory or of a register: a protected cell of the (39,32) code. Its value is the word; of its toggled
-- bits 0 to 31 are data, 32 to 38 check bits.
use Rattle.std.specs.Prelude.{ℕ, Bool, ◌==◌, length}
use Rattle.lf_num.specs.Columns.{columns_sum}
use Rattle.ft_cells.specs.Cells as cells
use Rattle.ft_cells.specs.declared.flipped.Flipped.{Flipped}

-- the word last written, the set of bits toggled since, and the number of flips applied since
abbrev pub CellState : Type 0
CellState = cells.CellState ℕ

-- the bits of a cell
abbrev pub cell_bits : ℕ
cell_bits = 39

-- the flips that a cell takes between two writes
abbrev pub budget : ℕ
budget = 2

-- a cell whose word was just written
abbrev pub fresh : ℕ → CellState
fresh word = cells.fresh word

-- a cell after one more applied flip of a bit
abbrev pub flipped : CellState → ℕ → CellState
flipped cell bit = cells.flipped cell_bits cell bit

-- what a flip of a bit does to a cell, by its answer: below the budget it is applied; at the budget it is declined with the
-- number of flips, and changes nothing
abbrev pub FlipsCell : CellState → ℕ → Flipped → CellState → Type 0
FlipsCell old bit answer new = cells.FlipsCell cell_bits budget old bit answer new

-- a word is lost where two of its cell's bits are toggled
abbrev pub is_bad : CellState → Bool
is_bad cell = length cell.toggled == 2

-- and put right where one is
abbrev pub is_fixed : CellState → Bool
is_fixed cell = length cell.toggled == 1

-- the syndrome with which a cell reads: the sum modulo 2 of the columns of its toggled bits
abbrev pub syndrome_of : CellState → ℕ
syndrome_of cell = columns_sum cell.toggled
