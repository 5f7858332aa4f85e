-- A cell of 39 bits that keeps its word and its syndrome: the same bits in another basis.
use Rattle.std.specs.Prelude.{ℕ, ◌+◌, ◌*◌, ◌^◌, bit_xor}
use Rattle.edac_code.specs.Code.{check_bits}
use Rattle.edac_code.specs.declared.coded.Coded39.{Coded39}

-- the 39 bits of a cell by its word and its syndrome, which says where the stored check bits differ from those of the word
unfoldable pub cell_of : ℕ → ℕ → ℕ
cell_of word syndrome = bit_xor (check_bits word) syndrome * 2 ^ 32 + word

-- the 39 bits that a cell stands for
abbrev pub bits_of : Coded39 → ℕ
bits_of cell = cell_of cell.word cell.syndrome
