-- The (39,32) code: a cell of 39 bits holds a word in bits 0 to 31 and seven check bits in bits 32 to 38.
use Rattle.std.specs.Prelude.{ℕ, ◌+◌, ◌*◌, ◌/◌, ◌%◌, ◌^◌, bit_xor}
use Rattle.std.specs.Int.{bit_at}
use Rattle.lf_num.specs.Bits.{sum_below}
use Rattle.lf_num.specs.Columns.{column}

-- the check bits that are stored inverted, 2 and 3, as bits of a number
abbrev pub inverted_checks : ℕ
inverted_checks = 0x0c

-- check bit j of a word: the sum modulo 2 of the data bits whose column has bit j, and then inverted for j = 2 and j = 3
unfoldable pub check_bit : ℕ → ℕ → ℕ
check_bit word j = (sum_below 32 (λ i. bit_at word i * bit_at (column i) j) + bit_at inverted_checks j) % 2

-- the check bits 0 to 6 of a word as one number
unfoldable pub check_bits : ℕ → ℕ
check_bits word = sum_below 7 (λ j. check_bit word j * 2 ^ j)

-- the cell that holds a word
unfoldable pub code : ℕ → ℕ
code word = check_bits word * 2 ^ 32 + word

-- the word that a cell's data bits show
abbrev pub data_of : ℕ → ℕ
data_of cell = cell % 2 ^ 32

-- the syndrome of a cell: a bit is 1 where the stored check bit differs from the one that the stored data gives
unfoldable pub syndrome : ℕ → ℕ
syndrome cell = bit_xor (cell / 2 ^ 32) (check_bits (data_of cell))
