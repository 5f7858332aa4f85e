-- The columns of the (39,32) code: for each bit of a cell, which check bits it takes part in.
use Rattle.std.specs.Prelude.{ℕ, List, [], ◌∷◌, slice_index, bit_xor}

-- bit j of an entry is 1 where the bit of the cell takes part in check bit j
unfoldable pub columns : List ℕ
columns =
    -- data bits D0 to D7
    0x4f ∷ 0x4a ∷ 0x52 ∷ 0x54 ∷ 0x57 ∷ 0x58 ∷ 0x5b ∷ 0x5d
    -- D8 to D15
    ∷ 0x23 ∷ 0x25 ∷ 0x26 ∷ 0x29 ∷ 0x2a ∷ 0x2c ∷ 0x31 ∷ 0x34
    -- D16 to D23
    ∷ 0x0e ∷ 0x0b ∷ 0x13 ∷ 0x15 ∷ 0x16 ∷ 0x19 ∷ 0x1a ∷ 0x1c
    -- D24 to D31
    ∷ 0x62 ∷ 0x64 ∷ 0x67 ∷ 0x68 ∷ 0x6b ∷ 0x6d ∷ 0x70 ∷ 0x75
    -- check bits 0 to 6, each in its own check alone
    ∷ 0x01 ∷ 0x02 ∷ 0x04 ∷ 0x08 ∷ 0x10 ∷ 0x20 ∷ 0x40 ∷ []

-- the column of a bit of the cell: bits 0 to 31 are the data, bits 32 to 38 the check bits
unfoldable pub column : ℕ → ℕ
column bit = slice_index columns bit

-- the sum modulo 2 of the columns of a list of bits
abbrev pub columns_sum : List ℕ → ℕ
columns_sum [] = 0
columns_sum (bit ∷ bits) = bit_xor (columns_sum bits) (column bit)
