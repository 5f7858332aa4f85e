-- What a cell of 39 bits reads as.
use Rattle.std.specs.Prelude.{◌≡◌, ◌≢◌, ℕ, ◌^◌, ◌<◌, ◌≤◌, List, [], ◌∷◌, length, bit_xor}
use Rattle.lf_num.specs.Columns.{column, columns_sum}
use Rattle.lf_num.specs.Toggles.{struck, IsPlaceSet, differing_places}
use Rattle.edac_code.specs.Code.{code, syndrome, data_of}
use Rattle.edac_code.specs.declared.answer.Read39.{Read39}
use Rattle.edac_code.specs.declared.answer.Read39.TheVariants.{Clean, Fixed, Bad}

-- the rule, for any cell: syndrome 0 reads clean; a syndrome that is a column reads fixed, with that bit turned back; any other reads bad
abbrev pub ReadsBySyndrome : ℕ → Read39 → Type 0
ReadsBySyndrome cell (Clean word) = (syndrome cell ≡ 0) × (word ≡ data_of cell)
ReadsBySyndrome cell (Fixed word bit) = (bit < 39) × (syndrome cell ≡ column bit) × (word ≡ data_of (bit_xor cell (2 ^ bit)))
ReadsBySyndrome cell (Bad s) = (syndrome cell ≡ s) × (s ≢ 0) × ((bit : ℕ) → bit < 39 → s ≢ column bit)

-- what a word reads as, by the size of the set of bits of its cell that were turned
abbrev pub read_of : ℕ → List ℕ → Read39
read_of word [] = Clean word
read_of word (bit ∷ []) = Fixed word bit
read_of word (bit ∷ bits) = Bad (columns_sum (bit ∷ bits))

-- the promise: a cell that differs from a word's encoding by a set of at most two bits reads by the size of that set
abbrev pub ReadsStruck : ℕ → Read39 → Type 0
ReadsStruck cell answer =
    (word : ℕ) (turned : List ℕ) → word < 2 ^ 32 → IsPlaceSet 39 turned → length turned ≤ 2
    → cell ≡ struck (code word) turned → answer ≡ read_of word turned

-- a cell that differs from a word's encoding by a set of bits, of any size, has the sum modulo 2 of their columns as its syndrome
abbrev pub HasStruckSyndrome : ℕ → ℕ → Type 0
HasStruckSyndrome cell s =
    (word : ℕ) (turned : List ℕ) → word < 2 ^ 32 → IsPlaceSet 39 turned → cell ≡ struck (code word) turned → s ≡ columns_sum turned

-- the bits of a cell that differ from a word's encoding: those that were turned since the word was written
abbrev pub turned_bits : ℕ → ℕ → List ℕ
turned_bits cell word = differing_places 39 cell (code word)

-- the promise again, of any cell and any word: where at most two bits differ, the cell reads by the size of their set
abbrev pub ReadsByTurnedBits : ℕ → Read39 → Type 0
ReadsByTurnedBits cell answer =
    (word : ℕ) → word < 2 ^ 32 → length (turned_bits cell word) ≤ 2 → answer ≡ read_of word (turned_bits cell word)

-- the syndrome is the sum modulo 2 of the columns of the bits that differ, whatever their number
abbrev pub IsSumOfTurnedBits : ℕ → ℕ → Type 0
IsSumOfTurnedBits cell s = (word : ℕ) → word < 2 ^ 32 → s ≡ columns_sum (turned_bits cell word)
