-- The bits that the standing flips of a unit struck, as they are stored.
use Rattle.std.specs.Prelude.{ℕ, ◌<◌, List, [], ◌∷◌}
use Rattle.lf_model.specs.Flips.{Standing, word_bits}
use Rattle.replay_units.specs.declared.bits.Bits.{Bits}
use Rattle.replay_units.specs.declared.bits.Bits.TheVariants.{Empty, One, Two}

-- the bits, that of the last flip first
abbrev pub bits_of : Bits → List ℕ
bits_of Empty = []
bits_of (One bit) = bit ∷ []
bits_of (Two older newer) = newer ∷ older ∷ []

abbrev pub bit_of : Standing → ℕ
bit_of flip = flip.bit

-- a bit of a word, or of its check bits
abbrev pub IsPlace : ℕ → Type 0
IsPlace bit = bit < word_bits
