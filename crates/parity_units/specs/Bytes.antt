-- A byte under parity as it is kept, and by its history.
use Rattle.std.specs.Prelude.{◌≡◌, ◌≢◌, ℕ, ◌/◌, ◌%◌, ◌^◌, ◌==◌, ◌&&◌, ◌<◌, not, Bool, true, false, List, bit_xor, if◌then◌else◌}
use Rattle.ft_cells.specs.declared.flipped.Flipped.{Flipped}
use Rattle.ft_cells.specs.declared.flipped.Flipped.TheVariants.{Applied, Declined}
use Rattle.lf_model.specs.Flips.{Moment, standing, turned, byte_budget, is_struck_byte}
use Rattle.lf_num.specs.Toggles as toggles
use Rattle.parity_code.specs.Parity.{code, parity}
use Rattle.parity_units.specs.declared.byte.ParityByte.{ParityByte}

-- the bits of a byte: eight, and its parity
abbrev pub byte_bits : ℕ
byte_bits = 9

-- a byte that was just written
abbrev pub fresh_byte : ℕ → ParityByte
fresh_byte value = record { bits = code value; struck = false }

-- a byte after a flip of one of its bits: where one stands, the flip is declined, with their number
abbrev pub flipped_byte : ℕ → ParityByte → ParityByte
flipped_byte bit byte = if byte.struck then byte else record { bits = bit_xor byte.bits (2 ^ bit); struck = true }

-- its parity is not that of its eight bits; computed where a flip was applied since it was written
abbrev pub is_bad : ParityByte → Bool
is_bad byte = byte.struck && not (byte.bits / 2 ^ 8 == parity (byte.bits % 2 ^ 8))

abbrev pub answer_of : Bool → Flipped
answer_of struck = if struck then Declined 1 else Applied

-- the bits of a byte that stand flipped, by its history
abbrev pub flipped_bits : List Moment → List ℕ
flipped_bits h = turned byte_bits (standing byte_budget h)

-- a byte on which this value was last written, and which has this history
pub record IsByteOf (value : ℕ) (h : List Moment) (byte : ParityByte) : Type 0 where
  pub value_fits : value < 2 ^ 8
  pub fits : byte.bits < 2 ^ byte_bits
  -- its nine bits are those of the value, but for the flipped ones
  pub bits : byte.bits ≡ toggles.struck (code value) (flipped_bits h)
  pub struck : byte.struck ≡ is_struck_byte h
  -- and parity shows a flip
  pub shown : byte.struck ≡ true → byte.bits / 2 ^ 8 ≢ parity (byte.bits % 2 ^ 8)
