-- Flips of bits in one unit: a memory word, a register cell, or a tag byte or line byte of a cache. Which of them are
-- applied, which bits stand turned, and how a word reads, all by the unit's history. How many flips a unit takes between
-- two writes is this machine's own.
use Rattle.std.specs.Prelude.{ℕ, zero, suc, ◌%◌, ◌==◌, nat_lt, Bool, List, [], ◌∷◌, length, filter, if◌then◌else◌}
use Rattle.std.specs.List.{count_by}
use Rattle.lf_num.specs.Columns.{columns_sum}

-- how a unit is written. Whole: a store of its word, a fill, an own store to its byte, a drop or a flush that writes its
-- tag byte, a plain write of its register or one by trap entry. The others correct what they write: a part store, an
-- atomic, a fix of the scrubber, and the write-back of a register that a read put right.
pub data How : Type 0 where
  Whole : How
  ByPartStore : How
  ByAtomic : How
  ByFix : How
  ByReadBack : How

-- what happens to a unit: a flip of the script, named by its number, strikes a bit of it; it is written; a check finds it
-- struck and drops its line; an error trap names it
pub data Moment : Type 0 where
  Struck : (number bit : ℕ) → Moment
  Written : How → Moment
  Found : Moment
  Named : Moment

-- The history of a unit is the list of its moments, the last one first. It begins freshly written.

-- a flip that stands in a unit
pub record Standing : Type 0 where
  pub number : ℕ
  pub bit : ℕ

-- the flips that stand with one more, which is applied where fewer than the budget stand as it strikes
abbrev pub struck : ℕ → ℕ → ℕ → List Standing → List Standing
struck budget number bit flips = if nat_lt (length flips) budget then record { number = number; bit = bit } ∷ flips else flips

-- the flips that stand in a unit: those applied since it was last written, the last first
abbrev pub standing : ℕ → List Moment → List Standing
standing budget [] = []
standing budget (Struck number bit ∷ h) = struck budget number bit (standing budget h)
standing budget (Written how ∷ h) = []
standing budget (Found ∷ h) = standing budget h
standing budget (Named ∷ h) = standing budget h

-- the places below a width, the highest first
abbrev pub places_below : ℕ → List ℕ
places_below zero = []
places_below (suc place) = place ∷ places_below place

-- a bit stands turned where an odd number of the flips that stand struck it
abbrev pub is_turned : List Standing → ℕ → Bool
is_turned flips bit = count_by (λ flip. flip.bit == bit) flips % 2 == 1

-- the set of a unit's bits that stand turned, the highest first
abbrev pub turned : ℕ → List Standing → List ℕ
turned width flips = filter (is_turned flips) (places_below width)

-- ---- memory words, and register cells, of 39 bits

-- two flips are applied between two writes
abbrev pub word_budget : ℕ
word_budget = 2

abbrev pub word_bits : ℕ
word_bits = 39

-- the bits of a word that stand turned
abbrev pub turned_bits : List Moment → List ℕ
turned_bits h = turned word_bits (standing word_budget h)

-- a word reads clean, fixed or bad by the number of its bits that stand turned: none, one or two
abbrev pub is_fixed_word : List Moment → Bool
is_fixed_word h = length (turned_bits h) == 1

abbrev pub is_bad_word : List Moment → Bool
is_bad_word h = length (turned_bits h) == 2

-- its syndrome: the sum modulo 2 of the columns of the turned bits
abbrev pub syndrome : List Moment → ℕ
syndrome h = columns_sum (turned_bits h)

-- ---- tag bytes and line bytes, of 9 bits

-- one flip is applied between two writes, and the byte is struck while it stands
abbrev pub byte_budget : ℕ
byte_budget = 1

abbrev pub is_struck_byte : List Moment → Bool
is_struck_byte h = nat_lt 0 (length (standing byte_budget h))
