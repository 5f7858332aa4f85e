-- The faults of a text that is read line by line: their words, and which one is told.
use Rattle.std.specs.Prelude.{ℕ, ◌≡◌, ◌+◌, ◌<◌, List, Option, Some, None, codes}
use Rattle.run_texts.specs.declared.error.TextWhy.{TextWhy}
use Rattle.run_texts.specs.declared.error.TextWhy.TheVariants.{Word, Many, Count, Number, Range}

-- the word that tells a fault
abbrev pub word_of : TextWhy → List ℕ
word_of Word = codes "word"
word_of Many = codes "many"
word_of Count = codes "count"
word_of Number = codes "number"
word_of Range = codes "range"

-- The line of this number, counted from 1, is the first faulty one, and this is its fault. Faults are given by the place
-- of a line, counted from 0.
pub record IsFirst (fault_at : ℕ → Option TextWhy) (line : ℕ) (why : TextWhy) : Type 0 where
  pub place : ℕ
  pub number : line ≡ place + 1
  pub fault : fault_at place ≡ Some why
  pub first : (earlier : ℕ) → earlier < place → fault_at earlier ≡ None
