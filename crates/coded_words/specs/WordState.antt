-- A word under the code, as its users see it.
use Rattle.std.specs.Prelude.{ℕ, ◌≤◌, nat_lt, List, length, if◌then◌else◌}
use Rattle.edac_code.specs.Reading.{read_of}
use Rattle.edac_code.specs.declared.answer.Read39.{Read39}
use Rattle.lf_model.specs.Flips.{Moment, standing, word_budget, turned_bits}
use Rattle.ft_cells.specs.declared.flipped.Flipped.{Flipped}
use Rattle.ft_cells.specs.declared.flipped.Flipped.TheVariants.{Applied, Declined}

-- the value last written, and what befell the word, the last moment first
pub record WordState : Type 0 where
  pub value : ℕ
  pub history : List Moment

-- a flip is applied where fewer flips than the budget stand, and else declined with their number
abbrev pub answer_by : ℕ → Flipped
answer_by hits = if nat_lt hits word_budget then Applied else Declined hits

abbrev pub flip_answer : List Moment → Flipped
flip_answer h = answer_by (length (standing word_budget h))

-- what the word reads as: by the bits that stand turned, it is clean, fixed or bad
unfoldable pub answer_of : WordState → Read39
answer_of word = read_of word.value (turned_bits word.history)

-- no more bits stand turned than the budget of flips
pub record IsInBudget (h : List Moment) : Type 0 where
  pub few : length (turned_bits h) ≤ word_budget
