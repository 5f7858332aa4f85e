-- An array of words under the code, as its users see it.
use Rattle.std.specs.Prelude.{◌≡◌, ℕ, ◌<◌, false, List, [], ◌∷◌, ◌++◌, length, slice_index, slice_set}
use Rattle.edac_code.specs.declared.answer.Read39.{Read39}
use Rattle.flip_ledger.specs.Follows.{has_struck}
use Rattle.lf_model.specs.Caches.Slot.{history_at, befalls}
use Rattle.lf_model.specs.Flips.{How, Moment}
use Rattle.lf_model.specs.Flips.Moment.{Written}
use Rattle.coded_words.specs.Past.{past_at, named_behind, named_since}
use Rattle.coded_words.specs.WordState.{WordState, answer_of}

-- values: those last written; histories: what befell each word; past: the histories as each earlier turn ended, from turn 0 on;
-- flips: how many the script has
pub record Words : Type 0 where
  pub values : List ℕ
  pub histories : List (List Moment)
  pub past : List (List (List Moment))
  pub flips : ℕ

abbrev pub value_of : WordState → ℕ
value_of word = word.value

abbrev pub history_of : WordState → List Moment
history_of word = word.history

-- the word at a place
abbrev pub word_in : Words → ℕ → WordState
word_in words place = record { value = slice_index words.values place; history = history_at place words.histories }

-- and what it reads as
abbrev pub answer_at : Words → ℕ → Read39
answer_at words place = answer_of (word_in words place)

-- a word is written
abbrev pub written_by : How → List Moment → List Moment
written_by how h = Written how ∷ h

abbrev pub written : How → ℕ → ℕ → Words → Words
written how place value words = record words { values = slice_set words.values place value; histories = befalls (written_by how) place words.histories }

-- a flip of the script has not come to any word
abbrev pub IsToCome : ℕ → List (List Moment) → Type 0
IsToCome number histories = (place : ℕ) → place < length histories → has_struck number (history_at place histories) ≡ false

-- a turn ends
abbrev pub ended : Words → Words
ended words = record words { past = words.past ++ words.histories ∷ [] }

-- a word was named as a turn ended
abbrev pub named_in : ℕ → ℕ → Words → Words
named_in place turn words = record words {
  histories = befalls (named_behind (history_at place (past_at turn words.past))) place words.histories;
  past = named_since turn place words.past;
}
