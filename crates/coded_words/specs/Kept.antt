-- How an array of words is kept.
use Rattle.std.specs.Prelude.{◌≡◌, ℕ, ◌<◌, ◌≤◌, List, length, map}
use Rattle.flip_ledger.specs.Follows.{Follows, Remembers}
use Rattle.flip_ledger.specs.Ledger.{Ledger}
use Rattle.lf_model.specs.Caches.Slot.{history_at}
use Rattle.lf_model.specs.Flips.{Moment, word_budget}
use Rattle.coded_words.specs.Past.{past_at, GoesOn}
use Rattle.coded_words.specs.Words.{Words, value_of, history_of}
use Rattle.coded_words.specs.declared.words.CodedWords.TheInside.{Inside}

abbrev pub seen : Inside → Words
seen words = record {
  values = map value_of words.words.items;
  histories = map history_of words.words.items;
  past = words.past;
  flips = length words.ledger.flips;
}

-- the history of each unit of the ledger
abbrev pub unit_histories : List (List Moment) → ℕ → List Moment
unit_histories histories unit = history_at unit histories

-- The ledger remembers the past: each history goes on from those of earlier turns.
pub record IsRemembered (histories : List (List Moment)) (past : List (List (List Moment))) (l : Ledger) : Type 0 where
  pub turn : l.turn ≡ length past
  pub lengths : (t : ℕ) → t < length past → length (past_at t past) ≡ length histories
  pub goes_on : (t unit : ℕ) → t < length past → GoesOn (history_at unit (past_at t past)) (history_at unit histories)
  pub went_on : (s t unit : ℕ) → s ≤ t → t < length past → GoesOn (history_at unit (past_at s past)) (history_at unit (past_at t past))
  pub remembers : (t : ℕ) → t < length past → Remembers word_budget t (unit_histories (past_at t past)) l

pub record IsKept (words : Inside) : Type 0 where
  pub units : length words.ledger.standing ≡ length words.words.items
  pub follows : Follows word_budget (unit_histories (map history_of words.words.items)) words.ledger
  pub remembered : IsRemembered (map history_of words.words.items) words.past words.ledger
