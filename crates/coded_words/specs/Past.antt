-- The histories of words as earlier turns ended, and what is different where an error trap named a word then.
use Rattle.std.specs.Prelude.{◌≡◌, ℕ, ◌-◌, List, [], ◌∷◌, ◌++◌, length, map, take, drop, slice_index_or}
use Rattle.lf_model.specs.Caches.Slot.{history_at, befalls}
use Rattle.lf_model.specs.Flips.{Moment}
use Rattle.lf_model.specs.Flips.Moment.{Named}

-- the histories as a turn ended
abbrev pub past_at : ℕ → List (List (List Moment)) → List (List Moment)
past_at turn past = slice_index_or past turn []

-- a history that goes on from an earlier one
pub record GoesOn (earlier h : List Moment) : Type 0 where
  pub since : List Moment
  pub is : h ≡ since ++ earlier

-- the history, where the word was named when it was the earlier one
abbrev pub named_behind : List Moment → List Moment → List Moment
named_behind earlier h = take (length h - length earlier) h ++ Named ∷ earlier

-- the histories as turns ended, where a word was named as one of them did: in all from that one on
abbrev pub named_since : ℕ → ℕ → List (List (List Moment)) → List (List (List Moment))
named_since turn place past = take turn past ++ map (befalls (named_behind (history_at place (past_at turn past))) place) (drop turn past)
