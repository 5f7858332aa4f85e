-- Units that flips strike, by their histories.
use Rattle.std.specs.Prelude.{◌≡◌, ℕ, ◌<◌, false, List, ◌∷◌, length}
use Rattle.flip_ledger.specs.Follows.{has_struck}
use Rattle.lf_model.specs.Caches.Slot.{history_at, befalls}
use Rattle.lf_model.specs.Flips.{How, Moment}
use Rattle.lf_model.specs.Flips.Moment.{Written, Found, Named}

-- budget: how many flips a unit takes between two writes; histories: what happened to each unit; flips: how many the script has
pub record Units : Type 0 where
  pub budget : ℕ
  pub histories : List (List Moment)
  pub flips : ℕ

-- what can happen to a unit, beside the strike of a flip
abbrev pub written_by : How → List Moment → List Moment
written_by how h = Written how ∷ h

abbrev pub found : List Moment → List Moment
found h = Found ∷ h

abbrev pub named : List Moment → List Moment
named h = Named ∷ h

-- this happens to a unit
abbrev pub befallen : (List Moment → List Moment) → ℕ → Units → Units
befallen happen unit units = record units { histories = befalls happen unit units.histories }

-- a flip of the script has struck no unit
abbrev pub IsToCome : ℕ → List (List Moment) → Type 0
IsToCome number histories = (unit : ℕ) → unit < length histories → has_struck number (history_at unit histories) ≡ false
