-- A ledger that follows the histories of its units: which flips stand in each, and each flip's fate, are those of the histories.
use Rattle.std.specs.Prelude.{◌≡◌, ◌≢◌, ℕ, ◌<◌, ◌≤◌, ◌==◌, ◌&&◌, Bool, true, false, List, [], ◌∷◌, ◌++◌, length, map, Option, Some, None, is_none}
use Rattle.lf_model.specs.Fates.{happened, strikes, stands, is_whole, fate_of}
use Rattle.lf_model.specs.Flips.{How, Moment, Standing, standing}
use Rattle.lf_model.specs.Flips.Moment.{Named}
use Rattle.flip_ledger.specs.Ledger.{Ledger, standing_in, state_at, fate_at}
use Rattle.flip_ledger.specs.Rule.{stood_in}
use Rattle.flip_ledger.specs.declared.record.FlipState.{FlipState}
use Rattle.flip_ledger.specs.declared.record.FlipState.TheVariants.{ToCome, Declined, Applied}
use Rattle.flip_ledger.specs.declared.record.Write.{Write}
use Rattle.flip_ledger.specs.declared.record.Write.TheVariants.{Whole, Correcting}

-- ---- histories of units, by their numbers

-- nothing happened to any unit yet
abbrev pub IsNew : (ℕ → List Moment) → Type 0
IsNew h = (unit : ℕ) → h unit ≡ []

-- this happens to a unit, and nothing to any other
pub record Gains (unit : ℕ) (moment : Moment) (old new : ℕ → List Moment) : Type 0 where
  pub here : new unit ≡ moment ∷ old unit
  pub others : (u : ℕ) → u ≢ unit → new u ≡ old u

-- an error trap named a unit when its history was that of the past; nothing else is different
pub record WasNamed (unit : ℕ) (past old new : ℕ → List Moment) : Type 0 where
  pub since : List Moment
  pub before : old unit ≡ since ++ past unit
  pub here : new unit ≡ since ++ Named ∷ past unit
  pub others : (u : ℕ) → u ≢ unit → new u ≡ old u

-- a way to write is whole, or corrects what it writes
abbrev pub is_whole_write : Write → Bool
is_whole_write Whole = true
is_whole_write Correcting = false

abbrev pub IsWrite : Write → How → Type 0
IsWrite write how = is_whole how ≡ is_whole_write write

-- flip number i struck the unit
abbrev pub has_struck : ℕ → List Moment → Bool
has_struck i h = happened (strikes i) h

-- ---- the ledger

abbrev pub number_of : Standing → ℕ
number_of flip = flip.number

-- the flip stands in this unit
abbrev pub stands_in : ℕ → FlipState → Bool
stands_in unit ToCome = false
stands_in unit Declined = false
stands_in unit (Applied stay) = stay.unit == unit && is_none stay.until

-- what is recorded of the flip came about by this turn
abbrev pub IsEndBy : ℕ → Option ℕ → Type 0
IsEndBy turn None = Unit {0}
IsEndBy turn (Some until) = until ≤ turn

abbrev pub IsPast : ℕ → FlipState → Type 0
IsPast turn ToCome = Unit {0}
IsPast turn Declined = Unit {0}
IsPast turn (Applied stay) = (stay.since ≤ turn) × IsEndBy turn stay.until

pub record Follows (budget : ℕ) (h : ℕ → List Moment) (l : Ledger) : Type 0 where
  -- the flips that stand in each unit are those of its history
  pub standing_is : (unit : ℕ) → unit < length l.standing → standing_in l unit ≡ map number_of (standing budget (h unit))
  -- a flip that struck a unit has the fate that the unit's history gives it
  pub fate_is : (i unit : ℕ) → unit < length l.standing → has_struck i (h unit) ≡ true → fate_at l i ≡ fate_of budget i (h unit)
  -- one that struck none is to come
  pub to_come : (i : ℕ) → ((unit : ℕ) → unit < length l.standing → has_struck i (h unit) ≡ false) → state_at l i ≡ ToCome
  -- a flip strikes one unit
  pub one_unit : (i a b : ℕ) → a < length l.standing → b < length l.standing → has_struck i (h a) ≡ true → has_struck i (h b) ≡ true → a ≡ b
  -- whether it stands there is recorded, and nothing that is still to come
  pub stay_is : (i unit : ℕ) → unit < length l.standing → stands_in unit (state_at l i) ≡ stands budget i (h unit)
  pub past : (i : ℕ) → IsPast l.turn (state_at l i)

-- a ledger remembers which flips stood in each unit as a turn ended, by the histories of then
pub record Remembers (budget turn : ℕ) (past : ℕ → List Moment) (l : Ledger) : Type 0 where
  pub stood : (i unit : ℕ) → unit < length l.standing → stood_in unit turn (state_at l i) ≡ stands budget i (past unit)

-- a ledger keeps its units and flips, its turn, and what it remembers of earlier turns
pub record Keeps (old new : Ledger) : Type 0 where
  pub units : length new.standing ≡ length old.standing
  pub flips : length new.flips ≡ length old.flips
  pub turn : new.turn ≡ old.turn
  pub remembers : (budget t : ℕ) (past : ℕ → List Moment) → t < old.turn → Remembers budget t past old → Remembers budget t past new
