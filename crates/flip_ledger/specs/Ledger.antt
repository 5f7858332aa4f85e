-- The ledger of an array's flips: which of them stand in each unit, and what became of each.
use Rattle.std.specs.Prelude.{ℕ, List, [], ◌∷◌, slice_index_or, slice_set, if◌then◌else◌}
use Rattle.lf_model.specs.declared.trace.Fate.{Fate}
use Rattle.flip_ledger.specs.Rule.{met_by, fate_in, stood_in}
use Rattle.flip_ledger.specs.declared.record.Encounter.{Encounter}
use Rattle.flip_ledger.specs.declared.record.Encounter.TheVariants.{Named}
use Rattle.flip_ledger.specs.declared.record.FlipState.{FlipState}
use Rattle.flip_ledger.specs.declared.record.FlipState.TheVariants.{ToCome}

-- standing: the flips that stand in each unit, by their numbers in the script, the last one first; flips: each flip of the
-- script, in its order; turn: the current turn
pub record Ledger : Type 0 where
  pub standing : List (List ℕ)
  pub flips : List FlipState
  pub turn : ℕ

-- the flips that stand in a unit
abbrev pub standing_in : Ledger → ℕ → List ℕ
standing_in l unit = slice_index_or l.standing unit []

-- the flip of this number
abbrev pub flip_at : List FlipState → ℕ → FlipState
flip_at flips number = slice_index_or flips number ToCome

abbrev pub state_at : Ledger → ℕ → FlipState
state_at l number = flip_at l.flips number

-- its fate so far
abbrev pub fate_at : Ledger → ℕ → Fate
fate_at l number = fate_in (state_at l number)

-- the flip of this number meets with something in its unit, and the flips of these numbers do
abbrev pub met : Encounter → ℕ → List FlipState → List FlipState
met encounter number flips = slice_set flips number (met_by encounter (flip_at flips number))

abbrev pub settled : Encounter → List ℕ → List FlipState → List FlipState
settled encounter [] flips = flips
settled encounter (number ∷ numbers) flips = met encounter number (settled encounter numbers flips)

-- the flip was named where it stood in this unit as this turn ended
abbrev pub named_where : ℕ → ℕ → FlipState → FlipState
named_where unit turn flip = if stood_in unit turn flip then met_by Named flip else flip
