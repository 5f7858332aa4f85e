-- The rule of fates, one encounter at a time. A flip's fate is the first that holds in the order in which they are tried, so
-- an encounter changes it only to one that is tried before.
use Rattle.std.specs.Prelude.{ℕ, ◌==◌, ◌&&◌, nat_lt, nat_le, Bool, true, false, Option, Some, None, if◌then◌else◌}
use Rattle.lf_model.specs.declared.trace.Fate.{Fate}
use Rattle.lf_model.specs.declared.trace.Fate.TheVariants as fates
use Rattle.flip_ledger.specs.declared.record.Encounter.{Encounter}
use Rattle.flip_ledger.specs.declared.record.Encounter.TheVariants.{Found, Named, Written}
use Rattle.flip_ledger.specs.declared.record.FlipState.{FlipState}
use Rattle.flip_ledger.specs.declared.record.FlipState.TheVariants.{ToCome, Declined, Applied}
use Rattle.flip_ledger.specs.declared.record.Stay.{Stay}
use Rattle.flip_ledger.specs.declared.record.Write.{Write}
use Rattle.flip_ledger.specs.declared.record.Write.TheVariants.{Whole, Correcting}

-- the order in which fates are tried
abbrev pub place_of : Fate → ℕ
place_of fates.Late = 0
place_of fates.Declined = 1
place_of fates.Discarded = 2
place_of fates.Repaired = 3
place_of fates.Stopped = 4
place_of fates.Overwritten = 5
place_of fates.Dormant = 6

-- the one of two that is tried first
abbrev pub earlier : Fate → Fate → Fate
earlier first second = if nat_lt (place_of first) (place_of second) then first else second

-- the fate that a write gives, and that an encounter gives
abbrev pub fate_by_write : Write → Fate
fate_by_write Whole = fates.Overwritten
fate_by_write Correcting = fates.Repaired

abbrev pub fate_by : Encounter → Fate
fate_by Found = fates.Discarded
fate_by Named = fates.Stopped
fate_by (Written write turn) = fate_by_write write

-- a write ends a stay that has not ended
abbrev pub ended_in : ℕ → Option ℕ → Option ℕ
ended_in turn None = Some turn
ended_in turn (Some until) = Some until

abbrev pub ended_by : Encounter → Option ℕ → Option ℕ
ended_by Found until = until
ended_by Named until = until
ended_by (Written write turn) until = ended_in turn until

abbrev pub stay_by : Encounter → Stay → Stay
stay_by encounter stay = record stay { until = ended_by encounter stay.until; fate = earlier (fate_by encounter) stay.fate }

-- the state of a flip after an encounter
abbrev pub met_by : Encounter → FlipState → FlipState
met_by encounter ToCome = ToCome
met_by encounter Declined = Declined
met_by encounter (Applied stay) = Applied (stay_by encounter stay)

-- its fate so far
abbrev pub fate_in : FlipState → Fate
fate_in ToCome = fates.Late
fate_in Declined = fates.Declined
fate_in (Applied stay) = stay.fate

-- a stay with this end lasted when this turn ended
abbrev pub lasts : ℕ → Option ℕ → Bool
lasts turn None = true
lasts turn (Some until) = nat_lt turn until

-- the flip stood in the unit as this turn ended
abbrev pub stood_in : ℕ → ℕ → FlipState → Bool
stood_in unit turn ToCome = false
stood_in unit turn Declined = false
stood_in unit turn (Applied stay) = (stay.unit == unit && nat_le stay.since turn) && lasts turn stay.until
