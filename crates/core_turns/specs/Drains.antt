-- The drain of the store that has waited longest: what it asks, and what it leaves.
use Rattle.std.specs.Prelude.{◌+◌, Bool, List, [], ◌∷◌, drop, if◌then◌else◌}
use Rattle.core_laws.specs.SeenSoFar.{losing}
use Rattle.core_parts.specs.IsCore.{CanStore}
use Rattle.core_parts.specs.Losing.{first_number}
use Rattle.core_parts.specs.declared.parts.Parts.{Parts}
use Rattle.lf_model.specs.declared.bus.Pending.{Pending}
use Rattle.lf_model.specs.declared.setup.Setup.{Setup}

-- a store waits, and the first can drain
abbrev pub FirstCanStore : Setup → List Pending → Type 0
FirstCanStore setup [] = ⊥
FirstCanStore setup (p ∷ ps) = CanStore setup p

-- ---- the parts of the core after it

-- it reached memory, and the core has seen its own entry
abbrev pub store_drained : Parts → Parts
store_drained p = record p {
  buffer = record p.buffer { waiting = drop 1 p.buffer.waiting };
  «record» = record p.«record» { seen = p.«record».seen + 1 };
}

-- it is lost, and with it the stores after it
abbrev pub stores_dropped : Parts → Parts
stores_dropped p = record p {
  buffer = record p.buffer { waiting = [] };
  «record» = record p.«record» { ops = losing (first_number p.buffer.waiting) p.«record».ops };
}

abbrev pub drained_if : Bool → Parts → Parts
drained_if enters p = if enters then store_drained p else stores_dropped p
