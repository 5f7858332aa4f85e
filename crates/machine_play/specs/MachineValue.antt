-- The machine: its cores, the bus with the memory behind it, and the scrubber.
use Rattle.std.specs.Prelude.{List, slice_set, ℕ}
use Rattle.ahb_bus.specs.BusState.{BusState}
use Rattle.core_parts.specs.CoreValue.{CoreValue}
use Rattle.scrubber.specs.WalkState.{WalkState}

-- cores: by their numbers; walk: of the scrubber
pub record MachineValue : Type 0 where
  pub cores : List CoreValue
  pub bus : BusState
  pub walk : WalkState

-- core n made a step without a turn, and is this one now
abbrev pub with_core : ℕ → CoreValue → MachineValue → MachineValue
with_core n v m = record m { cores = slice_set m.cores n v }

-- core n made a turn, after which the bus is this one
abbrev pub with_core_turn : ℕ → CoreValue → BusState → MachineValue → MachineValue
with_core_turn n v bus m = record m { cores = slice_set m.cores n v; bus = bus }

-- the scrubber made a turn
abbrev pub with_scrub_turn : WalkState → BusState → MachineValue → MachineValue
with_scrub_turn walk bus m = record m { bus = bus; walk = walk }
