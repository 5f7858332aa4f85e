-- What holds of the machine between two events.
use Rattle.leon_core.specs.Moves.{store_steps}
use Rattle.std.specs.Prelude.{ℕ, ◌≡◌, ◌<◌, false, List, length, IfSome, slice_get}
use Rattle.std.specs.List.{AllByRecursion}
use Rattle.ahb_bus.specs.BusOk.{BusOk}
use Rattle.ahb_bus.specs.BusState.{BusState}
use Rattle.core_course.specs.Calls.{Joins}
use Rattle.core_parts.specs.CoreValue.{CoreValue}
use Rattle.core_parts.specs.declared.phase.Phase.{Phase}
use Rattle.core_parts.specs.declared.phase.Phase.TheVariants.{Between, Begun, Needs, Ended}
use Rattle.lf_model.specs.Bus.Walk.{walk_after, WalkAt}
use Rattle.lf_model.specs.declared.bus.Transfer.{Transfer}
use Rattle.lf_model.specs.declared.setup.Setup.{Setup}
use Rattle.machine_play.specs.MachineValue.{MachineValue}
use Rattle.scrubber.specs.WalkState.{WalkState}

-- no step is begun
abbrev pub IsAtRest : Phase → Type 0
IsAtRest Between = Unit {0}
IsAtRest Begun = ⊥
IsAtRest (Needs turn) = ⊥
IsAtRest (Ended end) = Unit {0}

-- core number c beside the bus: it is of this setup, no step of it is begun, each of its stores retired in a step that it made, and what
-- came to the log and to the transfers since its last turn is others'
pub record IsCoreAt (setup : Setup) (bus : BusState) (c : ℕ) (v : CoreValue) : Type 0 where
  pub setup_is : v.setup ≡ setup
  pub number : v.arch.core ≡ c
  pub rests : IsAtRest v.phase
  pub stores_made : AllByRecursion (λ step. step < v.steps) (store_steps v.ops)
  pub joins : Joins v bus.log bus.transfers

-- the scrubber's transfers on the bus are those of its walk so far
pub record IsScrubberAt (setup : Setup) (transfers : List Transfer) (s : WalkState) : Type 0 where
  pub config : s.config ≡ setup.config
  pub walk_is : s.walk ≡ walk_after setup.config.scrub transfers
  pub each : (turn : ℕ) → turn < length transfers → WalkAt setup.config.scrub transfers turn

-- one core for each number, the bus of this setup with no turn begun, and the scrubber
pub record IsMachine (setup : Setup) (m : MachineValue) : Type 0 where
  pub one_each : length m.cores ≡ setup.config.cores
  pub cores : (c : ℕ) → IfSome (slice_get m.cores c) (IsCoreAt setup m.bus c)
  pub bus_setup : m.bus.setup ≡ setup
  pub bus_ok : BusOk m.bus
  pub idle : m.bus.begun ≡ false
  pub scrubber_at : IsScrubberAt setup m.bus.transfers m.walk
