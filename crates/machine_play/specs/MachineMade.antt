-- What the machine has made so far, as the definitions of a schedule see it.
use Rattle.std.specs.Prelude.{ℕ, ◌≡◌, ◌-◌, ◌≤◌, Bool, true, false, List, [], length, map, IfSome, slice_get}
use Rattle.ahb_bus.specs.BusState.{BusState}
use Rattle.core_parts.specs.CoreValue.{CoreValue}
use Rattle.core_parts.specs.Phases.{state_of_core}
use Rattle.core_parts.specs.declared.phase.CoreState.{CoreState}
use Rattle.core_parts.specs.declared.phase.CoreState.TheVariants.{Running, Draining, Ended}
use Rattle.leon_core.specs.Moves.{store_steps}
use Rattle.lf_model.specs.Ledger.Account.{without_length}
use Rattle.lf_model.specs.Ledger.Steps.{own_transfers}
use Rattle.lf_model.specs.Promise.Turns.{CoreLeft, Actors, turn_of_transfer}
use Rattle.lf_model.specs.declared.bus.Transfer.{Transfer}
use Rattle.lf_model.specs.declared.setup.Setup.{Setup}
use Rattle.machine_play.specs.CoreMade.{CoreMade, IsMade, GoOnTo, left_of_each}
use Rattle.machine_play.specs.MachineValue.{MachineValue}

-- ---- a core

abbrev pub is_running : CoreState → Bool
is_running Running = true
is_running Draining = false
is_running (Ended end) = false

abbrev pub is_ended : CoreState → Bool
is_ended Running = false
is_ended Draining = false
is_ended (Ended end) = true

-- with these transfers on the bus
abbrev pub core_made : List Transfer → CoreValue → CoreMade
core_made transfers v = record {
  runs = is_running (state_of_core v);
  ended = is_ended (state_of_core v);
  steps = v.steps;
  stores = store_steps v.ops;
  transfers = own_transfers v.arch.core transfers;
  waiting = length v.ports.waiting;
}

-- ---- all of them

-- the transfers as a trace reports them
abbrev pub reported : BusState → List Transfer
reported bus = map without_length bus.transfers

abbrev pub made_of : MachineValue → List CoreMade
made_of m = map (core_made (reported m.bus)) m.cores

-- what is left of all actors, where these are all that the cores make up to their ends
abbrev pub actors_of : Setup → List CoreLeft → MachineValue → Actors
actors_of setup alls m = record {
  cores = left_of_each alls (made_of m);
  scrub_turns = setup.config.scrub_turns - m.walk.walk.turns;
  turns = map turn_of_transfer (reported m.bus);
}

abbrev pub all_at_start : Setup → List CoreLeft → Actors
all_at_start setup alls = record { cores = alls; scrub_turns = setup.config.scrub_turns; turns = [] }

-- ---- events

-- core number c of the machine, as its turns need it
pub record IsCoreMade (transfers : List Transfer) (c : ℕ) (v : CoreValue) : Type 0 where
  pub number : v.arch.core ≡ c
  pub made : IsMade (core_made transfers v)

abbrev pub AreMade : MachineValue → Type 0
AreMade m = (c : ℕ) → IfSome (slice_get m.cores c) (IsCoreMade (reported m.bus) c)

-- these events bring all actors to where the machine is, whatever its cores go on to make
abbrev pub ComesTo : Setup → (Actors → Actors) → MachineValue → Type 0
ComesTo setup events m = (alls : List CoreLeft) → GoOnTo alls (made_of m) → events (all_at_start setup alls) ≡ actors_of setup alls m

-- each core has ended, and the scrubber has made its turns
pub record HasEnded (setup : Setup) (m : MachineValue) : Type 0 where
  pub cores : (c : ℕ) → IfSome (slice_get m.cores c) (λ v. is_ended (state_of_core v) ≡ true)
  pub scrubber : setup.config.scrub_turns ≤ m.walk.walk.turns
