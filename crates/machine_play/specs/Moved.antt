-- What an event, or several of them, make of the machine.
use Rattle.std.specs.Prelude.{ℕ, ◌≡◌, ◌<◌, ◌+◌, ◌-◌, ◌==◌, ◌&&◌, ◌⊎◌, Bool, true, List, [], ◌∷◌, length, fold, IfSome, slice_get}
use Rattle.std.specs.List.{list_all, range_with_len}
use Rattle.ahb_bus.specs.BusState.{most_transfers}
use Rattle.core_parts.specs.CoreValue.{CoreValue}
use Rattle.core_parts.specs.Phases.{state_of_core}
use Rattle.lf_model.specs.Promise.Follows.{scheduled, rounds}
use Rattle.lf_model.specs.Promise.Turns.{Actors, event_made}
use Rattle.lf_model.specs.declared.setup.Actor.TheVariants.{Core, Scrub}
use Rattle.lf_model.specs.declared.setup.Event.{Event}
use Rattle.machine_play.specs.Machine.{IsMachine}
use Rattle.machine_play.specs.MachineMade.{is_ended, ComesTo}
use Rattle.machine_play.specs.MachineValue.{MachineValue}

-- ---- between two events it is a machine of its bus's setup
abbrev pub IsSound : MachineValue → Type 0
IsSound m = IsMachine m.bus.setup m

-- ---- events

-- setup, machine: it stays a machine of this setup; makes: whatever brings all actors to where it was, and then these events, bring
-- them to where it is
pub record IsMoved (events : Actors → Actors) (old new : MachineValue) : Type 0 where
  pub setup : new.bus.setup ≡ old.bus.setup
  pub machine : IsSound new
  pub makes : (before : Actors → Actors) → ComesTo old.bus.setup before old → ComesTo old.bus.setup (λ a. events (before a)) new

-- a round of so many cores and the scrubber
abbrev pub round_of : ℕ → Actors → Actors
round_of cores a = event_made 0 (fold (λ b n. event_made n b Core) a (range_with_len 0 cores)) Scrub

-- the same of so many rounds after the events of any schedule
pub record GoesRound (count : ℕ) (old new : MachineValue) : Type 0 where
  pub setup : new.bus.setup ≡ old.bus.setup
  pub machine : IsSound new
  pub makes : (events : List Event) → ComesTo old.bus.setup (λ a. fold scheduled a events) old → ComesTo old.bus.setup (λ a. rounds count (fold scheduled a events)) new

-- ---- what is left to be made

-- the steps that its cores may still make
abbrev pub steps_left : List CoreValue → ℕ
steps_left [] = 0
steps_left (v ∷ vs) = v.setup.config.steps - v.steps + steps_left vs

-- with the transfers that its masters may still make
abbrev pub left_in : MachineValue → ℕ
left_in m = steps_left m.cores + (most_transfers m.bus.setup.config - length m.bus.transfers)

-- ---- who is over

abbrev pub core_ended : CoreValue → Bool
core_ended v = is_ended (state_of_core v)

-- core n has ended, if there is one
abbrev pub IsCoreOver : ℕ → MachineValue → Type 0
IsCoreOver n m = IfSome (slice_get m.cores n) (λ v. core_ended v ≡ true)

-- the scrubber has made its turns
abbrev pub scrubber_over : MachineValue → Bool
scrubber_over m = m.bus.setup.config.scrub_turns - m.walk.walk.turns == 0

-- all of them
abbrev pub is_over : MachineValue → Bool
is_over m = list_all core_ended m.cores && scrubber_over m

-- an event makes some of what is left, unless those whose event it is are over: then it changes nothing
abbrev pub Advances : Type 0 → MachineValue → MachineValue → Type 0
Advances over old new = (over × (new ≡ old)) ⊎ (left_in new < left_in old)
