-- What a core's turn on the bus leaves of the core and of the bus.
use Rattle.std.specs.Prelude.{ℕ, ◌≡◌, true, List, map, Result, Ok, Err}
use Rattle.ahb_bus.specs.BusState.{BusState}
use Rattle.core_parts.specs.CoreValue.{CoreValue}
use Rattle.core_parts.specs.IsCore.{Waits}
use Rattle.core_parts.specs.Needs.{kind_of}
use Rattle.core_parts.specs.Work.{waiting_in}
use Rattle.core_turns.specs.MakesTurn.{bus_after}
use Rattle.lf_model.specs.Course.Turned.{turn_trap}
use Rattle.lf_model.specs.declared.bus.Bad.{Bad}
use Rattle.lf_model.specs.declared.bus.Pending.{Pending}
use Rattle.lf_model.specs.declared.step.Did.{Did}
use Rattle.lf_model.specs.declared.step.Did.TheVariants.{Stop}
use Rattle.lf_model.specs.declared.step.Turn.{Turn}
use Rattle.turn_course.specs.BusStep.{turned}

-- a turn is begun on the bus: its flips strike memory
abbrev pub turn_begun : BusState → BusState
turn_begun bus = record bus { begun = true }

-- what a turn comes to: what it does, or a stop by the bad word that it wants; number: of its transfer
abbrev pub did_of_turn : Turn → ℕ → Result Did Bad → Did
did_of_turn turn number (Ok did) = did
did_of_turn turn number (Err bad) = Stop (turn_trap (kind_of turn)) number bad.syn

-- before, after: the bus; pending: the stores that wait, with their numbers and steps, which are the last of those that the core made.
-- The core and the bus are what the definitions of a turn make of them.
pub record EndsTurn (turn : Turn) (old new : CoreValue) (before after : BusState) : Type 0 where
  pub pending : List Pending
  pub waiting : old.ports.waiting ≡ map waiting_in pending
  pub waits : Waits old.ops pending
  pub core : new ≡ turned (turn_begun before) turn pending old
  pub bus : after ≡ bus_after (turn_begun before) turn pending old
