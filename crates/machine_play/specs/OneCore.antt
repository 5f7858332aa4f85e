-- What an event makes of one core and of the bus. old, new: the core; before, after: the bus.
use Rattle.leon_core.specs.Moves.{StoresIn, store_steps}
use Rattle.std.specs.Prelude.{◌≡◌, ◌<◌, ◌+◌, ◌⊎◌, Bool, true, false, List, length}
use Rattle.ahb_bus.specs.BusState.{BusState}
use Rattle.core_course.specs.CoreOk.{CoreOk}
use Rattle.core_parts.specs.Completes.{Keeps}
use Rattle.core_parts.specs.CoreValue.{CoreValue}
use Rattle.core_parts.specs.Phases.{state_of_core}
use Rattle.core_parts.specs.declared.phase.CoreState.TheVariants.{Running, Draining}
use Rattle.lf_model.specs.Names.{same_why}
use Rattle.lf_model.specs.declared.bus.Entry.{Entry}
use Rattle.lf_model.specs.declared.bus.Transfer.{Transfer}
use Rattle.lf_model.specs.declared.bus.Why.TheVariants.{Sched}
use Rattle.machine_play.specs.BusTurn.{IsTurnOf}
use Rattle.machine_play.specs.Machine.{IsAtRest, IsCoreAt}
use Rattle.machine_play.specs.MachineMade.{is_running, is_ended}

-- a core of the machine whose bus this is; no turn is begun
pub record IsBeside (v : CoreValue) (bus : BusState) : Type 0 where
  pub core : IsCoreAt bus.setup bus v.arch.core v
  pub within : v.arch.core < bus.setup.config.cores
  pub idle : bus.begun ≡ false

-- ---- what it makes

-- a step without a turn
pub record StepsWithoutTurn (old new : CoreValue) (before after : BusState) : Type 0 where
  pub runs : state_of_core old ≡ Running
  pub keeps : Keeps old new
  pub rests : IsAtRest new.phase
  pub steps : new.steps ≡ old.steps + 1
  pub stores : StoresIn old.steps (store_steps old.ops) (store_steps new.ops)
  pub ok : (log : List Entry) (transfers : List Transfer) → CoreOk old log transfers → CoreOk new log transfers
  pub bus : after ≡ before

-- a turn, in the step after those that it made; scheduled: the schedule asks for it
pub record MakesTurn (scheduled : Bool) (old new : CoreValue) (before after : BusState) : Type 0 where
  pub transfer : Transfer
  pub entries : List Entry
  pub turn : IsTurnOf old.arch.core transfer entries before after
  pub in_step : transfer.step ≡ old.steps
  pub cause : same_why transfer.why Sched ≡ scheduled
  pub keeps : Keeps old new
  pub rests : IsAtRest new.phase
  pub ok : CoreOk new after.log after.transfers

-- the turn ends a step
pub record StepsWithTurn (scheduled : Bool) (old new : CoreValue) (before after : BusState) : Type 0 where
  pub runs : state_of_core old ≡ Running
  pub makes : MakesTurn scheduled old new before after
  pub steps : new.steps ≡ old.steps + 1
  pub stores : StoresIn old.steps (store_steps old.ops) (store_steps new.ops)

-- or it is a drain after the last step
pub record DrainsAtEnd (old new : CoreValue) (before after : BusState) : Type 0 where
  pub drains : state_of_core old ≡ Draining
  pub makes : MakesTurn false old new before after
  pub still : is_running (state_of_core new) ≡ false
  pub steps : new.steps ≡ old.steps
  pub stores : store_steps new.ops ≡ store_steps old.ops

-- nothing changes
pub record Stays (old new : CoreValue) (before after : BusState) : Type 0 where
  pub core : new ≡ old
  pub bus : after ≡ before

-- ---- its events

-- its next step
abbrev pub MakesStep : CoreValue → CoreValue → BusState → BusState → Type 0
MakesStep old new before after = StepsWithoutTurn old new before after ⊎ StepsWithTurn false old new before after

-- its next step, or its next drain after the last one, or nothing where it has ended
abbrev pub MovesCore : CoreValue → CoreValue → BusState → BusState → Type 0
MovesCore old new before after =
    MakesStep old new before after
    ⊎ (DrainsAtEnd old new before after ⊎ ((is_ended (state_of_core old) ≡ true) × Stays old new before after))

-- a drain of a store that waits, in its next step or after the last one, or nothing where none waits or it has ended
abbrev pub DrainsCore : CoreValue → CoreValue → BusState → BusState → Type 0
DrainsCore old new before after =
    ((0 < length old.ports.waiting) × (StepsWithTurn true old new before after ⊎ DrainsAtEnd old new before after))
    ⊎ (((length old.ports.waiting ≡ 0) ⊎ (is_ended (state_of_core old) ≡ true)) × Stays old new before after)
