-- A schedule, the order in which the parts of a machine take their turns: which texts are one, which events they spell,
-- and which line of another text is told.
use Rattle.std.specs.Prelude.{List, ℕ}
use Rattle.lf_model.specs.declared.config.Config.{Config}
use Rattle.lf_model.specs.declared.setup.Event.{Event}
use Rattle.run_texts.specs.Grammar.{Grammar, IsReadAs}
use Rattle.run_texts.specs.EventLine.{fault_of, event_of, IsEventOf}

-- what is said of the lines of a schedule
abbrev pub event_lines : Config → Grammar Event
event_lines config = record { fault = λ earlier. fault_of config; spelled = event_of config }

-- the text is the schedule of these events: no line is faulty, and they are the events that the lines spell
abbrev pub IsSchedule : Config → List ℕ → List Event → Type 0
IsSchedule config text events = IsReadAs (event_lines config) text events

-- an event is of an actor of the machine, however many others stand before it
abbrev pub IsEventBehind : Config → ℕ → Event → Type 0
IsEventBehind config earlier event = IsEventOf config event
