-- A trace follows a schedule: its transfers come in the order of the schedule's events, each taken as often as it counts, and
-- after the last one of a round of all actors, one step each, over and over until all have ended.
use Rattle.std.specs.Prelude.{ℕ, zero, suc, ◌≡◌, ◌+◌, List, [], length, map, filter, fold, sum}
use Rattle.std.specs.List.{range_with_len}
use Rattle.lf_model.specs.Course.Core.{is_store}
use Rattle.lf_model.specs.ProgramOrder.{program_order}
use Rattle.lf_model.specs.Ledger.Account.{map_numbered}
use Rattle.lf_model.specs.Ledger.Steps.{own_transfers}
use Rattle.lf_model.specs.Promise.Turns.{CoreLeft, Actors, TurnMade, turn_of_transfer, event_made}
use Rattle.lf_model.specs.declared.setup.Actor.TheVariants.{Core, Scrub}
use Rattle.lf_model.specs.declared.setup.Event.{Event}
use Rattle.lf_model.specs.declared.setup.Setup.{Setup}
use Rattle.lf_model.specs.declared.trace.CoreResult.{CoreResult}
use Rattle.lf_model.specs.declared.trace.Op.{Op}
use Rattle.lf_model.specs.declared.trace.Trace.{Trace}

abbrev pub step_of : Op → ℕ
step_of o = o.step

-- core c of a trace, and all actors, before the first event
abbrev pub core_at_start : Trace → ℕ → CoreResult → CoreLeft
core_at_start trace c r = record {
  steps = r.steps;
  stores = map step_of (filter is_store (program_order c trace.order));
  made = 0;
  drained = 0;
  transfers = own_transfers c trace.transfers;
}

abbrev pub actors_at_start : Setup → Trace → Actors
actors_at_start setup trace = record { cores = map_numbered (core_at_start trace) trace.cores; scrub_turns = setup.config.scrub_turns; turns = [] }

-- an event of the schedule, so many times
abbrev pub event_times : ℕ → Event → Actors → Actors
event_times zero e a = a
event_times (suc n) e a = event_times n e (event_made e.core a e.actor)

abbrev pub scheduled : Actors → Event → Actors
scheduled a e = event_times e.count e a

-- a round: each core in the order of their numbers, and then the scrubber
abbrev pub round : Actors → Actors
round a = event_made 0 (fold (λ b n. event_made n b Core) a (range_with_len 0 (length a.cores))) Scrub

abbrev pub rounds : ℕ → Actors → Actors
rounds zero a = a
rounds (suc n) a = rounds n (round a)

abbrev pub steps_of : CoreResult → ℕ
steps_of r = r.steps

-- so many rounds are enough: in each, every actor that has not ended makes a step, a last drain or a turn, and these are no more
-- than the steps of all cores and all transfers. In rounds that are left over nothing is made. If the trace has fewer transfers than
-- the scrubber has turns, that shows in the turns that are given.
abbrev pub rounds_enough : Trace → ℕ
rounds_enough trace = sum (map steps_of trace.cores) + length trace.transfers + 1

-- the turns that a schedule gives
unfoldable pub turns_of : Setup → List Event → Trace → List TurnMade
turns_of setup events trace = (rounds (rounds_enough trace) (fold scheduled (actors_at_start setup trace) events)).turns

pub record Follows (setup : Setup) (events : List Event) (trace : Trace) : Type 0 where
  pub turns : turns_of setup events trace ≡ map turn_of_transfer trace.transfers
