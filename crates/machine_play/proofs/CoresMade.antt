-- Each core of the machine has made what a schedule's definitions count: the stores that wait are those that retired and did not drain.
use Rattle.leon_core.specs.Moves.{store_steps}
use Rattle.std.proofs.Common.{◌≡◌, ◌∙◌, ◌+◌, ◌<◌, ℕ, true, false, List, Option, Some, None, IfSome, count_by, length, map, filter, take, drop, slice_get, refl, ap, sym, arith}
use Rattle.std.proofs.lemmas.List.{length-map, take-append-drop}
use Rattle.std.specs.List.{AllByRecursion as Each}
use Rattle.core_course.proofs.TurnParts.{own_before}
use Rattle.core_course.specs.Calls.{Joins}
use Rattle.core_parts.specs.CoreValue.{CoreValue}
use Rattle.core_parts.specs.Phases.{state_by, state_of_core, ground_by, ground_so_far}
use Rattle.core_parts.specs.Seat.{seat, WaitsBy}
use Rattle.core_parts.specs.declared.phase.CoreState.{CoreState}
use Rattle.core_parts.specs.declared.phase.CoreState.TheVariants as states
use Rattle.core_parts.specs.declared.phase.Phase.{Phase}
use Rattle.core_parts.specs.declared.phase.Phase.TheVariants.{Between, Begun, Needs, Ended}
use Rattle.lf_model.specs.Course.Core.{is_store}
use Rattle.lf_model.specs.Course.Progress.{Progress}
use Rattle.lf_model.specs.Ledger.Account.{without_length}
use Rattle.lf_model.specs.Ledger.Steps.{own_transfers}
use Rattle.lf_model.specs.Promise.Follows.{step_of}
use Rattle.lf_model.specs.declared.bus.Entry.{Entry}
use Rattle.lf_model.specs.declared.bus.Transfer.{Transfer}
use Rattle.lf_model.specs.declared.setup.Setup.{Setup}
use Rattle.machine_play.specs.CoreMade.{is_drain, IsMade}
use Rattle.machine_play.specs.Machine.{IsCoreAt, IsMachine}
use Rattle.machine_play.specs.MachineMade.{is_running, is_ended, core_made, reported, IsCoreMade, AreMade}
use Rattle.machine_play.specs.MachineValue.{MachineValue}
use Rattle.machine_play.proofs.DrainsCounted.{drains_counted, drains_reported}

-- a core that has ended does not run
ended_not_running : (s : CoreState) → is_ended s ≡ true → is_running s ≡ false
ended_not_running states.Running ended = absurd (cc)
ended_not_running states.Draining ended = absurd (cc)
ended_not_running (states.Ended end) ended = refl

module _ (v : CoreValue) where
  core_of_ground : (phase : Phase) → (ground_by v phase).core ≡ v.arch.core
  core_of_ground Between = refl
  core_of_ground Begun = refl
  core_of_ground (Needs turn) = refl
  core_of_ground (Ended end) = refl

  waits_by : (phase : Phase) (n : ℕ) (k : Progress) → is_ended (state_by v phase) ≡ false → WaitsBy n k phase → k.drained + n ≡ k.stored
  waits_by Between n k unended h = h
  waits_by Begun n k unended h = h
  waits_by (Needs turn) n k unended h = h
  waits_by (Ended end) n k unended h = absurd (cc)

  module _ (log : List Entry) (ts : List Transfer) (j : Joins v log ts) where
    abbrev known : List Transfer
    known = take v.turns_seen ts

    own_known : own_transfers v.arch.core (take v.turns_seen ts) ≡ own_transfers v.arch.core ts
    own_known = sym (own_before v.arch.core (take v.turns_seen ts) (drop v.turns_seen ts) j.others) ∙ ap (own_transfers v.arch.core) (take-append-drop v.turns_seen ts)

    drained_is : (seat (ground_so_far v) (take v.turns_seen ts) v.steps).drained ≡ count_by is_drain (own_transfers v.arch.core (map without_length ts))
    drained_is =
        drains_counted (ground_so_far v) (take v.turns_seen ts) v.steps
        ∙ (ap (λ (c : ℕ). count_by is_drain (own_transfers c (take v.turns_seen ts))) (core_of_ground v.phase)
        ∙ (ap (count_by is_drain) own_known ∙ sym (drains_reported v.arch.core ts)))

    pub made_so : Each (λ step. step < v.steps) (store_steps v.ops) → IsMade (core_made (map without_length ts) v)
    made_so before = record {
      before = before;
      waits = λ unended. omega (arith, waits_by v.phase (length v.ports.waiting) (seat (ground_so_far v) (take v.turns_seen ts) v.steps) unended j.ok.is_seat.waits, drained_is, j.ok.is_seat.stored, length-map (filter is_store v.ops) step_of);
      at_end = ended_not_running (state_of_core v);
    }

pub are_made : (setup : Setup) (m : MachineValue) → IsMachine setup m → AreMade m
are_made setup m is c = by (slice_get m.cores c) (is.cores c)
  where
    by : (found : Option CoreValue) → IfSome found (IsCoreAt setup m.bus c) → IfSome found (IsCoreMade (reported m.bus) c)
    by None h = tt
    by (Some v) h = record { number = h.number; made = made_so v m.bus.log m.bus.transfers h.joins h.stores_made }
