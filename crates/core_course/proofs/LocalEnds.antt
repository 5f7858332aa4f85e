-- A step without a turn by which a core ends, in error mode or by a bad register cell, keeps all that holds of the core.
use Rattle.std.proofs.Common.{◌≡◌, ◌∙◌, ◌+◌, ◌<◌, ◌++◌, ℕ, false, List, [], length, refl, ap, sym, subst, arith}
use Rattle.std.proofs.lemmas.Bool.{eq-eqb}
use Rattle.std.specs.List.{AllByRecursion as Each}
use Rattle.core_laws.proofs.Ends.{names_none}
use Rattle.core_laws.proofs.LostAccount.{reports_none}
use Rattle.core_laws.proofs.NextStep.{no_stop_at_halt}
use Rattle.core_laws.proofs.SeenEnd.{seen_end}
use Rattle.core_laws.proofs.StepsEnd.{ends_halted, ends_at_register}
use Rattle.core_laws.proofs.Stops.{register_at_no_turn, no_stop_at_register}
use Rattle.core_laws.specs.Running.{IsNoStop}
use Rattle.core_parts.specs.CoreValue.{CoreValue}
use Rattle.core_parts.specs.Moves.{tried_at, Retires, Stops}
use Rattle.core_parts.specs.Seat.{IsSeat}
use Rattle.core_parts.specs.declared.phase.Phase.TheVariants.{Begun, Ended}
use Rattle.core_course.proofs.Completing.{Sees}
use Rattle.core_course.proofs.Ended.{ground_ended, holds_ended}
use Rattle.core_course.proofs.LaterSeat.{Reaches}
use Rattle.core_course.proofs.LocalGround.{place_of, ground_with, now, ground_new, limit_new, flips_new, reaches_then, own_then}
use Rattle.core_course.proofs.LocalSeat.{halted}
use Rattle.core_course.proofs.Reaches.{going, seat_begun, one_step}
use Rattle.core_course.proofs.Running.{ground_running, RunsOn}
use Rattle.core_course.proofs.StopSeat.{stopped_by_cell}
use Rattle.core_parts.specs.Completes.{KeepsTurns}
use Rattle.core_course.specs.CoreOk.{within_steps, past_its_steps, CoreOk}
use Rattle.core_course.specs.Result.{result_of}
use Rattle.lf_model.specs.Course.Core.{Ground, r_register_access_error, is_stop_at, is_store_stop}
use Rattle.lf_model.specs.Course.LocalStep.{local_step}
use Rattle.lf_model.specs.Course.Outcome.Need.{NoTurn, RegisterStop}
use Rattle.lf_model.specs.Course.Progress.{next_needs}
use Rattle.lf_model.specs.Ledger.Steps.{HasSteps}
use Rattle.lf_model.specs.Results.{IsEnd}
use Rattle.lf_model.specs.declared.bus.Entry.{Entry}
use Rattle.lf_model.specs.declared.bus.Transfer.{Transfer}
use Rattle.lf_model.specs.declared.trace.CoreEnd.{CoreEnd}
use Rattle.lf_model.specs.declared.trace.CoreEnd.TheVariants.{Halt, Stop}
use Rattle.lf_model.specs.declared.trace.Op.{Op}

module _ (old new : CoreValue) (log : List Entry) (ts : List Transfer) (more : List Op) (h : CoreOk old log ts) (begun : old.phase ≡ Begun)
    (left : old.steps < old.setup.config.steps) (keeps : KeepsTurns old new) (ops : new.ops ≡ old.ops ++ more) (made : new.steps ≡ old.steps + 1) where
  here : RunsOn old log ts
  here = now old new log ts more h begun left keeps ops

  -- the ground by an end in this step
  abbrev ground : CoreEnd → Ground
  ground end = ground_ended new end

  ground_is : (end : CoreEnd) → ground end ≡ ground_with old more end new.steps
  ground_is end = ground_new old new log ts more h begun left keeps ops end new.steps

  module _ (end : CoreEnd) (no_stop : Each (IsNoStop old.arch.core end) ts) where
    come_before : Reaches (ground end) ts old.steps (place_of old ts)
    come_before = subst (λ g. Reaches g ts old.steps (place_of old ts)) (sym (ground_is end))
        (reaches_then old new log ts more h begun left keeps ops end new.steps (omega (arith, made, left)) no_stop (omega (arith, made)))

    come : Reaches (ground end) ts new.steps (local_step (ground end) (place_of old ts))
    come = one_step (ground end) ts old.steps new.steps (place_of old ts) come_before made (going old log ts here begun)

    -- the core ends so, with no store waiting, and none of its transfers is the place of its end
    ends : IsSeat new (ground end) (local_step (ground end) (place_of old ts)) → new.phase ≡ Ended end → new.log_seen ≡ old.log_seen → Sees old new log []
        → HasSteps old.setup (result_of new end) (within_steps old ts ++ past_its_steps old ts) → ((turn : ℕ) → is_stop_at turn end ≡ false) → IsEnd old.setup new.steps end → is_store_stop end ≡ false → CoreOk new log ts
    ends seated phase seen sees steps nowhere is_end no_store = holds_ended new end log ts (local_step (ground end) (place_of old ts)) phase (record {
      log_length = here.log_length ∙ sym seen;
      turns = here.turns ∙ sym keeps.turns_seen;
      in_memory = rw keeps.parts.setup here.in_memory;
      reaches = come;
      is_seat = seated;
      is_end = rw keeps.parts.setup is_end;
      within = omega (arith, made, left, limit_new old new log ts more h begun left keeps ops);
      none_wait = sees.waits;
      has_steps = rw (keeps.parts.setup, own_then old new log ts more h begun left keeps ops) steps;
      has_seen = rw (keeps.parts.setup, keeps.parts.core) (seen_end _ old.arch.core new.ops new.seen_by log sees.has_seen);
      none_lost = λ kind. sees.has_seen.none_lost;
      lost = rw no_store (sym (reports_none new.ops sees.has_seen.none_lost));
      named = keeps.named ∙ (here.goes_on.unnamed ∙ sym (names_none (ground end) ts nowhere));
    })

  -- it enters error mode
  pub halts : (tt_ : ℕ) → next_needs (ground_running old) (place_of old ts) (tried_at (ground_running old) (place_of old ts)).outcome ≡ NoTurn
      → Retires (ground_ended new (Halt tt_)) (place_of old ts) old new → new.phase ≡ Ended (Halt tt_) → Sees old new log [] → CoreOk new log ts
  halts tt_ none r phase sees = ends (Halt tt_) (no_stop_at_halt old.arch.core tt_ ts)
      (halted (ground (Halt tt_)) (place_of old ts) old new tt_ (seat_begun old (ground_running old) (ground (Halt tt_)) (place_of old ts) begun (flips_new old new log ts more h begun left keeps ops (Halt tt_) new.steps) here.is_seat)
      (record {
        begun = begun;
        none = subst (λ g. next_needs g (place_of old ts) (tried_at g (place_of old ts)).outcome ≡ NoTurn) (sym (ground_is (Halt tt_))) none;
        goes_on = refl;
      }) r phase)
      phase r.seen sees
      (ends_halted old.setup (result_of new (Halt tt_)) old.steps old.arch.n (length old.ports.waiting) (within_steps old ts) (past_its_steps old ts) here.goes_on.has_steps left made tt_ refl r.counted)
      (λ turn. refl) tt refl

  -- a bad register cell stops it
  pub stops : (cell syn : ℕ) → next_needs (ground_running old) (place_of old ts) (tried_at (ground_running old) (place_of old ts)).outcome ≡ RegisterStop cell
      → Stops (ground_ended new (Stop r_register_access_error cell syn)) (place_of old ts) cell syn old new → new.phase ≡ Ended (Stop r_register_access_error cell syn)
      → Sees old new log [] → CoreOk new log ts
  stops cell syn needs r phase sees = let end = Stop r_register_access_error cell syn in ends end (no_stop_at_register old.arch.core end ts refl)
      (stopped_by_cell (ground end) old new (place_of old ts) cell syn (seat_begun old (ground_running old) (ground end) (place_of old ts) begun (flips_new old new log ts more h begun left keeps ops end new.steps) here.is_seat)
      (record {
        begun = begun;
        stops = subst (λ g. next_needs g (place_of old ts) (tried_at g (place_of old ts)).outcome ≡ RegisterStop cell) (sym (ground_is end)) needs;
        is_last = eq-eqb ((place_of old ts).steps + 1) new.steps (ap (λ n. n + 1) here.is_seat.steps ∙ sym made);
      }) r phase)
      phase r.seen sees
      (ends_at_register old.setup (result_of new end) old.steps old.arch.n (length old.ports.waiting) (within_steps old ts) (past_its_steps old ts) here.goes_on.has_steps left made refl r.counted)
      (λ turn. register_at_no_turn end turn refl) tt refl
