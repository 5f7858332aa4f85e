-- A step without a turn, whose instruction retires, keeps all that holds of a core.
use Rattle.std.proofs.Common.{◌≡◌, ◌∙◌, ◌<◌, ◌≤◌, ◌++◌, List, length, refl, sym, subst, arith}
use Rattle.core_laws.proofs.NextStep.{no_stop_at_limit}
use Rattle.core_laws.specs.RunSoFar.{HasRun}
use Rattle.core_parts.specs.CoreValue.{CoreValue}
use Rattle.core_parts.specs.Moves.{tried_at, Retires}
use Rattle.core_parts.specs.Seat.{IsSeat}
use Rattle.core_parts.specs.declared.phase.Phase.TheVariants.{Between, Begun}
use Rattle.core_course.proofs.Completing.{Sees, goes_on}
use Rattle.core_course.proofs.LaterSeat.{Reaches}
use Rattle.core_course.proofs.LocalGround.{place_of, now, running_new, limit_new, flips_new, reaches_then, steps_then, parts_then}
use Rattle.core_course.proofs.LocalSeat.{NeedsNone, retired}
use Rattle.core_course.proofs.Reaches.{going, seat_begun, one_step}
use Rattle.core_course.proofs.Running.{ground_running, RunsOn, holds_on, unended_between, none_begun}
use Rattle.core_course.proofs.StepParts.{steps_as}
use Rattle.core_parts.specs.Completes.{KeepsTurns}
use Rattle.core_course.specs.CoreOk.{within_steps, past_its_steps, CoreOk}
use Rattle.core_course.specs.Lines.{LinesAre}
use Rattle.lf_model.specs.Course.LocalStep.{local_step}
use Rattle.lf_model.specs.Course.Outcome.Need.{NoTurn}
use Rattle.lf_model.specs.Course.Progress.{next_needs}
use Rattle.lf_model.specs.declared.bus.Entry.{Entry}
use Rattle.lf_model.specs.declared.bus.Transfer.{Transfer}
use Rattle.lf_model.specs.declared.trace.CoreEnd.TheVariants.{Limit}
use Rattle.lf_model.specs.declared.trace.Op.{Op}

module _ (old new : CoreValue) (log : List Entry) (ts : List Transfer) (more : List Op) (h : CoreOk old log ts) (begun : old.phase ≡ Begun)
    (left : old.steps < old.setup.config.steps) (keeps : KeepsTurns old new) (ops : new.ops ≡ old.ops ++ more)
    (none : next_needs (ground_running old) (place_of old ts) (tried_at (ground_running old) (place_of old ts)).outcome ≡ NoTurn) where
  here : RunsOn old log ts
  here = now old new log ts more h begun left keeps ops

  needs_none : NeedsNone (ground_running new) (place_of old ts) old new
  needs_none = record {
    begun = begun;
    none = subst (λ g. next_needs g (place_of old ts) (tried_at g (place_of old ts)).outcome ≡ NoTurn) (sym (running_new old new log ts more h begun left keeps ops)) none;
    goes_on = refl;
  }

  module _ (r : Retires (ground_running new) (place_of old ts) old new) (phase : new.phase ≡ Between) where
    come : Reaches (ground_running new) ts new.steps (local_step (ground_running new) (place_of old ts))
    come = one_step (ground_running new) ts old.steps new.steps (place_of old ts)
        (subst (λ g. Reaches g ts old.steps (place_of old ts)) (sym (running_new old new log ts more h begun left keeps ops))
        (reaches_then old new log ts more h begun left keeps ops Limit old.setup.config.steps (omega arith) (no_stop_at_limit old.arch.core ts) left))
        r.steps (going old log ts here begun)

    seated : IsSeat new (ground_running new) (local_step (ground_running new) (place_of old ts))
    seated = retired (ground_running new) (place_of old ts) old new (seat_begun old (ground_running old) (ground_running new) (place_of old ts) begun (flips_new old new log ts more h begun left keeps ops Limit new.setup.config.steps) here.is_seat) needs_none r phase

    -- it goes on, with these stores waiting
    pub steps_on : (buffer : List Entry) → Sees old new log buffer → length new.ports.waiting ≤ 8 → LinesAre new log buffer → CoreOk new log ts
    steps_on buffer sees few lines = holds_on new log ts (unended_between new.phase phase) (none_begun new new.phase phase) (record {
      log_length = here.log_length ∙ sym r.seen;
      turns = here.turns ∙ sym keeps.turns_seen;
      in_memory = rw keeps.parts.setup here.in_memory;
      is_seat = subst (IsSeat new (ground_running new)) (sym come.at) seated;
      has_run = subst (HasRun (ground_running new)) (sym come.at) come.has_run;
      right_turns = come.right_turns;
      goes_on = goes_on new log ts buffer (rw (keeps.parts.setup, keeps.parts.core) sees.has_seen) sees.waits (within_steps old ts) (past_its_steps old ts)
          (parts_then old new log ts more h begun left keeps ops r.steps few)
          (steps_as _ new.setup.config.steps _ new.steps _ new.arch.n _ (length new.ports.waiting) _ (within_steps old ts) _ (past_its_steps old ts)
          (steps_then old new log ts more h begun left keeps ops few)
          (limit_new old new log ts more h begun left keeps ops) r.steps r.counted refl refl refl)
          lines (keeps.named ∙ here.goes_on.unnamed);
    })
