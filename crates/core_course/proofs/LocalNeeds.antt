-- A step that is begun needs a turn, and waits for it: all that holds of its core stays.
use Rattle.std.proofs.Common.{◌≡◌, ◌∙◌, ◌<◌, List, length, map, filter, refl, ap, sym, subst, arith}
use Rattle.std.proofs.lemmas.List.{append-nil}
use Rattle.core_course.proofs.LocalGround.{place_of}
use Rattle.core_course.proofs.Running.{ground_running, IsUnended, RunsOn, holds_on}
use Rattle.core_course.proofs.Tried.{here, left, in_step, begins, looks_leave, keeps, setup_stays, ports_are}
use Rattle.core_course.specs.CoreOk.{last_of, buffer_of, GoesOn, LeftBy, CoreOk}
use Rattle.core_course.specs.Lines.{LinesAre, PortLines}
use Rattle.core_course.specs.Settled.{settled, MayTry}
use Rattle.core_laws.specs.RunSoFar.{HasRun}
use Rattle.core_laws.specs.Running.{running}
use Rattle.core_parts.specs.Completes.{CompletesNone, KeepsTurns}
use Rattle.core_parts.specs.CoreValue.{CoreValue, seen_of}
use Rattle.core_parts.specs.Phases.{halt_by}
use Rattle.core_parts.specs.PortState.{PortState, Waiting, arrays_in}
use Rattle.core_parts.specs.Seat.{seat, errors_by, run_of_core, IsSeat, NeedsTurn}
use Rattle.core_parts.specs.declared.phase.Phase.{Phase}
use Rattle.core_parts.specs.declared.phase.Phase.TheVariants.{Begun, Needs}
use Rattle.core_steps.proofs.Needing.{needs_so}
use Rattle.core_steps.proofs.TouchesLeave.{waiting_tried}
use Rattle.core_steps.specs.Tries.{Tries}
use Rattle.lf_model.specs.Course.Core.{given_by}
use Rattle.lf_model.specs.Operation.{stores, made}
use Rattle.lf_model.specs.Records.OwnTurns.{OwnTurnAt}
use Rattle.lf_model.specs.Run.{Run}
use Rattle.lf_model.specs.Start.{initial_byte}
use Rattle.lf_model.specs.Step.{state_of, run_seen}
use Rattle.lf_model.specs.declared.bus.Entry.{Entry}
use Rattle.lf_model.specs.declared.bus.Transfer.{Transfer}
use Rattle.lf_model.specs.declared.setup.Setup.{Setup}
use Rattle.lf_model.specs.declared.step.Did.TheVariants.{Need}
use Rattle.lf_model.specs.declared.step.Turn.{Turn}
use Rattle.lf_model.specs.declared.trace.Op.{Op}

-- the core waits for this turn; only its arrays are others
pub record Awaits (turn : Turn) (old new : CoreValue) : Type 0 where
  pub keeps : KeepsTurns old new
  pub none : CompletesNone old new
  pub steps : new.steps ≡ old.steps
  pub quiet : new.quiet ≡ old.quiet
  pub counted : new.arch.n ≡ old.arch.n
  pub run : run_seen new.arch (seen_of new) ≡ run_seen old.arch (seen_of old)
  pub seen : new.log_seen ≡ old.log_seen
  pub phase : new.phase ≡ Needs turn

module _ (turn : Turn) (old new : CoreValue) (log : List Entry) (ts : List Transfer) (now : RunsOn old log ts) (begun : old.phase ≡ Begun) (left : old.steps < old.setup.config.steps)
    (a : Awaits turn old new) where
  -- ---- its seat

  same_ground : ground_running new ≡ ground_running old
  same_ground = ap (λ (s : Setup). running s new.arch.core (given_by new.ops)) a.keeps.parts.setup
      ∙ (ap (λ c. running old.setup c (given_by new.ops)) a.keeps.parts.core ∙ ap (λ (ops : List Op). running old.setup old.arch.core (given_by ops)) a.none.ops)

  abbrev run_in : CoreValue → Phase → Run
  run_in v phase = record { state = record (state_of v.arch (seen_of v)) { halt = halt_by phase }; ops = (seen_of v).ops }

  run_same : run_of_core old ≡ run_of_core new
  run_same = ap (run_in old) begun ∙ (sym a.run ∙ sym (ap (run_in new) a.phase))

  seated : NeedsTurn (ground_running old) (place_of old ts) turn (arrays_in new.ports) → IsSeat new (ground_running old) (place_of old ts)
  seated asked =
      let s = now.is_seat in
      record {
        steps = s.steps ∙ sym a.steps;
        quiet = s.quiet ∙ sym a.quiet;
        retired = s.retired ∙ sym a.counted;
        run = s.run ∙ run_same;
        arrays = rw a.phase asked;
        seen = s.seen ∙ sym a.seen;
        unseen = s.unseen;
        completions = rw (a.none.ops, a.none.seen_by) s.completions;
        errors = rw a.phase (s.errors ∙ ap (errors_by old.steps (place_of old ts).turns) begun);
        owed = s.owed;
        stored = rw a.none.ops s.stored;
        waits = rw (a.phase, a.none.waiting) (rw begun at s.waits);
      }

  -- ---- it goes on

  same_buffer : buffer_of new ≡ buffer_of old
  same_buffer = ap (λ (ws : List Waiting). last_of (length ws) (map made (filter stores new.ops))) a.none.waiting
      ∙ ap (λ (ops : List Op). last_of (length old.ports.waiting) (map made (filter stores ops))) a.none.ops

  goes_on : LinesAre new log (buffer_of old) → GoesOn new log ts
  goes_on lines = record {
    in_order = rw (a.keeps.parts.core, a.steps) now.goes_on.in_order;
    has_steps = rw (a.keeps.parts.setup, a.keeps.parts.core, a.steps, a.counted, a.none.waiting) now.goes_on.has_steps;
    waits = rw (a.none.waiting, a.none.ops) now.goes_on.waits;
    has_seen = rw (a.keeps.parts.setup, a.keeps.parts.core, a.none.waiting, a.none.ops, a.none.seen_by) now.goes_on.has_seen;
    lines = subst (LinesAre new log) (sym same_buffer) lines;
    unnamed = a.keeps.named ∙ now.goes_on.unnamed;
  }

  unended : (phase : Phase) → phase ≡ Needs turn → IsUnended phase
  unended phase is = rw is tt

  left_now : (phase : Phase) → phase ≡ Needs turn → LeftBy new phase
  left_now phase is = rw is (rw (a.steps, a.keeps.parts.setup) left)

  pub awaits : NeedsTurn (ground_running old) (place_of old ts) turn (arrays_in new.ports) → LinesAre new log (buffer_of old) → CoreOk new log ts
  awaits asked lines = holds_on new log ts (unended new.phase a.phase) (left_now new.phase a.phase) (record {
    log_length = now.log_length ∙ sym a.seen;
    turns = now.turns ∙ sym a.keeps.turns_seen;
    in_memory = rw a.keeps.parts.setup now.in_memory;
    is_seat = subst (λ g. IsSeat new g (seat g ts new.steps)) (sym same_ground)
        (subst (λ n. IsSeat new (ground_running old) (seat (ground_running old) ts n)) (sym a.steps) (seated asked));
    has_run = subst (λ g. HasRun g (seat g ts new.steps)) (sym same_ground) (subst (λ n. HasRun (ground_running old) (seat (ground_running old) ts n)) (sym a.steps) now.has_run);
    right_turns = λ n within. subst (λ g. OwnTurnAt g ts n) (sym same_ground) (now.right_turns n within);
    goes_on = goes_on lines;
  })

-- ---- a try that needs a turn

module _ (old tried : CoreValue) (turn : Turn) (begun : old.phase ≡ Begun) (may : MayTry old) (t : Tries (Need turn) old tried) (log : List Entry) (ts : List Transfer) (h : CoreOk old log ts) where
  made_none : CompletesNone old tried
  made_none = record {
    ops = t.ops ∙ append-nil old.ops;
    seen_by = t.seen_by ∙ append-nil old.seen_by;
    waiting = ap (λ (s : PortState). s.waiting) t.ports ∙ waiting_tried old (Need turn) refl;
  }

  lines_now : LinesAre tried log (buffer_of old)
  lines_now = rw (setup_stays old begun may log ts h tried (Need turn) t)
      (subst (PortLines (initial_byte old.setup.image) _) (sym (ports_are old begun may log ts h tried (Need turn) t)) (looks_leave old begun may log ts h))

  pub needs_ok : CoreOk (settled (Need turn) tried) log ts
  needs_ok = awaits turn old (settled (Need turn) tried) log ts (here old begun may log ts h) begun (left old begun may log ts h)
      (record {
        keeps = record { parts = record { setup = setup_stays old begun may log ts h tried (Need turn) t; core = t.core }; turns_seen = (keeps old begun may log ts h tried (Need turn) t).turns_seen; named = (keeps old begun may log ts h tried (Need turn) t).named };
        none = record { ops = made_none.ops; seen_by = made_none.seen_by; waiting = made_none.waiting };
        steps = ap (λ (v : CoreValue). v.steps) t.stays;
        quiet = ap (λ (v : CoreValue). v.quiet) t.stays;
        counted = t.counts ∙ omega arith;
        run = t.run;
        seen = ap (λ (v : CoreValue). v.log_seen) t.stays;
        phase = refl;
      })
      (needs_so (ground_running old) (place_of old ts) old tried (begins old begun may log ts h) (in_step old begun may log ts h) turn t)
      lines_now
