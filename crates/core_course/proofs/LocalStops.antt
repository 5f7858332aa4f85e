-- A step that was tried ends its core, in error mode or by a bad register cell: all that holds of the core stays.
use Rattle.std.proofs.Common.{◌≡◌, ◌∙◌, ◌+◌, ℕ, false, List, [], Some, length, refl, sym, ap, subst}
use Rattle.std.proofs.lemmas.List.{append-nil}
use Rattle.core_course.proofs.Completing.{Sees, sees_none, none_buffered}
use Rattle.core_course.proofs.Ended.{ground_ended}
use Rattle.core_course.proofs.LocalEnds.{halts, stops}
use Rattle.core_course.proofs.LocalGround.{place_of}
use Rattle.core_course.proofs.NoneWaits.{none_at_stop, none_at_halt}
use Rattle.core_course.proofs.Running.{ground_running, RunsOn}
use Rattle.core_course.proofs.Tried.{here, left, begins, keeps, begins_with}
use Rattle.core_course.specs.CoreOk.{CoreOk}
use Rattle.core_course.specs.Settled.{settled, MayTry}
use Rattle.core_parts.specs.Completes.{KeepsTurns, CompletesNone}
use Rattle.core_parts.specs.CoreValue.{CoreValue}
use Rattle.core_parts.specs.Moves.{tried_at, Retires, Stops}
use Rattle.core_parts.specs.PortState.{PortState}
use Rattle.core_parts.specs.declared.phase.Phase.TheVariants.{Begun}
use Rattle.core_steps.proofs.Begun.{run_is, effect_is, drained}
use Rattle.core_steps.proofs.Retiring.{HaltsBy, halt_none, none_needed, halts_so}
use Rattle.core_steps.proofs.Stopping.{stop_needed, trap_type, stops_so}
use Rattle.core_steps.proofs.TouchesLeave.{waiting_tried}
use Rattle.core_steps.specs.Tries.{state_here, effect_here, try_here, need_here, Tries}
use Rattle.lf_model.specs.Course.Arrays.{begun as struck}
use Rattle.lf_model.specs.Course.Core.{Ground, r_register_access_error}
use Rattle.lf_model.specs.Course.Outcome.Need.{NoTurn, RegisterStop}
use Rattle.lf_model.specs.Course.Progress.{Progress, next_needs}
use Rattle.lf_model.specs.Effect.{Effect}
use Rattle.lf_model.specs.Records.OwnTurns.{next_effect}
use Rattle.lf_model.specs.Run.{Run}
use Rattle.lf_model.specs.declared.bus.Entry.{Entry}
use Rattle.lf_model.specs.declared.bus.Transfer.{Transfer}
use Rattle.lf_model.specs.declared.step.Did.{Did}
use Rattle.lf_model.specs.declared.step.Did.TheVariants.{Halt, Stop}
use Rattle.lf_model.specs.declared.trace.CoreEnd.TheVariants.{Halt as Halted, Stop as StoppedBy}

module _ (old tried : CoreValue) (did : Did) (begun : old.phase ≡ Begun) (may : MayTry old) (t : Tries did old tried) (log : List Entry) (ts : List Transfer) (h : CoreOk old log ts) where
  abbrev place : Progress
  place = place_of old ts

  now : RunsOn old log ts
  now = here old begun may log ts h

  waits : place.drained + length old.ports.waiting ≡ place.stored
  waits = drained (ground_running old) place old (begins old begun may log ts h)

-- ---- error mode

module _ (old tried : CoreValue) (tt_ : ℕ) (begun : old.phase ≡ Begun) (may : MayTry old) (t : Tries (Halt tt_) old tried) (log : List Entry) (ts : List Transfer) (h : CoreOk old log ts) where
  abbrev e : Effect
  e = effect_here old

  abbrev after : CoreValue
  after = settled (Halt tt_) tried

  abbrev ground : Ground
  ground = ground_running old

  cause : (need_here old (try_here old).outcome ≡ NoTurn) × HaltsBy (state_here old) e tt_
  cause = halt_none (state_here old) e tt_ (try_here old).arrays.cells (need_here old (try_here old).outcome) t.answer

  none : next_needs ground (place_of old ts) (tried_at ground (place_of old ts)).outcome ≡ NoTurn
  none = none_needed ground (place_of old ts) old tried (begins old begun may log ts h) (now old tried (Halt tt_) begun may t log ts h).goes_on.has_seen.one_each cause.0

  none_wait : length old.ports.waiting ≡ 0
  none_wait =
      let trap : (next_effect ground (place_of old ts)).trap ≡ Some tt_ = ap (λ (x : Effect). x.trap) (effect_is ground (place_of old ts) old (begins old begun may log ts h)) ∙ cause.1.trap in
      let disabled : (place_of old ts).run.state.ctl.et ≡ false = ap (λ (r : Run). r.state.ctl.et) (run_is ground (place_of old ts) old (begins old begun may log ts h)) ∙ cause.1.disabled in
      none_at_halt ground (place_of old ts) (length old.ports.waiting) (waits old tried (Halt tt_) begun may t log ts h)
      (next_effect ground (place_of old ts)) (struck ground.flips (place_of old ts).steps (place_of old ts).arrays) tt_ none trap disabled

  made_none : CompletesNone old after
  made_none = record {
    ops = t.ops ∙ append-nil old.ops;
    seen_by = t.seen_by ∙ append-nil old.seen_by;
    waiting = ap (λ (s : PortState). s.waiting) t.ports ∙ waiting_tried old (Halt tt_) refl;
  }

  kept : KeepsTurns old after
  kept = let k = keeps old begun may log ts h tried (Halt tt_) t in record { parts = record { setup = k.parts.setup; core = k.parts.core }; turns_seen = k.turns_seen; named = k.named }

  r : Retires (ground_ended after (Halted tt_)) (place_of old ts) old after
  r = halts_so (ground_ended after (Halted tt_)) (place_of old ts) old tried (begins_with old begun may log ts h tried (Halt tt_) t (Halted tt_) (tried.steps + 1))
      (now old tried (Halt tt_) begun may t log ts h).goes_on.has_seen.one_each cause.0 tt_ t cause.1

  sees : Sees old after log []
  sees = subst (Sees old after log) (none_buffered old log ts (now old tried (Halt tt_) begun may t log ts h).goes_on none_wait)
      (sees_none old after log ts (now old tried (Halt tt_) begun may t log ts h).goes_on made_none)

  pub halts_ok : CoreOk after log ts
  halts_ok = halts old after log ts [] h begun (left old begun may log ts h) kept t.ops (ap (λ (v : CoreValue). v.steps + 1) t.stays) tt_ none r refl sees

-- ---- a bad register cell

module _ (old tried : CoreValue) (cell syn : ℕ) (begun : old.phase ≡ Begun) (may : MayTry old) (t : Tries (Stop r_register_access_error cell syn) old tried)
    (log : List Entry) (ts : List Transfer) (h : CoreOk old log ts) where
  abbrev did : Did
  did = Stop r_register_access_error cell syn

  abbrev stopped : CoreValue
  stopped = settled did tried

  needs : next_needs (ground_running old) (place_of old ts) (tried_at (ground_running old) (place_of old ts)).outcome ≡ RegisterStop cell
  needs = stop_needed (ground_running old) (place_of old ts) old tried (begins old begun may log ts h) r_register_access_error cell syn t

  none_wait_stop : length old.ports.waiting ≡ 0
  none_wait_stop = none_at_stop (ground_running old) (place_of old ts) (length old.ports.waiting) (waits old tried did begun may t log ts h)
      (tried_at (ground_running old) (place_of old ts)).outcome cell needs

  stops_none : CompletesNone old stopped
  stops_none = record {
    ops = t.ops ∙ append-nil old.ops;
    seen_by = t.seen_by ∙ append-nil old.seen_by;
    waiting = ap (λ (s : PortState). s.waiting) t.ports ∙ waiting_tried old did refl;
  }

  kept_stop : KeepsTurns old stopped
  kept_stop = let k = keeps old begun may log ts h tried did t in record { parts = record { setup = k.parts.setup; core = k.parts.core }; turns_seen = k.turns_seen; named = k.named }

  stop_left : Stops (ground_ended stopped (StoppedBy r_register_access_error cell syn)) (place_of old ts) cell syn old stopped
  stop_left = stops_so (ground_ended stopped (StoppedBy r_register_access_error cell syn)) (place_of old ts) old tried
      (begins_with old begun may log ts h tried did t (StoppedBy r_register_access_error cell syn) (tried.steps + 1)) r_register_access_error cell syn t

  sees_stop : Sees old stopped log []
  sees_stop = subst (Sees old stopped log) (none_buffered old log ts (now old tried did begun may t log ts h).goes_on none_wait_stop)
      (sees_none old stopped log ts (now old tried did begun may t log ts h).goes_on stops_none)

  stopped_ok : CoreOk stopped log ts
  stopped_ok = stops old stopped log ts [] h begun (left old begun may log ts h) kept_stop t.ops (ap (λ (v : CoreValue). v.steps + 1) t.stays) cell syn needs stop_left refl sees_stop

-- a stop is of this trap type
pub stops_ok : (old tried : CoreValue) (tt_ cell syn : ℕ) (begun : old.phase ≡ Begun) (may : MayTry old) → Tries (Stop tt_ cell syn) old tried
    → (log : List Entry) (ts : List Transfer) → CoreOk old log ts → CoreOk (settled (Stop tt_ cell syn) tried) log ts
stops_ok old tried tt_ cell syn begun may t log ts h =
    let type : tt_ ≡ r_register_access_error = trap_type (ground_running old) (place_of old ts) old tried (begins old begun may log ts h) tt_ cell syn t in
    subst (λ n. Tries (Stop n cell syn) old tried → CoreOk (settled (Stop n cell syn) tried) log ts) (sym type) (λ u. stopped_ok old tried cell syn begun may u log ts h) t
