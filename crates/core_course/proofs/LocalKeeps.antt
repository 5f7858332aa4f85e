-- A step that is begun was tried: whatever it came to, all that holds of its core stays, and the answer is the table's.
use Rattle.std.proofs.Common.{◌≡◌, ℕ, Bool, true, false, List, Option, Some, None, if◌then◌else◌, sym, subst}
use Rattle.core_course.proofs.Answering.{answers_so}
use Rattle.core_course.proofs.LocalGround.{place_of}
use Rattle.core_course.proofs.LocalNeeds.{needs_ok}
use Rattle.core_course.proofs.LocalRetires.{retires_ok}
use Rattle.core_course.proofs.LocalStops.{halts_ok, stops_ok}
use Rattle.core_course.proofs.Running.{ground_running, ground_is, unended_begun}
use Rattle.core_course.proofs.Tried.{begins}
use Rattle.core_course.specs.Calls.{answer_at, Answers}
use Rattle.core_course.specs.CoreOk.{CoreOk}
use Rattle.core_course.specs.Settled.{settled, MayTry}
use Rattle.core_parts.specs.CoreValue.{CoreValue}
use Rattle.core_parts.specs.Seat.{seat}
use Rattle.core_parts.specs.declared.phase.Phase.TheVariants.{Begun}
use Rattle.core_steps.specs.Tries.{state_here, effect_here, try_here, need_here, Tries}
use Rattle.lf_model.specs.Course.Outcome.{Need}
use Rattle.lf_model.specs.Course.Outcome.Need.{NoTurn, RegisterStop}
use Rattle.lf_model.specs.Course.Outcome.Need.{Turn as Asks}
use Rattle.lf_model.specs.Effect.{Access, Effect}
use Rattle.lf_model.specs.Flips.{Moment}
use Rattle.lf_model.specs.State.{State}
use Rattle.lf_model.specs.declared.bus.Entry.{Entry}
use Rattle.lf_model.specs.declared.bus.Transfer.{Transfer}
use Rattle.lf_model.specs.declared.step.Did.{Did}
use Rattle.lf_model.specs.declared.step.Did.TheVariants.{Retired, Turned, Need as NeedsTurn, Halt, Stop}
use Rattle.v8_exec.specs.CourseParts.{retired_or_halted, did_by}

-- ---- no try makes a turn

no_trap_turned : (s : State) (trap : Option ℕ) → Turned ≡ retired_or_halted s trap → ⊥
no_trap_turned s None is = cc
no_trap_turned s (Some m) is = by s.ctl.et is
  where
    by : (et : Bool) → Turned ≡ (if et then Retired else Halt m) → ⊥
    by true eq = cc
    by false eq = cc

never_turned : (s : State) (e : Effect) (cells : List (List Moment)) (need : Need) → Turned ≡ did_by s e cells need → ⊥
never_turned s e cells NoTurn is = no_trap_turned s e.trap is
never_turned s e cells (Asks kind why) is = cc
never_turned s e cells (RegisterStop cell) is = cc

-- ---- the whole

pub settles_ok : (old tried : CoreValue) (did : Did) → old.phase ≡ Begun → MayTry old → Tries did old tried → (log : List Entry) (ts : List Transfer) → CoreOk old log ts → CoreOk (settled did tried) log ts
settles_ok old tried Retired begun may t log ts h = retires_ok old tried begun may t log ts h
settles_ok old tried Turned begun may t log ts h = absurd (never_turned (state_here old) (effect_here old) (try_here old).arrays.cells (need_here old (try_here old).outcome) t.answer)
settles_ok old tried (NeedsTurn turn) begun may t log ts h = needs_ok old tried turn begun may t log ts h
settles_ok old tried (Halt tt_) begun may t log ts h = halts_ok old tried tt_ begun may t log ts h
settles_ok old tried (Stop tt_ cell syn) begun may t log ts h = stops_ok old tried tt_ cell syn begun may t log ts h

-- the answer is that of the table at the core's seat
pub settles_answer : (old tried : CoreValue) (did : Did) → old.phase ≡ Begun → MayTry old → Tries did old tried → (log : List Entry) (ts : List Transfer) → CoreOk old log ts → Answers old ts did
settles_answer old tried did begun may t log ts h =
    subst (λ g. did ≡ answer_at g (seat g ts old.steps)) (sym (ground_is old log ts old.phase (unended_begun old.phase begun)))
    (answers_so (ground_running old) (place_of old ts) old (begins old begun may log ts h) did tried t)
