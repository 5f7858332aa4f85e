-- A core's try of the instruction at PC, over all that an instruction works on.
use Rattle.std.specs.Prelude.{◌≡◌, ◌+◌, ◌++◌, nat_lt, nat_le, Bool, List, [], fold, length, if◌then◌else◌}
use Rattle.core_laws.specs.StepTouches.{attempt_touches}
use Rattle.core_parts.specs.PortState.{arrays_in}
use Rattle.core_parts.specs.Work.{WorkState, work_touch, work_answers}
use Rattle.lf_model.specs.Course.Attempt.{Attempt, comes_to, attempt}
use Rattle.lf_model.specs.Course.Outcome.{Outcome, Need, step_needs}
use Rattle.lf_model.specs.Course.Outcome.Outcome.{NotTried}
use Rattle.lf_model.specs.Effect.{Effect}
use Rattle.lf_model.specs.Run.{effect_at_pc}
use Rattle.lf_model.specs.Step.{Seen, state_of, run_seen, run_after, counted}
use Rattle.lf_model.specs.declared.control.Arch.{Arch}
use Rattle.lf_model.specs.declared.step.Did.{Did}
use Rattle.lf_model.specs.declared.touch.Touch.{Touch}
use Rattle.v8_exec.specs.CourseParts.{did_by}
use Rattle.v8_exec.specs.Touching.{retires_of}

-- the instruction at PC, and what it comes to unless the window of steps without a turn is over
abbrev pub effect_at : Arch → Seen → WorkState → Effect
effect_at a seen s = effect_at_pc s.setup a.core (state_of a seen)

abbrev pub try_at : Bool → Arch → Seen → WorkState → Attempt
try_at over a seen s = if over then comes_to NotTried (arrays_in s.ports) else attempt s.setup.image (state_of a seen) (effect_at a seen s) (arrays_in s.ports)

abbrev pub need_at : Bool → Arch → WorkState → Outcome → Need
need_at over a s outcome = step_needs over a.ctl.et (nat_lt 0 (length s.ports.waiting)) (nat_le s.ports.depth (length s.ports.waiting)) outcome

abbrev pub touches_at : Bool → Arch → Seen → WorkState → Did → List Touch
touches_at over a seen s did = (if over then [] else attempt_touches s.setup.image (state_of a seen) (effect_at a seen s) (arrays_in s.ports)) ++ retires_of (effect_at a seen s) did

-- answer, run and counts as of a try; left: the parts and the record are those after its touches
pub record Works (over : Bool) (did : Did) (old new : Arch) (before after : Seen) (was now : WorkState) : Type 0 where
  pub answer : did ≡ did_by (state_of old before) (effect_at old before was) (try_at over old before was).arrays.cells (need_at over old was (try_at over old before was).outcome)
  pub run : run_seen new after ≡ run_after old.core (work_answers was) did (effect_at old before was) (run_seen old before)
  pub counts : new.n ≡ old.n + counted did
  pub core : new.core ≡ old.core
  pub left : now ≡ fold work_touch was (touches_at over old before was did)
