-- What a core's try of the instruction at PC comes to, and what it leaves, in the terms of the course.
use Rattle.std.specs.Prelude.{ℕ, ◌≡◌, ◌+◌, ◌++◌, nat_lt, nat_le, Bool, List, [], ◌∷◌, fold, map, length, Option, Some, None, if◌then◌else◌}
use Rattle.core_laws.specs.StepTouches.{attempt_touches}
use Rattle.core_parts.specs.Completes.{op_of}
use Rattle.core_parts.specs.CoreValue.{CoreValue, seen_of}
use Rattle.core_parts.specs.PortState.{arrays_in, touch, answers}
use Rattle.core_parts.specs.declared.phase.Phase.{Phase}
use Rattle.lf_model.specs.Course.Attempt.{Attempt, comes_to, attempt}
use Rattle.lf_model.specs.Course.Outcome.{Outcome, Need, step_needs}
use Rattle.lf_model.specs.Course.Outcome.Outcome.{NotTried}
use Rattle.lf_model.specs.Effect.{AccessKind, Access, Effect}
use Rattle.lf_model.specs.Run.{effect_at_pc}
use Rattle.lf_model.specs.State.{State}
use Rattle.lf_model.specs.Step.{state_of, run_seen, looked, run_after, counted}
use Rattle.lf_model.specs.declared.step.Did.{Did}
use Rattle.lf_model.specs.declared.step.Did.TheVariants.{Retired, Turned, Need as Asks, Halt, Stop}
use Rattle.lf_model.specs.declared.step.Look.{Look}
use Rattle.lf_model.specs.declared.step.Look.TheVariants.{Hit, Miss}
use Rattle.lf_model.specs.declared.touch.Touch.{Touch}
use Rattle.lf_model.specs.declared.trace.Op.{Op}
use Rattle.v8_exec.specs.CourseParts.{did_by}
use Rattle.v8_exec.specs.Touching.{retires_of}

-- ---- the try

-- its state, and the instruction at PC
abbrev pub state_here : CoreValue → State
state_here v = state_of v.arch (seen_of v)

abbrev pub effect_here : CoreValue → Effect
effect_here v = effect_at_pc v.setup v.arch.core (state_here v)

-- its window of steps without a turn is over
abbrev pub window_over : CoreValue → Bool
window_over v = nat_le v.setup.config.window v.quiet

-- what the instruction comes to; it isn't tried where the window is over
abbrev pub try_here : CoreValue → Attempt
try_here v = if window_over v then comes_to NotTried (arrays_in v.ports) else attempt v.setup.image (state_here v) (effect_here v) (arrays_in v.ports)

-- what the step needs, whose instruction comes to this
abbrev pub need_here : CoreValue → Outcome → Need
need_here v outcome = step_needs (window_over v) v.arch.ctl.et (nat_lt 0 (length v.ports.waiting)) (nat_le v.ports.depth (length v.ports.waiting)) outcome

-- the touches that it makes: those of the try, and those of an instruction that retires
abbrev pub touches_here : CoreValue → Did → List Touch
touches_here v did = (if window_over v then [] else attempt_touches v.setup.image (state_here v) (effect_here v) (arrays_in v.ports)) ++ retires_of (effect_here v) did

-- ---- the operation that retires

-- the way that a look-up hits
abbrev pub way_looked : Look → ℕ
way_looked (Hit value way) = way
way_looked (Miss why) = 0

-- that of a load which hits, and of a store; an atomic is made at its turn
abbrev pub op_by : CoreValue → Access → AccessKind → List Op
op_by v x AccessKind.Load = let found = (answers v.ports).look x.addr x.len in op_of v x (looked found) (way_looked found) ∷ []
op_by v x AccessKind.Store = op_of v x 0 0 ∷ []
op_by v x AccessKind.Atomic = []

abbrev pub ops_by : CoreValue → Option Access → List Op
ops_by v None = []
ops_by v (Some x) = op_by v x x.kind

-- none but where the instruction retires
abbrev pub ops_here : CoreValue → Did → List Op
ops_here v Retired = ops_by v (effect_here v).access
ops_here v Turned = []
ops_here v (Asks turn) = []
ops_here v (Halt tt_) = []
ops_here v (Stop tt_ place syn) = []

abbrev pub seen_here : CoreValue → List Op → List ℕ
seen_here v ops = map (λ (o : Op). v.log_seen) ops

-- ---- the whole

-- answer: it is that of what the step needs; run: an instruction that retires is performed, with the number that its load read, and
-- else all is as before; counts: it is counted where it retires, or halts the core; ports: they are those after its touches; ops
-- and seen_by: with the operation that retires; stays: all else
pub record Tries (did : Did) (old new : CoreValue) : Type 0 where
  pub answer : did ≡ did_by (state_here old) (effect_here old) (try_here old).arrays.cells (need_here old (try_here old).outcome)
  pub run : run_seen new.arch (seen_of new) ≡ run_after old.arch.core (answers old.ports) did (effect_here old) (run_seen old.arch (seen_of old))
  pub counts : new.arch.n ≡ old.arch.n + counted did
  pub core : new.arch.core ≡ old.arch.core
  pub ports : new.ports ≡ fold (touch []) old.ports (touches_here old did)
  pub ops : new.ops ≡ old.ops ++ ops_here old did
  pub seen_by : new.seen_by ≡ old.seen_by ++ seen_here old (ops_here old did)
  pub stays : new ≡ record old { arch = new.arch; values = new.values; out = new.out; ports = new.ports; ops = new.ops; seen_by = new.seen_by }

-- the step ends without a turn
abbrev pub ended : Phase → CoreValue → CoreValue
ended phase v = record v { steps = v.steps + 1; quiet = v.quiet + 1; phase = phase }
