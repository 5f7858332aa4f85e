-- A step that is begun was tried: the core at its seat, and what a try keeps whatever it comes to.
use Rattle.std.proofs.Common.{◌≡◌, ◌∙◌, ◌<◌, ◌++◌, ℕ, Bool, true, false, List, [], fold, refl, ap, if◌then◌else◌}
use Rattle.std.proofs.lemmas.Bool.{lt-leb}
use Rattle.std.proofs.lemmas.List.Sums.{fold-append}
use Rattle.std.specs.List.{AllByRecursion as Each}
use Rattle.core_course.proofs.LocalGround.{place_of}
use Rattle.core_course.proofs.PortLines.{keeps_all}
use Rattle.core_course.proofs.Reaches.{seat_begun}
use Rattle.core_course.proofs.Running.{ground_running, RunsOn, runs_on, unended_begun}
use Rattle.core_course.specs.CoreOk.{buffer_of, LeftBy, CoreOk}
use Rattle.core_course.specs.Lines.{PortLines}
use Rattle.core_course.specs.Settled.{MayTry}
use Rattle.core_laws.specs.StepTouches.{attempt_touches}
use Rattle.core_parts.proofs.FormsKept.{PutNone, try_none}
use Rattle.core_parts.specs.Completes.{KeepsTurns}
use Rattle.core_parts.specs.CoreValue.{CoreValue}
use Rattle.core_parts.specs.PortState.{PortState, arrays_in, touch}
use Rattle.core_parts.specs.declared.phase.Phase.{Phase}
use Rattle.core_parts.specs.declared.phase.Phase.TheVariants.{Begun}
use Rattle.core_steps.proofs.Begun.{Begins}
use Rattle.core_steps.specs.Tries.{state_here, effect_here, window_over, Tries}
use Rattle.lf_model.specs.Course.Core.{given_by, ground_of}
use Rattle.lf_model.specs.Course.Turn.{is_past_steps}
use Rattle.lf_model.specs.Start.{initial_byte}
use Rattle.lf_model.specs.declared.bus.Entry.{Entry}
use Rattle.lf_model.specs.declared.bus.Transfer.{Transfer}
use Rattle.lf_model.specs.declared.step.Did.{Did}
use Rattle.lf_model.specs.declared.touch.Touch.{Touch}
use Rattle.lf_model.specs.declared.trace.CoreEnd.{CoreEnd}
use Rattle.v8_exec.specs.Touching.{retires_of}

-- ---- the core as its step was begun

module _ (old : CoreValue) (begun : old.phase ≡ Begun) (may : MayTry old) (log : List Entry) (ts : List Transfer) (h : CoreOk old log ts) where
  pub here : RunsOn old log ts
  here = runs_on old log ts (unended_begun old.phase begun) h

  left_by : (phase : Phase) → phase ≡ Begun → LeftBy old phase → old.steps < old.setup.config.steps
  left_by phase is some = rw is at some

  pub left : old.steps < old.setup.config.steps
  left = left_by old.phase begun h.left

  pub in_step : is_past_steps (ground_running old) (place_of old ts) ≡ false
  in_step = ap (λ n. is_past_steps (ground_running old) (record (place_of old ts) { steps = n })) here.is_seat.steps ∙ lt-leb old.setup.config.steps old.steps left

  -- it is at its seat
  pub begins : Begins (ground_running old) (place_of old ts) old
  begins = record { seat = here.is_seat; phase = begun; setup = refl; core = refl; depth = may.depth }

  -- ---- the lines of its caches

  -- the touches of the try, before the instruction retires
  abbrev pub looks : List Touch
  looks = if window_over old then [] else attempt_touches old.setup.image (state_here old) (effect_here old) (arrays_in old.ports)

  abbrev pub looked_ports : PortState
  looked_ports = fold (touch []) old.ports looks

  none_put : (over : Bool) (us : List Touch) → PutNone us → PutNone (if over then [] else us)
  none_put true us none = tt
  none_put false us none = none

  pub looks_leave : PortLines (initial_byte old.setup.image) (log ++ buffer_of old) looked_ports
  looks_leave = keeps_all (initial_byte old.setup.image) (log ++ buffer_of old) [] looks old.ports
      (none_put (window_over old) (attempt_touches old.setup.image (state_here old) (effect_here old) (arrays_in old.ports)) (try_none old.setup.image (state_here old) (effect_here old) (arrays_in old.ports)))
      here.goes_on.lines

  -- ---- the try

  module _ (tried : CoreValue) (did : Did) (t : Tries did old tried) where
    pub setup_stays : tried.setup ≡ old.setup
    setup_stays = ap (λ (v : CoreValue). v.setup) t.stays

    pub keeps : KeepsTurns old tried
    keeps = record {
      parts = record { setup = setup_stays; core = t.core };
      turns_seen = ap (λ (v : CoreValue). v.turns_seen) t.stays;
      named = ap (λ (v : CoreValue). v.named) t.stays;
    }

    pub ports_are : tried.ports ≡ fold (touch []) looked_ports (retires_of (effect_here old) did)
    ports_are = t.ports ∙ fold-append (touch []) old.ports looks (retires_of (effect_here old) did)

    -- by a ground that knows what the step made
    pub begins_with : (end : CoreEnd) (last : ℕ) → Begins (ground_of tried.setup tried.arch.core (given_by tried.ops) end last) (place_of old ts) old
    begins_with end last = record {
      seat = seat_begun old (ground_running old) (ground_of tried.setup tried.arch.core (given_by tried.ops) end last) (place_of old ts) begun (rw (setup_stays, t.core) refl) here.is_seat;
      phase = begun;
      setup = setup_stays;
      core = t.core;
      depth = may.depth;
    }
