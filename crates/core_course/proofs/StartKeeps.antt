-- A step of a core begins: its flips strike the arrays, and all that holds of the core stays.
use Rattle.std.proofs.Common.{◌≡◌, ◌∙◌, ◌<◌, ◌++◌, List, [], length, map, filter, refl, ap, sym, subst}
use Rattle.core_course.proofs.LocalGround.{place_of}
use Rattle.core_course.proofs.PortLines.{keeps_lines}
use Rattle.core_course.proofs.Running.{ground_running, RunsOn, runs_on, holds_on, unended_between, ground_is}
use Rattle.core_course.specs.Calls.{MayStep, answer_at, Answers}
use Rattle.core_course.specs.CoreOk.{last_of, buffer_of, GoesOn, CoreOk}
use Rattle.core_course.specs.Lines.{LinesAre}
use Rattle.core_course.specs.Settled.{started}
use Rattle.core_parts.specs.CoreValue.{CoreValue}
use Rattle.core_parts.specs.PortState.{Waiting, PortState, arrays_in}
use Rattle.core_parts.specs.Seat.{seat}
use Rattle.core_parts.specs.Strikes.{own_flips}
use Rattle.core_parts.specs.declared.phase.Phase.TheVariants.{Between, Begun}
use Rattle.lf_model.specs.Course.Arrays.{begun}
use Rattle.lf_model.specs.Operation.{stores, made}
use Rattle.lf_model.specs.Start.{initial_byte}
use Rattle.lf_model.specs.declared.bus.Entry.{Entry}
use Rattle.lf_model.specs.declared.bus.Transfer.{Transfer}
use Rattle.lf_model.specs.declared.step.Did.{Did}
use Rattle.lf_model.specs.declared.touch.Touch.TheVariants.{StartStep}

module _ (old : CoreValue) (log : List Entry) (ts : List Transfer) (h : CoreOk old log ts) (between : old.phase ≡ Between)
    (left : old.steps < old.setup.config.steps) (p : PortState) (waiting : p.waiting ≡ old.ports.waiting) where
  -- these ports, in a step that is begun
  abbrev begun_with : CoreValue
  begun_with = record old { ports = p; phase = Begun }

  now : RunsOn old log ts
  now = runs_on old log ts (unended_between old.phase between) h

  goes_on : LinesAre begun_with log (buffer_of old) → GoesOn begun_with log ts
  goes_on lines = record {
    in_order = now.goes_on.in_order;
    has_steps = rw waiting now.goes_on.has_steps;
    waits = rw waiting now.goes_on.waits;
    has_seen = rw waiting now.goes_on.has_seen;
    lines = subst (LinesAre begun_with log) (ap (λ (ws : List Waiting). last_of (length ws) (map made (filter stores old.ops))) (sym waiting)) lines;
    unnamed = now.goes_on.unnamed;
  }

  begins : arrays_in p ≡ begun (ground_running old).flips old.steps (arrays_in old.ports) → LinesAre begun_with log (buffer_of old) → CoreOk begun_with log ts
  begins struck lines =
      let s = now.is_seat in
      let arrays : arrays_in old.ports ≡ (place_of old ts).arrays = rw between at s.arrays in
      holds_on begun_with log ts tt left (record {
        log_length = now.log_length;
        turns = now.turns;
        in_memory = now.in_memory;
        is_seat = record {
          steps = s.steps;
          quiet = s.quiet;
          retired = s.retired;
          run = s.run ∙ rw between refl;
          arrays = rw (sym arrays, s.steps) struck;
          seen = s.seen;
          unseen = s.unseen;
          completions = s.completions;
          errors = s.errors ∙ rw between refl;
          owed = s.owed;
          stored = s.stored;
          waits = rw waiting (rw between at s.waits);
        };
        has_run = now.has_run;
        right_turns = now.right_turns;
        goes_on = goes_on lines;
      })

-- ---- the step as it begins

pub started_ok : (v : CoreValue) → MayStep v → (log : List Entry) (ts : List Transfer) → CoreOk v log ts → CoreOk (started v) log ts
started_ok v may log ts h =
    let now = runs_on v log ts (unended_between v.phase may.between) h in
    let lines : LinesAre (started v) log (buffer_of v) =
    keeps_lines (initial_byte v.setup.image) (log ++ buffer_of v) (own_flips v.arch.core v.setup.flips) v.ports (StartStep v.steps) (refl, refl) now.goes_on.lines in
    begins v log ts h may.between may.left (started v).ports refl refl lines

-- the answer of the step is that of the core before it
pub same_answers : (v : CoreValue) → v.phase ≡ Between → (ts : List Transfer) (answer : Did) → Answers (started v) ts answer → Answers v ts answer
same_answers v between ts answer h =
    subst (λ g. answer ≡ answer_at g (seat g ts v.steps)) (sym (ground_is v [] ts v.phase (unended_between v.phase between))) h
