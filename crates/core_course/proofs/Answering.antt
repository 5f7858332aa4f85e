-- The answer of a step that was tried is the table's, at the seat that its core had.
use Rattle.std.proofs.Common.{◌≡◌, ◌∙◌, Bool, true, false, nat_lt, nat_le, List, length, refl, ap, sym}
use Rattle.core_course.specs.Calls.{answer_at}
use Rattle.core_parts.specs.CoreValue.{CoreValue}
use Rattle.core_parts.specs.Moves.{tried_at}
use Rattle.core_steps.proofs.Begun.{Begins, run_is, effect_is, tried_is, needs_are}
use Rattle.core_steps.specs.Tries.{state_here, effect_here, window_over, try_here, need_here, Tries}
use Rattle.lf_model.specs.Course.Attempt.{Attempt}
use Rattle.lf_model.specs.Course.Core.{Ground}
use Rattle.lf_model.specs.Course.Outcome.{Outcome, step_needs}
use Rattle.lf_model.specs.Course.Progress.{Progress, next_needs}
use Rattle.lf_model.specs.Effect.{Effect}
use Rattle.lf_model.specs.Flips.{Moment}
use Rattle.lf_model.specs.Records.OwnTurns.{next_effect}
use Rattle.lf_model.specs.Run.{Run}
use Rattle.lf_model.specs.State.{State}
use Rattle.lf_model.specs.declared.step.Did.{Did}
use Rattle.v8_exec.specs.CourseParts.{did_by}

-- a window that is over asks for its turn, whatever the instruction would come to
window_first : (s : State) (e : Effect) (cells cells' : List (List Moment)) (et waits full : Bool) (out out' : Outcome)
    → did_by s e cells (step_needs true et waits full out) ≡ did_by s e cells' (step_needs true et waits full out')
window_first s e cells cells' et true full out out' = refl
window_first s e cells cells' et false full out out' = refl

module _ (g : Ground) (k : Progress) (old : CoreValue) (b : Begins g k old) where
  abbrev here : Effect
  here = effect_here old

  -- the table's answer in the terms of the core, whatever its instruction comes to
  in_core : (cells : List (List Moment)) (out : Outcome) → did_by k.run.state (next_effect g k) cells (next_needs g k out) ≡ did_by (state_here old) here cells (need_here old out)
  in_core cells out =
      ap (did_by k.run.state (next_effect g k) cells) (needs_are g k old b out)
      ∙ (ap (λ (r : Run). did_by r.state (next_effect g k) cells (need_here old out)) (run_is g k old b)
      ∙ ap (λ (e : Effect). did_by (state_here old) e cells (need_here old out)) (effect_is g k old b))

  answer_by : (over : Bool) → window_over old ≡ over → answer_at g k ≡ did_by (state_here old) here (try_here old).arrays.cells (need_here old (try_here old).outcome)
  answer_by false open_ =
      ap (λ (x : Attempt). did_by k.run.state (next_effect g k) x.arrays.cells (next_needs g k x.outcome)) (tried_is g k old b open_)
      ∙ in_core (try_here old).arrays.cells (try_here old).outcome
  answer_by true over =
      let et = old.arch.ctl.et in
      let waits = nat_lt 0 (length old.ports.waiting) in
      let full = nat_le old.ports.depth (length old.ports.waiting) in
      let x = tried_at g k in
      in_core x.arrays.cells x.outcome
      ∙ (ap (λ o. did_by (state_here old) here x.arrays.cells (step_needs o et waits full x.outcome)) over
      ∙ (window_first (state_here old) here x.arrays.cells (try_here old).arrays.cells et waits full x.outcome (try_here old).outcome
      ∙ ap (λ o. did_by (state_here old) here (try_here old).arrays.cells (step_needs o et waits full (try_here old).outcome)) (sym over)))

  pub answers_so : (did : Did) (new : CoreValue) → Tries did old new → did ≡ answer_at g k
  answers_so did new t = t.answer ∙ sym (answer_by (window_over old) refl)
