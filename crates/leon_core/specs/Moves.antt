-- What an event leaves of a core, for a loop over all cores.
use Rattle.std.specs.Prelude.{ℕ, ◌≡◌, ◌+◌, ◌++◌, List, map, filter}
use Rattle.std.specs.List.{AllByRecursion}
use Rattle.core_parts.specs.Completes.{Keeps}
use Rattle.core_parts.specs.CoreValue.{CoreValue}
use Rattle.core_parts.specs.declared.phase.Phase.{Phase}
use Rattle.lf_model.specs.Course.Core.{is_store}
use Rattle.lf_model.specs.Promise.Follows.{step_of}
use Rattle.lf_model.specs.declared.trace.Op.{Op}

-- the steps in which the stores among these operations retired, those that are lost now too
abbrev pub store_steps : List Op → List ℕ
store_steps ops = map step_of (filter is_store ops)

-- the stores that retire now do so in this step
pub record StoresIn (step : ℕ) (old new : List ℕ) : Type 0 where
  pub now : List ℕ
  pub stores : new ≡ old ++ now
  pub in_step : AllByRecursion (λ s. s ≡ step) now

-- its setup and its number stay; it makes so many steps, and is in this phase then; its stores are those before, and those of the step
-- after the steps that it had made
pub record Moves (steps : ℕ) (phase : Phase) (old new : CoreValue) : Type 0 where
  pub keeps : Keeps old new
  pub steps_are : new.steps ≡ old.steps + steps
  pub phase_is : new.phase ≡ phase
  pub stores : StoresIn old.steps (store_steps old.ops) (store_steps new.ops)
