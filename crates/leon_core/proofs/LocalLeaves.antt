-- What a local step leaves for a loop over all cores: setup and number of its core, its phase, and the stores that retire in it.
use Rattle.std.proofs.Common.{◌≡◌, ◌∙◌, ◌+◌, ◌++◌, ℕ, Bool, true, false, List, [], ◌∷◌, Option, Some, None, map, filter, refl, ap, arith}
use Rattle.std.proofs.lemmas.List.{map-append}
use Rattle.std.proofs.lemmas.List.Elements.{filter-append}
use Rattle.std.specs.List.{AllByRecursion}
use Rattle.core_course.specs.Settled.{started, phase_after, settled, Settles}
use Rattle.core_parts.specs.CoreValue.{CoreValue}
use Rattle.core_steps.specs.Tries.{effect_here, op_by, ops_by, ops_here}
use Rattle.leon_core.specs.LocalStep.{ends_after}
use Rattle.leon_core.specs.Moves.{store_steps, StoresIn, Moves}
use Rattle.lf_model.specs.Course.Core.{is_store}
use Rattle.lf_model.specs.Effect.{AccessKind, Access}
use Rattle.lf_model.specs.Promise.Follows.{step_of}
use Rattle.lf_model.specs.declared.control.Arch.{Arch}
use Rattle.lf_model.specs.declared.step.Did.{Did}
use Rattle.lf_model.specs.declared.step.Did.TheVariants.{Retired, Turned, Need, Halt, Stop}
use Rattle.lf_model.specs.declared.trace.Op.{Op}

-- ---- a step that settles

record Leaves (did : Did) (old new : CoreValue) : Type 0 where
  setup : new.setup ≡ old.setup
  arch : new.arch ≡ old.arch
  ops : new.ops ≡ old.ops
  steps : new.steps ≡ old.steps + ends_after did
  phase : new.phase ≡ phase_after did

leaves : (did : Did) (v : CoreValue) → Leaves did v (settled did v)
leaves Retired v = record { setup = refl; arch = refl; ops = refl; steps = refl; phase = refl }
leaves Turned v = record { setup = refl; arch = refl; ops = refl; steps = refl; phase = refl }
leaves (Need turn) v = record { setup = refl; arch = refl; ops = refl; steps = omega arith; phase = refl }
leaves (Halt tt_) v = record { setup = refl; arch = refl; ops = refl; steps = refl; phase = refl }
leaves (Stop tt_ cell syn) v = record { setup = refl; arch = refl; ops = refl; steps = refl; phase = refl }

-- ---- its operation

abbrev OfStep : ℕ → List Op → Type 0
OfStep step ops = AllByRecursion (λ (o : Op). o.step ≡ step) ops

of_kind : (v : CoreValue) (x : Access) (kind : AccessKind) → OfStep v.steps (op_by v x kind)
of_kind v x AccessKind.Load = (refl, tt)
of_kind v x AccessKind.Store = (refl, tt)
of_kind v x AccessKind.Atomic = tt

of_access : (v : CoreValue) (access : Option Access) → OfStep v.steps (ops_by v access)
of_access v None = tt
of_access v (Some x) = of_kind v x x.kind

of_step : (v : CoreValue) (did : Did) → OfStep v.steps (ops_here v did)
of_step v Retired = of_access v (effect_here v).access
of_step v Turned = tt
of_step v (Need turn) = tt
of_step v (Halt tt_) = tt
of_step v (Stop tt_ cell syn) = tt

stores_of : (step : ℕ) (ops : List Op) → OfStep step ops → AllByRecursion (λ s. s ≡ step) (store_steps ops)
stores_of step [] each = tt
stores_of step (o ∷ ops) each = by (is_store o) refl (stores_of step ops each.1)
  where
    by : (store : Bool) → is_store o ≡ store → AllByRecursion (λ s. s ≡ step) (store_steps ops) → AllByRecursion (λ s. s ≡ step) (store_steps (o ∷ ops))
    by true store rest = rw store (each.0, rest)
    by false store rest = rw store rest

-- operations of this step retire
pub stores_now : (step : ℕ) (old now : List Op) → OfStep step now → StoresIn step (store_steps old) (store_steps (old ++ now))
stores_now step old now each = record {
  now = store_steps now;
  stores = ap (map step_of) (filter-append is_store old now) ∙ map-append step_of (filter is_store old) (filter is_store now);
  in_step = stores_of step now each;
}

-- ---- the whole

pub moves : (did : Did) (old new : CoreValue) → Settles did (started old) new → Moves (ends_after did) (phase_after did) old new
moves did old new s =
    let left : Leaves did s.tried new = rw s.settled_so (leaves did s.tried) in
    record {
      keeps = record {
        setup = left.setup ∙ ap (λ (v : CoreValue). v.setup) s.tries.stays;
        core = ap (λ (a : Arch). a.core) left.arch ∙ s.tries.core;
      };
      steps_are = left.steps ∙ ap (λ (v : CoreValue). v.steps + ends_after did) s.tries.stays;
      phase_is = left.phase;
      stores = rw (left.ops ∙ s.tries.ops) (stores_now old.steps old.ops (ops_here (started old) did) (of_step (started old) did));
    }
