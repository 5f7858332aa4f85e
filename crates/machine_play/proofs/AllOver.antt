-- A machine that is over has ended: each core has, and the scrubber has made its turns.
use Rattle.std.proofs.Common.{◌≡◌, ◌-◌, ◌≤◌, ℕ, zero, suc, true, List, [], ◌∷◌, IfSome, slice_get, subst, arith}
use Rattle.std.proofs.lemmas.Bool.{and_parts, eqb-true}
use Rattle.std.specs.List.{AllByRecursion, list_all}
use Rattle.core_parts.specs.CoreValue.{CoreValue}
use Rattle.core_parts.specs.Phases.{state_of_core}
use Rattle.core_parts.specs.declared.phase.CoreState.{CoreState}
use Rattle.core_parts.specs.declared.phase.CoreState.TheVariants.{Running, Draining, Ended}
use Rattle.leon_core.specs.Ends.{IsEnded}
use Rattle.lf_model.specs.declared.setup.Setup.{Setup}
use Rattle.machine_play.specs.MachineMade.{is_ended, HasEnded}
use Rattle.machine_play.specs.MachineValue.{MachineValue}
use Rattle.machine_play.specs.Moved.{core_ended, is_over}

ended_by : (state : CoreState) → is_ended state ≡ true → IsEnded state
ended_by Running is = cc
ended_by Draining is = cc
ended_by (Ended end) is = tt

-- each core of a list
pub each_ended : (vs : List CoreValue) → list_all core_ended vs ≡ true → AllByRecursion (λ v. IsEnded (state_of_core v)) vs
each_ended [] all = tt
each_ended (v ∷ vs) all = let parts = and_parts (core_ended v) (list_all core_ended vs) all in (ended_by (state_of_core v) parts.0, each_ended vs parts.1)

-- each core by its number
ended_at : (vs : List CoreValue) → list_all core_ended vs ≡ true → (c : ℕ) → IfSome (slice_get vs c) (λ v. is_ended (state_of_core v) ≡ true)
ended_at [] all c = tt
ended_at (v ∷ vs) all zero = (and_parts (core_ended v) (list_all core_ended vs) all).0
ended_at (v ∷ vs) all (suc c) = ended_at vs (and_parts (core_ended v) (list_all core_ended vs) all).1 c

none_left : (all made : ℕ) → all - made ≡ 0 → all ≤ made
none_left all made is = omega (arith, is)

pub all_over : (setup : Setup) (m : MachineValue) → m.bus.setup ≡ setup → is_over m ≡ true → HasEnded setup m
all_over setup m same over =
    let parts = and_parts _ _ over in
    record {
      cores = ended_at m.cores parts.0;
      scrubber = subst (λ (s : Setup). s.config.scrub_turns ≤ m.walk.walk.turns) same (none_left m.bus.setup.config.scrub_turns m.walk.walk.turns (eqb-true _ _ parts.1));
    }
