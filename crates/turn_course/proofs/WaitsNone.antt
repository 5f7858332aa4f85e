-- A turn that is no drain is needed only where no store waits.
use Rattle.std.proofs.Common.{◌≡◌, ◌+◌, ℕ, Bool, true, false, nat_le, refl, subst, arith}
use Rattle.std.proofs.lemmas.Bool.{ltb-false}
use Rattle.lf_model.specs.Course.Attempt.{Attempt}
use Rattle.lf_model.specs.Course.Core.{Ground}
use Rattle.lf_model.specs.Course.Outcome.{Outcome, Need, outcome_needs, step_needs}
use Rattle.lf_model.specs.Course.Outcome.Need.{NoTurn, RegisterStop}
use Rattle.lf_model.specs.Course.Outcome.Need.{Turn as Asks}
use Rattle.lf_model.specs.Course.Outcome.Outcome.{NotTried, NoText, FetchMiss, BadRegister, OrdinaryTrap, LoadMiss, LoadHit, Store, Atomic, Barrier, Other}
use Rattle.lf_model.specs.Course.Progress.{Progress, store_waits, buffer_full}
use Rattle.lf_model.specs.Course.Turn.{is_past_steps, turn_needs}
use Rattle.lf_model.specs.Names.{same_why}
use Rattle.lf_model.specs.declared.bus.TurnKind.{TurnKind}
use Rattle.lf_model.specs.declared.bus.TurnKind.TheVariants as kinds
use Rattle.lf_model.specs.declared.bus.Why.{Why}
use Rattle.lf_model.specs.declared.bus.Why.TheVariants as whys

-- no turn but a drain is needed
abbrev OnlyDrains : Need → Type 0
OnlyDrains NoTurn = Unit {0}
OnlyDrains (Asks kind why) = kind ≡ kinds.Store
OnlyDrains (RegisterStop cell) = Unit {0}

outcome_drains : (et full : Bool) (outcome : Outcome) → OnlyDrains (outcome_needs et true full outcome)
outcome_drains et full NotTried = tt
outcome_drains true full NoText = tt
outcome_drains false full NoText = refl
outcome_drains et full (FetchMiss why) = refl
outcome_drains et full (BadRegister cell) = refl
outcome_drains true full OrdinaryTrap = tt
outcome_drains false full OrdinaryTrap = refl
outcome_drains et full (LoadMiss why) = refl
outcome_drains et full (LoadHit slot) = tt
outcome_drains et true Store = refl
outcome_drains et false Store = tt
outcome_drains et full Atomic = refl
outcome_drains et full (Barrier why) = refl
outcome_drains et full Other = tt

step_drains : (over et full : Bool) (outcome : Outcome) → OnlyDrains (step_needs over et true full outcome)
step_drains true et full outcome = refl
step_drains false et full outcome = outcome_drains et full outcome

module _ (g : Ground) (k : Progress) (why : Why) (x : Attempt) where
  only_drains : (past sched : Bool) → is_past_steps g k ≡ past → same_why why whys.Sched ≡ sched → store_waits k ≡ true → OnlyDrains (turn_needs g why x k)
  only_drains true sched p s w = rw (p, w) refl
  only_drains false true p s w = rw (p, s, w) refl
  only_drains false false p s w = rw (p, s, w) (step_drains (nat_le g.setup.config.window k.quiet) k.run.state.ctl.et (buffer_full g k) x.outcome)

  none_by : (kind : TurnKind) (w : Why) → (kind ≡ kinds.Store → ⊥) → turn_needs g why x k ≡ Asks kind w → (waits : Bool) → store_waits k ≡ waits → store_waits k ≡ false
  none_by kind w other needed true is = absurd (other (subst OnlyDrains needed (only_drains (is_past_steps g k) (same_why why whys.Sched) refl refl is)))
  none_by kind w other needed false is = is

  pub none_waits : (kind : TurnKind) (w : Why) → (kind ≡ kinds.Store → ⊥) → turn_needs g why x k ≡ Asks kind w → (waiting : ℕ) → k.drained + waiting ≡ k.stored → waiting ≡ 0
  none_waits kind w other needed waiting count =
      omega (arith, count, ltb-false k.drained k.stored (none_by kind w other needed (store_waits k) refl))
