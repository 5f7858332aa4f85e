-- The events of a schedule, and then rounds, bring all actors to where the machine is at its end.
use Rattle.std.proofs.Common.{◌≡◌, ◌∙◌, ℕ, List, Result, Ok, Err, IfOk, fold, sym, subst}
use Rattle.lf_model.specs.Promise.Follows.{scheduled, rounds}
use Rattle.lf_model.specs.declared.setup.Event.{Event}
use Rattle.lf_model.specs.declared.setup.Setup.{Setup}
use Rattle.machine_play.specs.MachineMade.{ComesTo}
use Rattle.machine_play.specs.MachineValue.{MachineValue}
use Rattle.machine_play.specs.Moved.{IsMoved, GoesRound}

module _ (setup : Setup) (events : List Event) (first mid last : MachineValue) (of_setup : first.bus.setup ≡ setup) (starts : ComesTo setup (λ a. a) first)
    (moved : IsMoved (λ a. fold scheduled a events) first mid) (count : ℕ) (goes : GoesRound count mid last) where
  pub setup_last : last.bus.setup ≡ setup
  setup_last = goes.setup ∙ (moved.setup ∙ of_setup)

  mid_comes : ComesTo setup (λ a. fold scheduled a events) mid
  mid_comes = subst (λ (s : Setup). ComesTo s (λ a. fold scheduled a events) mid) of_setup
      (moved.makes (λ a. a) (subst (λ (s : Setup). ComesTo s (λ a. a) first) (sym of_setup) starts))

  pub last_comes : ComesTo setup (λ a. rounds count (fold scheduled a events)) last
  last_comes = subst (λ (s : Setup). ComesTo s (λ a. rounds count (fold scheduled a events)) last) (moved.setup ∙ of_setup)
      (goes.makes events (subst (λ (s : Setup). ComesTo s (λ a. fold scheduled a events) mid) (sym (moved.setup ∙ of_setup)) mid_comes))

-- a fact of a good answer that follows from another
pub if_ok : {T E : Type 0} (P Q : T → Type 0) (r : Result T E) → ((x : T) → P x → Q x) → IfOk r P → IfOk r Q
if_ok P Q (Ok x) follows h = follows x h
if_ok P Q (Err e) follows h = tt
