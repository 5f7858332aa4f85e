-- An atomic that was tried, and is made.
use Rattle.std.specs.Prelude.{ℕ, ◌≡◌, [], ◌∷◌, ◌++◌, length}
use Rattle.lf_model.specs.State.{advanced, with_register}
use Rattle.lf_model.specs.Step.{IsSound, state_of}
use Rattle.lf_model.specs.declared.bus.OpKind.TheVariants.{Atomic}
use Rattle.replay_effects.specs.TrialInside.{seen_in}
use Rattle.replay_effects.specs.declared.tried.Exchange.{Exchange}
use Rattle.replay_effects.specs.declared.tried.Tried.{Tried}

pub record Exchanges (x : Exchange) (got : ℕ) (old new : Tried) : Type 0 where
  pub state : state_of new.arch (seen_in new.trial) ≡ advanced (with_register x.rd got (state_of old.arch (seen_in old.trial)))
  pub ops : (seen_in new.trial).ops ≡ (seen_in old.trial).ops
      ++ record { got = got; put = x.access.put; core = old.trial.core; k = length (seen_in old.trial).ops; addr = x.access.addr; kind = Atomic; len = x.access.len } ∷ []
  pub sound : IsSound new.arch
  pub number : new.arch.core ≡ old.arch.core
