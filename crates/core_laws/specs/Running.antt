-- What a running core goes by. It doesn't know its end yet, nor what it will read and store.
use Rattle.std.specs.Prelude.{ℕ, ◌≡◌, ◌≤◌, ◌<◌, ◌==◌, ◌++◌, true, false, List, length}
use Rattle.lf_model.specs.Course.Core.{Given, Ground, ground_of, is_register_stop, is_stop_at}
use Rattle.lf_model.specs.Course.Progress.{Progress}
use Rattle.lf_model.specs.Run.{reads_of}
use Rattle.lf_model.specs.declared.bus.Transfer.{Transfer}
use Rattle.lf_model.specs.declared.setup.Setup.{Setup}
use Rattle.lf_model.specs.declared.trace.CoreEnd.{CoreEnd}
use Rattle.lf_model.specs.declared.trace.CoreEnd.TheVariants.{Limit}

-- it goes by what it has read and stored so far, and by the step limit
abbrev pub running : Setup → ℕ → Given → Ground
running setup core given = ground_of setup core given Limit setup.config.steps

-- more numbers read and more stores made
abbrev pub with_later : Given → Given → Given
with_later given later = record { answers = given.answers ++ later.answers; stores = given.stores ++ later.stores }

-- the end is no stop at this transfer, if it is the core's
abbrev pub IsNoStop : ℕ → CoreEnd → Transfer → Type 0
IsNoStop core end t = (core == t.master) ≡ true → is_stop_at t.turn end ≡ false

-- a core that has come so far has read no more than these numbers and made no more than these steps, the last of which a stop by a
-- register cell ends
pub record IsBefore (answers : List ℕ) (end : CoreEnd) (steps : ℕ) (k : Progress) : Type 0 where
  pub read : reads_of k.run.ops ≤ length answers
  pub within : k.steps ≤ steps
  pub last : is_register_stop end ≡ true → k.steps < steps
