-- What a trial of an instruction comes to, leaves and notes.
use Rattle.std.specs.Prelude.{ℕ, ◌≡◌, Bool, fold}
use Rattle.lf_model.specs.Effect.{Effect}
use Rattle.lf_model.specs.Run.{Run, site_of}
use Rattle.lf_model.specs.Step.{IsSound, Does, run_seen}
use Rattle.lf_model.specs.declared.setup.Setup.{Setup}
use Rattle.v8_exec.specs.Accesses.{Asks}
use Rattle.v8_exec.specs.Touching.{touches_of}
use Rattle.replay_effects.specs.Noted.{nothing_noted, trial_answers, trial_touch}
use Rattle.replay_effects.specs.TrialInside.{seen_in, noted_in}
use Rattle.replay_effects.specs.declared.tried.Tried.{Tried}

-- the instruction with this effect was tried on a core whose run has come so far: a load reads this number, and a store waits or
-- doesn't
pub record IsTried (setup : Setup) (core got : ℕ) (waiting : Bool) (e : Effect) (r : Run) (t : Tried) : Type 0 where
  pub does : Does core (trial_answers (nothing_noted got waiting)) e t.did r (run_seen t.arch (seen_in t.trial))
  pub notes : noted_in t.trial ≡ fold trial_touch (nothing_noted got waiting) (touches_of (trial_answers (nothing_noted got waiting)) r.state.ctl.cwp e t.did)
  pub sound : IsSound t.arch
  pub number : t.arch.core ≡ core
  pub site : (seen_in t.trial).site ≡ site_of setup core
  pub asks : Asks (site_of setup core) t.did
