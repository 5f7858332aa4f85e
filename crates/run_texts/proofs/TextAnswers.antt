-- What the lines of scripts and schedules fit, and that they have no fault without fields.
use Rattle.std.proofs.Common.{ℕ, ◌≡◌, ◌≤◌, List, [], ◌∷◌, length, All, None, refl, arith}
use Rattle.lf_model.specs.declared.config.Config.{Config}
use Rattle.lf_model.specs.declared.flip.Flip.{Flip}
use Rattle.run_texts.specs.EventLine as events
use Rattle.run_texts.specs.FlipLine as flips
use Rattle.run_texts.specs.Script.{IsFlipBehind}
use Rattle.run_texts.proofs.GrammarLemmas.{AllFit}

pub no_flip_fault : (config : Config) (earlier : ℕ) → flips.fault_of config earlier [] ≡ None
unfolding flips.fault_of
no_flip_fault config earlier = refl

pub no_event_fault : (config : Config) → events.fault_of config [] ≡ None
unfolding events.fault_of
no_event_fault config = refl

-- flips that fit behind those before them are not too many, and each is of a bit of the machine
pub few_flips : (config : Config) (flips : List Flip) → AllFit (IsFlipBehind config) flips → length flips ≤ 65536
few_flips config [] fit = omega arith
few_flips config (flip ∷ others) fit = let last = fit (length others) flip (omega arith) in omega (arith, last.0)

pub flips_of_machine : (config : Config) (flips_ : List Flip) → AllFit (IsFlipBehind config) flips_ → All (flips.IsOfMachine config) flips_
flips_of_machine config flips_ fit = λ k d within. (fit k d within).1
