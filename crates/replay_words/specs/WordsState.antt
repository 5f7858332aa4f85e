-- The words that a script strikes, over the turns of the bus, as the replay has them.
use Rattle.std.specs.Prelude.{◌≡◌, ℕ, List, IfSome, slice_get}
use Rattle.lf_model.specs.Bus.Words.{Word}
use Rattle.lf_model.specs.Fates.{fate_of}
use Rattle.lf_model.specs.Ledger.FlipFate.{unit_history, budget_of}
use Rattle.lf_model.specs.Records.BusRecord.{no_arrays}
use Rattle.lf_model.specs.declared.flip.Flip.{Flip}
use Rattle.lf_model.specs.declared.trace.Fate.{Fate}

-- turns: how many began
pub record WordsState : Type 0 where
  pub script : List Flip
  pub words : List Word
  pub turns : ℕ

-- the script's flip of this number has this fate, by the words alone
abbrev pub HasFate : WordsState → ℕ → Fate → Type 0
HasFate w number fate =
    IfSome (slice_get w.script number) (λ flip. fate ≡ fate_of (budget_of flip) number (unit_history w.words no_arrays flip))
