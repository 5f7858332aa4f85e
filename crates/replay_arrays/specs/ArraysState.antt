-- The arrays of a core, over its steps, as the replay has them.
use Rattle.std.specs.Prelude.{◌≡◌, ℕ, ◌+◌, ◌≤◌, List, Option, Some}
use Rattle.lf_model.specs.Bus.Words.{Word}
use Rattle.lf_model.specs.Course.Arrays.{Arrays}
use Rattle.lf_model.specs.Fates.{fate_of}
use Rattle.lf_model.specs.Ledger.FlipFate.{unit_history, budget_of}
use Rattle.lf_model.specs.declared.flip.Flip.{Flip}
use Rattle.lf_model.specs.declared.trace.Fate.{Fate}

-- core: the core's number; arrays: as the course has them; steps: how many began
pub record ArraysState : Type 0 where
  pub script : List Flip
  pub core : ℕ
  pub arrays : Arrays
  pub steps : ℕ

-- slots of the fetch cache and of the data cache were used at most so many times
pub record UsesAtMost (in_fetch in_data : ℕ) (old new : Arrays) : Type 0 where
  pub fetch_cache : new.fetch_cache.uses ≤ old.fetch_cache.uses + in_fetch
  pub data_cache : new.data_cache.uses ≤ old.data_cache.uses + in_data

-- a flip of the script that strikes the core has this fate, whatever the words of memory and the arrays of other cores are
abbrev pub HasFate : ArraysState → ℕ → Flip → Fate → Type 0
HasFate a number flip fate = (words : List Word) (cores : ℕ → Option Arrays) → cores a.core ≡ Some a.arrays
    → fate ≡ fate_of (budget_of flip) number (unit_history words cores flip)
