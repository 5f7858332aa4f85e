-- The strikes of a plan, and what each of them makes of the arrays of a core.
use Rattle.std.specs.Prelude.{ℕ, ◌≡◌, ◌<◌, ◌≤◌, ◌++◌, Bool, List, fold, All, Some, slice_get, if◌then◌else◌}
use Rattle.std.specs.List.{AllByRecursion}
use Rattle.flip_ledger.specs.Plan.{target_of}
use Rattle.flip_ledger.specs.declared.plan.Owner.TheVariants.{Core}
use Rattle.flip_ledger.specs.declared.plan.Strike.{Strike}
use Rattle.flip_ledger.specs.declared.plan.Target.{Target}
use Rattle.flip_ledger.specs.declared.plan.Target.TheVariants.{Word, Register, Tag, Line}
use Rattle.lf_model.specs.Caches.Slot.{befalls}
use Rattle.lf_model.specs.Course.Arrays.{Arrays, struck_by, struck_tag, struck_line, with_cache}
use Rattle.lf_model.specs.declared.config.Shape.{Shape}
use Rattle.lf_model.specs.declared.flip.Flip.{Flip}
use Rattle.replay_arrays.specs.Aims.{IsTarget, bits_of}
use Rattle.replay_arrays.specs.Own.{IsOnlyAt}
use Rattle.replay_arrays.specs.declared.parts.Parts.{Parts}
use Rattle.replay_caches.specs.SlotsState.{IsToCome as IsToComeInSlots}
use Rattle.replay_units.specs.PlanNumbers.{IsOf, AreApart}
use Rattle.replay_units.specs.Units.{IsToCome}

-- the arrays as the course has them, and those of the course, for a script of so many flips or in place of others
abbrev pub arrays_of : Parts → Arrays
arrays_of p = record { cells = p.cells.histories; fetch_cache = p.fetch_cache.cache; data_cache = p.data_cache.cache }

abbrev pub parts_with : ℕ → Arrays → Parts
parts_with flips a = record {
  cells = record { histories = a.cells; flips = flips };
  fetch_cache = record { cache = a.fetch_cache; flips = flips };
  data_cache = record { cache = a.data_cache; flips = flips };
}

abbrev pub with_arrays : Parts → Arrays → Parts
with_arrays old a = record {
  cells = record old.cells { histories = a.cells };
  fetch_cache = record old.fetch_cache { cache = a.fetch_cache };
  data_cache = record old.data_cache { cache = a.data_cache };
}

-- ---- a flip strikes

abbrev pub struck_in : ℕ → ℕ → Arrays → Target → Arrays
struck_in number bit a (Word addr) = a
struck_in number bit a (Register cell) = record a { cells = befalls (struck_by number bit) cell a.cells }
struck_in number bit a (Tag fetch way set byte) = with_cache (struck_tag number bit way set byte) fetch a
struck_in number bit a (Line fetch way set byte) = with_cache (struck_line number bit way set byte) fetch a

abbrev pub with_strike : Arrays → Strike → Arrays
with_strike a strike = struck_in strike.number strike.bit a strike.target

-- ---- which flips may strike

-- the shapes of the two caches
abbrev pub shape_in : Parts → Bool → Shape
shape_in p fetch = if fetch then p.fetch_cache.cache.shape else p.data_cache.cache.shape

-- the arrays are for a script of so many flips
pub record HasFlips (flips : ℕ) (p : Parts) : Type 0 where
  pub cells : p.cells.flips ≡ flips
  pub fetch_cache : p.fetch_cache.flips ≡ flips
  pub data_cache : p.data_cache.flips ≡ flips

-- a flip of the script has struck no array
pub record HasNotCome (number : ℕ) (p : Parts) : Type 0 where
  pub cells : IsToCome number p.cells.histories
  pub fetch_cache : IsToComeInSlots number p.fetch_cache.cache.slots
  pub data_cache : IsToComeInSlots number p.data_cache.cache.slots

-- a strike may be made: it was not yet
pub record MayStrike (p : Parts) (strike : Strike) : Type 0 where
  pub target : IsTarget (shape_in p) strike.target
  pub bit : strike.bit < bits_of strike.target
  pub of_cells : strike.number < p.cells.flips
  pub of_fetch_cache : strike.number < p.fetch_cache.flips
  pub of_data_cache : strike.number < p.data_cache.flips
  pub once : HasNotCome strike.number p

-- the strikes of a plan are still to come, each once, and those that came struck their own units
pub record IsPending (core : ℕ) (script : List Flip) (p : Parts) (plan : List Strike) : Type 0 where
  pub strikes : AllByRecursion (MayStrike p) plan
  pub apart : AreApart plan
  pub of_script : AllByRecursion (IsOf (Core core) script) plan
  pub own : (number : ℕ) (flip : Flip) → slice_get script number ≡ Some flip → IsOnlyAt number (target_of flip) p

-- how far the strikes of a step have come: those of the run were made, and the rest of the plan is still to come
pub record IsAlong (core : ℕ) (script : List Flip) (step : ℕ) (first : Parts) (plan : List Strike)
    (p : Parts) (rest : List Strike) : Type 0 where
  pub run : List Strike
  pub split : plan ≡ run ++ rest
  pub early : All (λ strike. strike.at ≤ step) run
  pub parts_are : p ≡ with_arrays first (fold with_strike (arrays_of first) run)
  pub pending : IsPending core script p rest
