-- Which flips of the script strike the arrays of a core, and what each of them makes of them.
use Rattle.std.specs.Prelude.{ℕ, ◌≡◌, ◌<◌, ◌≤◌, ◌++◌, true, false, Bool, List, [], length, filter, fold, Option, Some, None, All, slice_get, if◌then◌else◌}
use Rattle.std.specs.List.{AllByRecursion}
use Rattle.coded_words.specs.Words.{IsToCome as IsToComeInCells}
use Rattle.core_parts.specs.declared.arrays.Arrays.{Arrays}
use Rattle.flip_ledger.specs.Follows.{has_struck}
use Rattle.flip_ledger.specs.Plan.{time_of, target_of, bit_of}
use Rattle.flip_ledger.specs.declared.plan.Strike.{Strike}
use Rattle.flip_ledger.specs.declared.plan.Target.{Target}
use Rattle.flip_ledger.specs.declared.plan.Target.TheVariants.{Word, Register, Tag, Line}
use Rattle.lf_model.specs.Caches.Slot.{history_at, befalls}
use Rattle.lf_model.specs.Course.Arrays.{register_cells, struck_by, struck_tag, struck_line, with_cache}
use Rattle.lf_model.specs.Course.Arrays.{Arrays as CourseArrays}
use Rattle.lf_model.specs.Course.Core.{strikes_core}
use Rattle.lf_model.specs.Flips.{Moment, word_bits}
use Rattle.lf_model.specs.Ledger.FlipFate.{cache_in}
use Rattle.lf_model.specs.NumberedFlips.{numbered_flips}
use Rattle.lf_model.specs.declared.flip.Flip.{Flip}
use Rattle.parity_cache.specs.CacheState.{CacheState}
use Rattle.parity_cache.specs.CacheState.{with_cache as keeping_lines}
use Rattle.parity_cache.specs.CacheUnits.{IsUnit, history_of_unit, IsToCome}
use Rattle.parity_cache.specs.declared.unit.Unit.{Unit as CacheUnit}
use Rattle.parity_units.specs.Bytes.{byte_bits}

-- the arrays as the course has them, and arrays with those of the course in them
abbrev pub arrays_of : Arrays → CourseArrays
arrays_of a = record { cells = a.registers.histories; fetch_cache = a.fetch_cache.cache; data_cache = a.data_cache.cache }

abbrev pub with_arrays : Arrays → CourseArrays → Arrays
with_arrays old a = record {
  registers = record old.registers { histories = a.cells };
  fetch_cache = keeping_lines a.fetch_cache old.fetch_cache;
  data_cache = keeping_lines a.data_cache old.data_cache;
}

-- the flips of the script that strike a core, with their numbers
abbrev pub own_flips : ℕ → List Flip → List (ℕ × Flip)
own_flips core script = filter (λ (flip : ℕ × Flip). strikes_core core flip.1) (numbered_flips script)

-- ---- units

abbrev pub unit_at : Bool → ℕ → ℕ → ℕ → CacheUnit
unit_at tag way set byte = record { tag = tag; way = way; set = set; byte = byte }

-- the target is a unit of the arrays
abbrev pub IsOfArrays : CourseArrays → Target → Type 0
IsOfArrays a (Word addr) = ⊥
IsOfArrays a (Register cell) = cell < register_cells
IsOfArrays a (Tag fetch way set byte) = IsUnit (unit_at true way set byte) (cache_in fetch a)
IsOfArrays a (Line fetch way set byte) = IsUnit (unit_at false way set byte) (cache_in fetch a)

-- its history
abbrev pub history_of : CourseArrays → Target → List Moment
history_of a (Word addr) = []
history_of a (Register cell) = history_at cell a.cells
history_of a (Tag fetch way set byte) = history_of_unit (unit_at true way set byte) (cache_in fetch a)
history_of a (Line fetch way set byte) = history_of_unit (unit_at false way set byte) (cache_in fetch a)

-- its bits
abbrev pub bits_of : Target → ℕ
bits_of (Word addr) = word_bits
bits_of (Register cell) = word_bits
bits_of (Tag fetch way set byte) = byte_bits
bits_of (Line fetch way set byte) = byte_bits

-- ---- a flip strikes

abbrev pub struck_in : ℕ → ℕ → CourseArrays → Target → CourseArrays
struck_in number bit a (Word addr) = a
struck_in number bit a (Register cell) = record a { cells = befalls (struck_by number bit) cell a.cells }
struck_in number bit a (Tag fetch way set byte) = with_cache (struck_tag number bit way set byte) fetch a
struck_in number bit a (Line fetch way set byte) = with_cache (struck_line number bit way set byte) fetch a

abbrev pub with_strike : CourseArrays → Strike → CourseArrays
with_strike a strike = struck_in strike.number strike.bit a strike.target

-- flip number `number` may strike a bit of this register cell, or of this unit of a cache: it did not yet
pub record MayStrikeCell (number bit cell : ℕ) (a : Arrays) : Type 0 where
  pub cell_fits : cell < register_cells
  pub bit_fits : bit < word_bits
  pub known : number < a.registers.flips
  pub once : IsToComeInCells number a.registers.histories

pub record MayStrikeUnit (number bit : ℕ) (at : CacheUnit) (c : CacheState) : Type 0 where
  pub unit : IsUnit at c.cache
  pub bit_fits : bit < byte_bits
  pub known : number < c.flips
  pub once : IsToCome number c.cache

abbrev pub cache_of : Bool → Arrays → CacheState
cache_of fetch a = if fetch then a.fetch_cache else a.data_cache

abbrev pub MayStrikeAt : ℕ → ℕ → Arrays → Target → Type 0
MayStrikeAt number bit a (Word addr) = Unit {0}
MayStrikeAt number bit a (Register cell) = MayStrikeCell number bit cell a
MayStrikeAt number bit a (Tag fetch way set byte) = MayStrikeUnit number bit (unit_at true way set byte) (cache_of fetch a)
MayStrikeAt number bit a (Line fetch way set byte) = MayStrikeUnit number bit (unit_at false way set byte) (cache_of fetch a)

abbrev pub MayStrike : Arrays → Strike → Type 0
MayStrike a strike = MayStrikeAt strike.number strike.bit a strike.target

-- ---- the script

-- a flip that strikes the core is for a bit of a unit of its arrays
abbrev pub AimsAt : ℕ → CourseArrays → Flip → Type 0
AimsAt core a flip = strikes_core core flip ≡ true → IsOfArrays a (target_of flip) × (bit_of flip < bits_of (target_of flip))

-- the arrays of a core, for a script
pub record IsFor (core : ℕ) (script : List Flip) (a : Arrays) : Type 0 where
  pub cells : length a.registers.histories ≡ register_cells
  pub register_flips : a.registers.flips ≡ length script
  pub fetch_flips : a.fetch_cache.flips ≡ length script
  pub data_flips : a.data_cache.flips ≡ length script
  pub aims : AllByRecursion (AimsAt core (arrays_of a)) script

-- the flip is one of the script that strikes the core, in a step before this one, and this unit
abbrev pub CameAs : ℕ → ℕ → Target → Option Flip → Type 0
CameAs core step target None = ⊥
CameAs core step target (Some flip) = (strikes_core core flip ≡ true) × ((time_of flip < step) × (target_of flip ≡ target))

-- only flips of the script struck, each of a step before this one, and its own unit
abbrev pub Came : List Flip → ℕ → ℕ → CourseArrays → Type 0
Came script core step a = (i : ℕ) (target : Target) → IsOfArrays a target → has_struck i (history_of a target) ≡ true
    → CameAs core step target (slice_get script i)

-- ---- the flips of a step, one after the other

-- how far they have come: those of the run struck, and the rest of the plan is still to come
pub record IsAlong (step : ℕ) (first : Arrays) (plan : List Strike) (a : Arrays) (rest : List Strike) : Type 0 where
  pub run : List Strike
  pub split : plan ≡ run ++ rest
  pub early : All (λ (strike : Strike). strike.at ≤ step) run
  pub arrays_are : a ≡ with_arrays first (fold with_strike (arrays_of first) run)
