-- What an instruction of a core works on: its register cells, its caches with the bytes of their lines, and the stores that wait;
-- and what each touch makes of it.
use Rattle.std.specs.Prelude.{ℕ, nat_le, nat_lt, List, [], ◌∷◌, ◌++◌, length, map, Option, Some, None, if◌then◌else◌}
use Rattle.lf_model.specs.Caches.Look.{look}
use Rattle.lf_model.specs.Course.Arrays.{Arrays}
use Rattle.lf_model.specs.Course.Touches.{touched}
use Rattle.lf_model.specs.Flips.{Moment, is_bad_word, syndrome}
use Rattle.lf_model.specs.Step.{Parts}
use Rattle.lf_model.specs.declared.flip.Flip.{Flip}
use Rattle.lf_model.specs.declared.touch.Touch.{Touch}
use Rattle.lf_model.specs.declared.touch.Touch.TheVariants.{StartStep, LookFetch, ReadCell, WriteCell, LookData, StoreData, FlushCaches, SnoopData, FillFetch, FillData}
use Rattle.parity_cache.specs.CacheState.{CacheState, with_cache, answer_of, stored_cache}

-- a store that waits: its address, its bytes and its value
pub record Waiting : Type 0 where
  pub addr : ℕ
  pub len : ℕ
  pub value : ℕ

-- cells: the histories of the register cells; depth: how many stores may wait
pub record PortState : Type 0 where
  pub cells : List (List Moment)
  pub fetch_cache : CacheState
  pub data_cache : CacheState
  pub waiting : List Waiting
  pub depth : ℕ

-- the arrays that flips strike
abbrev pub arrays_in : PortState → Arrays
arrays_in s = record { cells = s.cells; fetch_cache = s.fetch_cache.cache; data_cache = s.data_cache.cache }

-- ---- touches

-- the bytes of the lines of the data cache after a touch: an own store writes its own
abbrev pub lines_after : PortState → Touch → List (List ℕ)
lines_after s (StoreData addr len value) = (stored_cache addr len value s.data_cache).lines
lines_after s (StartStep step) = s.data_cache.lines
lines_after s (LookFetch addr) = s.data_cache.lines
lines_after s (ReadCell cell) = s.data_cache.lines
lines_after s (WriteCell cell) = s.data_cache.lines
lines_after s (LookData addr len) = s.data_cache.lines
lines_after s FlushCaches = s.data_cache.lines
lines_after s (SnoopData addr) = s.data_cache.lines
lines_after s (FillFetch addr valid) = s.data_cache.lines
lines_after s (FillData addr valid) = s.data_cache.lines

-- the stores that wait then: an own store is the last of them
abbrev pub waiting_after : PortState → Touch → List Waiting
waiting_after s (StoreData addr len value) = s.waiting ++ record { addr = addr; len = len; value = value } ∷ []
waiting_after s (StartStep step) = s.waiting
waiting_after s (LookFetch addr) = s.waiting
waiting_after s (ReadCell cell) = s.waiting
waiting_after s (WriteCell cell) = s.waiting
waiting_after s (LookData addr len) = s.waiting
waiting_after s FlushCaches = s.waiting
waiting_after s (SnoopData addr) = s.waiting
waiting_after s (FillFetch addr valid) = s.waiting
waiting_after s (FillData addr valid) = s.waiting

-- the arrays are those of the definitions after the touch. The words of a fill are not in it.
abbrev pub touch : List (ℕ × Flip) → PortState → Touch → PortState
touch flips s t = let a = touched flips (arrays_in s) t in record s {
  cells = a.cells;
  fetch_cache = with_cache a.fetch_cache s.fetch_cache;
  data_cache = record s.data_cache { cache = a.data_cache; lines = lines_after s t };
  waiting = waiting_after s t;
}

-- ---- what the parts answer

-- the syndrome of a cell that reads bad
abbrev pub bad_syndrome : List Moment → Option ℕ
bad_syndrome h = if is_bad_word h then Some (syndrome h) else None

abbrev pub answers : PortState → Parts
answers s = record {
  bad = map bad_syndrome s.cells;
  look = λ addr len. answer_of addr len s.data_cache (look addr len s.data_cache.cache).answer;
  full = nat_le s.depth (length s.waiting);
  waiting = nat_lt 0 (length s.waiting);
}
