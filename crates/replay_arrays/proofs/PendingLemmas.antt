-- Only `begin` lets flips strike: the strikes that are still to come stay so in each other call.
use Rattle.std.proofs.Common.{◌≡◌, ℕ, Bool, true, false, cond, List, [], ◌∷◌, map, refl, ◌∙◌, arith}
use Rattle.std.specs.Prelude.{fold}
use Rattle.std.proofs.lemmas.List.{length-set}
use Rattle.flip_ledger.specs.Follows.{has_struck}
use Rattle.flip_ledger.specs.Plan.{target_of, strike_of, due_at}
use Rattle.flip_ledger.specs.declared.plan.Strike.{Strike}
use Rattle.flip_ledger.specs.declared.plan.Target.{Target}
use Rattle.flip_ledger.specs.declared.plan.Target.TheVariants.{Word, Register, Tag, Line}
use Rattle.lf_model.proofs.EachLemmas.{each_weaker}
use Rattle.lf_model.specs.Caches.Cache.{Cache}
use Rattle.lf_model.specs.Caches.Slot.{history_at, befalls, befalls_each, written}
use Rattle.lf_model.specs.Course.Arrays.{Arrays, read_back, read_then, read_cells, begun}
use Rattle.lf_model.specs.Flips.{Moment, is_fixed_word, is_bad_word}
use Rattle.lf_model.specs.Flips.How.{ByReadBack}
use Rattle.lf_model.specs.Flips.Moment.{Written}
use Rattle.lf_model.specs.declared.flip.Flip.{Flip}
use Rattle.replay_arrays.specs.ArraysInside.{IsArrays}
use Rattle.replay_arrays.specs.ArraysState.{UsesAtMost}
use Rattle.replay_arrays.specs.CellsState.{CellsState}
use Rattle.replay_arrays.specs.KeepsStruck.{KeepsCells, KeepsCache, KeepsParts}
use Rattle.replay_arrays.specs.Striking.{struck_in, with_strike, shape_in, MayStrike, IsPending}
use Rattle.replay_arrays.specs.declared.arrays.Arrays.TheInside.{Inside}
use Rattle.replay_arrays.specs.declared.parts.Parts.{Parts}
use Rattle.replay_arrays.proofs.OwnLemmas.{only_kept}
use Rattle.replay_arrays.proofs.StrikeLemmas.{target_stays, begun_by_due}
use Rattle.replay_caches.specs.CacheState.{CacheState, with_cache}
use Rattle.replay_caches.specs.Keeps.{Keeps}
use Rattle.replay_caches.specs.KeepsStruck.{KeepsStruck}
use Rattle.replay_caches.proofs.StruckLemmas.{IsNoStrike, write_no_strike, in_one}
use Rattle.replay_units.specs.Units.{named}

-- ---- register cells

abbrev with_histories : CellsState → List (List Moment) → CellsState
with_histories s hs = record s { histories = hs }

pub cells_same : (s : CellsState) → KeepsCells s s
cells_same s = record { flips = refl; long = refl; struck = λ number cell. refl }

cells_then : (a b c : CellsState) → KeepsCells a b → KeepsCells b c → KeepsCells a c
cells_then a b c first second = record {
  flips = second.flips ∙ first.flips;
  long = second.long ∙ first.long;
  struck = λ number cell. second.struck number cell ∙ first.struck number cell;
}

one_keeps : (f : List Moment → List Moment) → IsNoStrike f → (cell : ℕ) (s : CellsState) → KeepsCells s (with_histories s (befalls f cell s.histories))
one_keeps f none cell s = record {
  flips = refl;
  long = length-set s.histories cell (f (history_at cell s.histories));
  struck = λ number unit. in_one f none number s.histories cell unit;
}

read_back_no_strike : IsNoStrike read_back
read_back_no_strike number h = by (is_fixed_word h)
  where
    by : (b : Bool) → has_struck number (cond b (Written ByReadBack ∷ h) h) ≡ has_struck number h
    by true = refl
    by false = refl

name_no_strike : IsNoStrike named
name_no_strike number h = refl

pub name_keeps : (cell : ℕ) (s : CellsState) → KeepsCells s (with_histories s (befalls named cell s.histories))
name_keeps cell s = one_keeps named name_no_strike cell s

pub write_keeps : (cells : List ℕ) (s : CellsState) → KeepsCells s (with_histories s (befalls_each written cells s.histories))
write_keeps [] s = cells_same s
write_keeps (cell ∷ cells) s =
    let now : CellsState = with_histories s (befalls written cell s.histories) in
    cells_then s now (with_histories s (befalls_each written cells now.histories)) (one_keeps written write_no_strike cell s) (write_keeps cells now)

pub read_keeps : (cells : List ℕ) (s : CellsState) → KeepsCells s (with_histories s (read_cells cells s.histories).cells)
read_keeps [] s = cells_same s
read_keeps (cell ∷ cells) s = by (read_keeps cells now) (is_bad_word (history_at cell s.histories))
  where
    now : CellsState
    now = with_histories s (befalls read_back cell s.histories)

    by : KeepsCells now (with_histories now (read_cells cells now.histories).cells) → (b : Bool)
        → KeepsCells s (with_histories s (read_then cell b now.histories (read_cells cells now.histories)).cells)
    by rest true = one_keeps read_back read_back_no_strike cell s
    by rest false = cells_then s now (with_histories s (read_cells cells now.histories).cells) (one_keeps read_back read_back_no_strike cell s) rest

-- ---- a cache

cache_same : (s : CacheState) → KeepsCache s s
cache_same s = record { flips = refl; shape = refl; struck = λ slot. record { tags = λ number byte. refl; lines = λ number byte. refl } }

pub cache_keeps : (uses : ℕ) (old new : CacheState) (cache : Cache) → Keeps uses old new → new ≡ with_cache cache old → KeepsStruck old.cache cache → KeepsCache old new
cache_keeps uses old new cache keeps is struck = record {
  flips = keeps.flips;
  shape = keeps.shape;
  struck = rw is struck;
}

-- ---- all of them

pub parts_keep : (core : ℕ) (script : List Flip) (old new : Parts) (plan : List Strike) → KeepsParts old new → IsPending core script old plan → IsPending core script new plan
parts_keep core script old new plan keeps pending = record {
  strikes = each_weaker (MayStrike old) (MayStrike new) plan may pending.strikes;
  apart = pending.apart;
  of_script = pending.of_script;
  own = λ number flip this. only_kept number (target_of flip) old new keeps (pending.own number flip this);
}
  where
    shapes : (fetch : Bool) → shape_in new fetch ≡ shape_in old fetch
    shapes true = keeps.fetch_cache.shape
    shapes false = keeps.data_cache.shape

    may : (s : Strike) → MayStrike old s → MayStrike new s
    may s is = record {
      target = target_stays (shape_in old) (shape_in new) shapes s.target is.target;
      bit = is.bit;
      of_cells = rw keeps.cells.flips is.of_cells;
      of_fetch_cache = rw keeps.fetch_cache.flips is.of_fetch_cache;
      of_data_cache = rw keeps.data_cache.flips is.of_data_cache;
      once = record {
        cells = λ unit lt. keeps.cells.struck s.number unit ∙ is.once.cells unit (omega (arith, lt, keeps.cells.long));
        fetch_cache = record {
          tags = λ i byte. (keeps.fetch_cache.struck i).tags s.number byte ∙ is.once.fetch_cache.tags i byte;
          lines = λ i byte. (keeps.fetch_cache.struck i).lines s.number byte ∙ is.once.fetch_cache.lines i byte;
        };
        data_cache = record {
          tags = λ i byte. (keeps.data_cache.struck i).tags s.number byte ∙ is.once.data_cache.tags i byte;
          lines = λ i byte. (keeps.data_cache.struck i).lines s.number byte ∙ is.once.data_cache.lines i byte;
        };
      };
    }

module _ (a : Inside) (is : IsArrays a) where
  pub all_keep : (new : Parts) → KeepsParts a.parts new → IsArrays (record a { parts = new })
  all_keep new keeps = record {
    flips = record {
      cells = keeps.cells.flips ∙ is.flips.cells;
      fetch_cache = keeps.fetch_cache.flips ∙ is.flips.fetch_cache;
      data_cache = keeps.data_cache.flips ∙ is.flips.data_cache;
    };
    planned = is.planned;
    pending = parts_keep a.core a.script.value a.parts new a.plan keeps is.pending;
  }

  pub keep_by_cells : (new : CellsState) → KeepsCells a.parts.cells new → IsArrays (record a { parts = record a.parts { cells = new } })
  keep_by_cells new keeps =
      all_keep (record a.parts { cells = new }) (record { cells = keeps; fetch_cache = cache_same a.parts.fetch_cache; data_cache = cache_same a.parts.data_cache })

  pub keep_by_fetch_cache : (new : CacheState) → KeepsCache a.parts.fetch_cache new → IsArrays (record a { parts = record a.parts { fetch_cache = new } })
  keep_by_fetch_cache new keeps =
      all_keep (record a.parts { fetch_cache = new }) (record { cells = cells_same a.parts.cells; fetch_cache = keeps; data_cache = cache_same a.parts.data_cache })

  pub keep_by_data_cache : (new : CacheState) → KeepsCache a.parts.data_cache new → IsArrays (record a { parts = record a.parts { data_cache = new } })
  keep_by_data_cache new keeps =
      all_keep (record a.parts { data_cache = new }) (record { cells = cells_same a.parts.cells; fetch_cache = cache_same a.parts.fetch_cache; data_cache = keeps })

-- ---- a flip uses no slot

uses_none : (a : Arrays) → UsesAtMost 0 0 a a
uses_none a = record { fetch_cache = omega arith; data_cache = omega arith }

strike_uses : (number bit : ℕ) (a : Arrays) (target : Target) → UsesAtMost 0 0 a (struck_in number bit a target)
strike_uses number bit a (Word addr) = uses_none a
strike_uses number bit a (Register cell) = record { fetch_cache = omega arith; data_cache = omega arith }
strike_uses number bit a (Tag true way set byte) = record { fetch_cache = omega arith; data_cache = omega arith }
strike_uses number bit a (Tag false way set byte) = record { fetch_cache = omega arith; data_cache = omega arith }
strike_uses number bit a (Line true way set byte) = record { fetch_cache = omega arith; data_cache = omega arith }
strike_uses number bit a (Line false way set byte) = record { fetch_cache = omega arith; data_cache = omega arith }

strikes_use : (run : List Strike) (a : Arrays) → UsesAtMost 0 0 a (fold with_strike a run)
strikes_use [] a = uses_none a
strikes_use (s ∷ run) a =
    let first = strike_uses s.number s.bit a s.target in
    let rest = strikes_use run (with_strike a s) in
    record { fetch_cache = omega (arith, first.fetch_cache, rest.fetch_cache); data_cache = omega (arith, first.data_cache, rest.data_cache) }

pub begin_uses : (step : ℕ) (numbered : List (ℕ × Flip)) (a : Arrays) → UsesAtMost 0 0 a (begun numbered step a)
begin_uses step numbered a = rw (begun_by_due step numbered a) (strikes_use (due_at step (map strike_of numbered)) a)
