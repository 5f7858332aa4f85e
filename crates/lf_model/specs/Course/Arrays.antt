-- The arrays of a core that flips strike: its register cells and its two caches. Flips strike as a step begins; instructions
-- read and write the cells (GRLIB, LEON3FT, register file protection).
use Rattle.std.specs.Prelude.{ℕ, ◌+◌, ◌*◌, ◌==◌, not, Bool, true, false, List, [], ◌∷◌, map, filter, fold, replicate, Option, Some, None, if◌then◌else◌}
use Rattle.lf_model.specs.Caches.Slot.{history_at, befalls, befalls_each, written}
use Rattle.lf_model.specs.Caches.Cache.{Cache, empty_cache, with_slot}
use Rattle.lf_model.specs.Flips.{Moment, is_bad_word, is_fixed_word}
use Rattle.lf_model.specs.Flips.How.{ByReadBack}
use Rattle.lf_model.specs.Flips.Moment.{Struck, Written}
use Rattle.lf_model.specs.State.{cell}
use Rattle.lf_model.specs.declared.config.Config.{Config}
use Rattle.lf_model.specs.declared.flip.Flip.{Flip}
use Rattle.lf_model.specs.declared.flip.Flip.TheVariants.{Mem, Reg, Tag, Line}

-- cells: the histories of the register cells
pub record Arrays : Type 0 where
  pub cells : List (List Moment)
  pub fetch_cache : Cache
  pub data_cache : Cache

abbrev pub register_cells : ℕ
register_cells = 136

-- the arrays at reset
abbrev pub reset_arrays : Config → Arrays
reset_arrays config = record { cells = replicate register_cells []; fetch_cache = empty_cache config.fetch_cache; data_cache = empty_cache config.load_cache }

-- ---- flips

abbrev pub struck_by : ℕ → ℕ → List Moment → List Moment
struck_by number bit h = Struck number bit ∷ h

-- the fetch cache or the data cache changes
abbrev pub with_cache : (Cache → Cache) → Bool → Arrays → Arrays
with_cache change fetch a = if fetch then record a { fetch_cache = change a.fetch_cache } else record a { data_cache = change a.data_cache }

-- a tag byte, or a byte of the line, of a way of a set is struck
abbrev pub struck_tag : ℕ → ℕ → ℕ → ℕ → ℕ → Cache → Cache
struck_tag number bit way set byte cache =
    with_slot (λ slot. record slot { tag_histories = befalls (struck_by number bit) byte slot.tag_histories }) (set * cache.shape.ways + way) cache

abbrev pub struck_line : ℕ → ℕ → ℕ → ℕ → ℕ → Cache → Cache
struck_line number bit way set byte cache =
    with_slot (λ slot. record slot { line_histories = befalls (struck_by number bit) byte slot.line_histories }) (set * cache.shape.ways + way) cache

-- a flip with this number strikes, if it is for this step
abbrev pub strike : ℕ → ℕ → Arrays → Flip → Arrays
strike at number a (Mem turn addr bit) = a
strike at number a (Reg core step cell bit) = if step == at then record a { cells = befalls (struck_by number bit) cell a.cells } else a
strike at number a (Tag core step fetch way set byte bit) = if step == at then with_cache (struck_tag number bit way set byte) fetch a else a
strike at number a (Line core step fetch way set byte bit) = if step == at then with_cache (struck_line number bit way set byte) fetch a else a

-- a step begins: the flips of the script for it strike, in the order of the script
abbrev pub begun : List (ℕ × Flip) → ℕ → Arrays → Arrays
begun flips step a = fold (λ b (flip : ℕ × Flip). strike step flip.0 b flip.1) a flips

-- ---- register cells

-- the cells of registers of a window, in order; register 0 has none
abbrev pub cells_of : ℕ → List ℕ → List ℕ
cells_of window registers = map (cell window) (filter (λ n. not (n == 0)) registers)

-- a read that puts a cell right writes it back
abbrev pub read_back : List Moment → List Moment
read_back h = if is_fixed_word h then Written ByReadBack ∷ h else h

-- cells that were read, and the first bad one of them
pub record CellsRead : Type 0 where
  pub bad : Option ℕ
  pub cells : List (List Moment)

-- a cell is read, and the later ones unless it was bad
abbrev pub read_then : ℕ → Bool → List (List Moment) → CellsRead → CellsRead
read_then c true cells later = record { bad = Some c; cells = cells }
read_then c false cells later = later

-- these cells are read, in order, up to and with the first bad one
abbrev pub read_cells : List ℕ → List (List Moment) → CellsRead
read_cells [] cells = record { bad = None; cells = cells }
read_cells (c ∷ cs) cells = read_then c (is_bad_word (history_at c cells)) (befalls read_back c cells) (read_cells cs (befalls read_back c cells))

-- these cells are written
abbrev pub write_cells : List ℕ → Arrays → Arrays
write_cells cs a = record a { cells = befalls_each written cs a.cells }
