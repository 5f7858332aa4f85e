-- What became of each flip of a script: its fate, by the history of the unit that it is for. Units that are not looked at here
-- have no history, and their flips are late.
use Rattle.std.specs.Prelude.{ℕ, ◌+◌, ◌*◌, Bool, List, [], map, Option, if◌then◌else◌}
use Rattle.std.specs.Option.{option_map_or}
use Rattle.lf_model.specs.Bus.Words.{Word, word_history}
use Rattle.lf_model.specs.Caches.Slot.{Slot, history_at}
use Rattle.lf_model.specs.Caches.Cache.{Cache, slot_at}
use Rattle.lf_model.specs.Course.Arrays.{Arrays}
use Rattle.lf_model.specs.Fates.{fate_of}
use Rattle.lf_model.specs.Flips.{Moment, word_budget, byte_budget}
use Rattle.lf_model.specs.NumberedFlips.{numbered_flips}
use Rattle.lf_model.specs.declared.flip.Flip.{Flip}
use Rattle.lf_model.specs.declared.flip.Flip.TheVariants.{Mem, Reg, Tag, Line}
use Rattle.lf_model.specs.declared.trace.Fate.{Fate}

abbrev pub cache_in : Bool → Arrays → Cache
cache_in fetch a = if fetch then a.fetch_cache else a.data_cache

abbrev pub slot_in : ℕ → ℕ → Cache → Slot
slot_in way set cache = slot_at (set * cache.shape.ways + way) cache

-- a history in the arrays of a core, if they are looked at
abbrev pub history_in : (Arrays → List Moment) → Option Arrays → List Moment
history_in history arrays = option_map_or history arrays []

-- the history of the unit that a flip is for, by the words of memory and the arrays of cores
abbrev pub unit_history : List Word → (ℕ → Option Arrays) → Flip → List Moment
unit_history words cores (Mem turn addr bit) = word_history words addr
unit_history words cores (Reg core step cell bit) = history_in (λ a. history_at cell a.cells) (cores core)
unit_history words cores (Tag core step fetch way set byte bit) =
    history_in (λ a. history_at byte (slot_in way set (cache_in fetch a)).tag_histories) (cores core)
unit_history words cores (Line core step fetch way set byte bit) =
    history_in (λ a. history_at byte (slot_in way set (cache_in fetch a)).line_histories) (cores core)

-- how many flips its unit takes between two writes
abbrev pub budget_of : Flip → ℕ
budget_of (Mem turn addr bit) = word_budget
budget_of (Reg core step cell bit) = word_budget
budget_of (Tag core step fetch way set byte bit) = byte_budget
budget_of (Line core step fetch way set byte bit) = byte_budget

-- the fates of a script's flips, in its order
abbrev pub flip_fates : List Flip → List Word → (ℕ → Option Arrays) → List Fate
flip_fates script words cores = map (λ (flip : ℕ × Flip). fate_of (budget_of flip.1) flip.0 (unit_history words cores flip.1)) (numbered_flips script)
