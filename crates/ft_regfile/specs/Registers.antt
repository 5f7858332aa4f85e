-- The register cells of a core (SPARC V8, chapter 4, windowed registers), as their users see them.
use Rattle.std.specs.Prelude.{ℕ, List, [], replicate, Option, Some, None, Result, Ok, Err, slice_index, slice_set, if◌then◌else◌}
use Rattle.lf_model.specs.Caches.Slot.{history_at, befalls, written}
use Rattle.lf_model.specs.Course.Arrays.{register_cells}
use Rattle.lf_model.specs.Flips.{Moment, is_bad_word, syndrome}
use Rattle.lf_model.specs.declared.step.RegBad.{RegBad}

-- values: those last written; histories: what befell each cell; flips: how many the script has
pub record Registers : Type 0 where
  pub values : List ℕ
  pub histories : List (List Moment)
  pub flips : ℕ

-- cells that nothing befell yet, with these values
abbrev pub fresh_registers : List ℕ → ℕ → Registers
fresh_registers values flips = record { values = values; histories = replicate register_cells []; flips = flips }

-- each cell holds 0
abbrev pub at_start : ℕ → Registers
at_start flips = fresh_registers (replicate register_cells 0) flips

-- a cell reads as it was last written, unless it is bad
unfoldable pub answer_of_read : Registers → ℕ → Result ℕ RegBad
answer_of_read r cell =
    if is_bad_word (history_at cell r.histories) then Err (record { cell = cell; syn = syndrome (history_at cell r.histories) })
    else Ok (slice_index r.values cell)

-- what a report shows of it
unfoldable pub value_shown : Registers → ℕ → Option ℕ
value_shown r cell = if is_bad_word (history_at cell r.histories) then None else Some (slice_index r.values cell)

-- a cell is written
abbrev pub with_value : ℕ → ℕ → Registers → Registers
with_value cell value r = record r { values = slice_set r.values cell value; histories = befalls written cell r.histories }
