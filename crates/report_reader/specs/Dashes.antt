-- The dashes of stores that read no word: four for a store of 8 bytes, else two. While a report is read, the length of a transfer
-- is what its dashes say, 8 or 0; in a trace it is 0.
use Rattle.std.specs.Prelude.{ℕ, ◌+◌, ◌*◌, ◌==◌, ◌&&◌, ◌∷◌, [], List, length, filter, drop, map, slice_get, Option, Some, None, Result, Ok, Err, if◌then◌else◌}
use Rattle.std.specs.Option.{option_map_or}
use Rattle.lf_model.specs.Operation.{enters}
use Rattle.lf_model.specs.TransferLines.{has_entry, length_of}
use Rattle.lf_model.specs.declared.bus.Transfer.{Transfer}
use Rattle.lf_model.specs.declared.trace.CoreResult.{CoreResult}
use Rattle.lf_model.specs.declared.trace.Op.{Op}
use Rattle.lf_model.specs.declared.trace.Trace.{Trace}
use Rattle.report_lines.specs.TransferLine.{shows_dashes}
use Rattle.report_reader.specs.Whole.{loose_at}

-- what the dashes of a transfer say whose entry has this length
abbrev pub dashes : ℕ → Transfer → ℕ
dashes len t = if shows_dashes t.kind t.words && len == 8 then 8 else 0

-- the length of the transfer's entry, the first of those left, and the entries left after it
abbrev pub entry_length : List CoreResult → List Op → Transfer → ℕ
entry_length cores entries t = if has_entry cores t then option_map_or length_of (slice_get entries 0) 0 else 0

abbrev pub entries_after : List CoreResult → List Op → Transfer → List Op
entries_after cores entries t = if has_entry cores t then drop 1 entries else entries

-- the first transfer, of number i and up, whose dashes are not those of its entry
abbrev pub wrong_at : List CoreResult → List Op → ℕ → List Transfer → Option ℕ
wrong_at cores entries i [] = None
wrong_at cores entries i (t ∷ ts) = if t.len == dashes (entry_length cores entries t) t
    then wrong_at cores (entries_after cores entries t) (i + 1) ts else Some i

abbrev pub bare : Transfer → Transfer
bare t = record t { len = 0 }

abbrev pub bare_trace : Trace → Trace
bare_trace trace = record trace { transfers = map bare trace.transfers }

-- the line of transfer i: behind the first line, the number of cores and their eight lines each, the AHB status registers and
-- the number of transfers
abbrev pub transfer_line_number : Trace → ℕ → ℕ
transfer_line_number trace i = 5 + 8 * length trace.cores + i

abbrev pub judged : Trace → Option ℕ → Result Trace ℕ
judged trace None = Ok (bare_trace trace)
judged trace (Some i) = Err (transfer_line_number trace i)

abbrev pub checked : Result Trace ℕ → Result Trace ℕ
checked (Err line) = Err line
checked (Ok trace) = judged trace (wrong_at trace.cores (filter enters trace.order) 0 trace.transfers)

-- the trace of a report, or the first line that does not fit; where all lines fit, the first transfer with wrong dashes
unfoldable pub report_at : List ℕ → Result Trace ℕ
report_at bytes = checked (loose_at bytes)
