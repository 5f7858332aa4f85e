-- How a whole report is read, line by line. Its bounds: 1 to 8 cores, 5,000,064 transfers, 4,000,000 operations, 65,536 flips and
-- 64 watched words.
use Rattle.std.specs.Prelude.{ℕ, ◌+◌, ◌-◌, ◌==◌, ◌∷◌, [], List, length, take, Result, Ok, Err, codes}
use Rattle.std.specs.List.{count_by}
use Rattle.lf_model.specs.declared.bus.Transfer.{Transfer}
use Rattle.lf_model.specs.declared.trace.CoreResult.{CoreResult}
use Rattle.lf_model.specs.declared.trace.Fate.{Fate}
use Rattle.lf_model.specs.declared.trace.Op.{Op}
use Rattle.lf_model.specs.declared.trace.Word2.{Word2}
use Rattle.lf_model.specs.declared.trace.Trace.{Trace}
use Rattle.report_fields.specs.Reading.{without}
use Rattle.report_fields.specs.Parts.{Part, line_at, then_part, as_part, past_part, before_part, counted_at}
use Rattle.report_lines.specs.CoreLines.{core_at}
use Rattle.report_lines.specs.TransferLine.{transfer_at}
use Rattle.report_lines.specs.OutcomeLines.{status_at, operation_at, fate_at, watched_at}

-- what became of the flips, the watched words, and the last line
unfoldable pub ending_part_at : List ℕ → Part (List Fate × List Word2)
ending_part_at bytes = then_part (counted_at (codes "flips ") 0 65536 (λ n i. line_at (fate_at i)))
    (λ fates. before_part (counted_at (codes "watch ") 0 64 (λ n i. line_at watched_at)) (without (codes "end\n"))) bytes

-- the transfers, the operations, and what follows
unfoldable pub body_at : List ℕ → Part (List Transfer × (List Op × (List Fate × List Word2)))
body_at bytes = then_part (counted_at (codes "transfers ") 0 5000064 (λ n i. line_at (transfer_at i)))
    (λ transfers. then_part (counted_at (codes "order ") 0 4000000 (λ n i. line_at operation_at)) (λ order. ending_part_at)) bytes

abbrev pub trace_of : List CoreResult → ℕ × ℕ → List Transfer × (List Op × (List Fate × List Word2)) → Trace
trace_of cores status body = record {
  cores = cores;
  ahb_addr = status.0;
  ahb_status = status.1;
  transfers = body.0;
  order = body.1.0;
  fates = body.1.1.0;
  watch = body.1.1.1;
}

-- the first line, the cores, the AHB status registers, and what follows
unfoldable pub lines_at : List ℕ → Part Trace
lines_at bytes = past_part (without (codes "leon3ft report 1\n")) (as_part (λ z. trace_of z.0 z.1.0 z.1.1)
    (then_part (counted_at (codes "cores ") 1 8 core_at) (λ cores. then_part (line_at status_at) (λ status. body_at)))) bytes

-- nothing may follow
abbrev pub whole : Part Trace → Result Trace ℕ
whole (Ok (trace, [])) = Ok trace
whole (Ok (trace, b ∷ rest)) = Err (length (b ∷ rest))
whole (Err left) = Err left

-- the number, from 1, of the line at which so many bytes are left
unfoldable pub line_of : List ℕ → ℕ → ℕ
line_of bytes left = 1 + count_by (λ b. b == 10) (take (length bytes - left) bytes)

abbrev pub numbered : List ℕ → Result Trace ℕ → Result Trace ℕ
numbered bytes (Ok trace) = Ok trace
numbered bytes (Err left) = Err (line_of bytes left)

-- the trace of a report whose lines all fit, or the first line that does not
unfoldable pub loose_at : List ℕ → Result Trace ℕ
loose_at bytes = numbered bytes (whole (lines_at bytes))
