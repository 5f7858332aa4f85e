-- What reading a report answers.
use Rattle.std.specs.Prelude.{◌≡◌, ℕ, Result, Ok, Err}
use Rattle.lf_model.specs.declared.trace.Trace.{Trace}
use Rattle.report_reader.specs.declared.error.ReportErr.{ReportErr}
use Rattle.report_reader.specs.declared.error.ReportErr.TheVariants.{At, Memory}

-- the answer is this one, or want of memory
abbrev pub Tells : Result Trace ReportErr → Result Trace ℕ → Type 0
Tells (Ok trace) read = read ≡ Ok trace
Tells (Err (At line)) read = read ≡ Err line
Tells (Err Memory) read = Unit {0}
