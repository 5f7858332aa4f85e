-- Laws of reports.
use Rattle.std.specs.Prelude.{◌≡◌, ℕ, List, [], ◌++◌}
use Rattle.lf_model.specs.Promise.Regular.{IsRegular}
use Rattle.lf_model.specs.Report.{report}
use Rattle.lf_model.specs.declared.trace.Trace.{Trace}

-- regular traces with equal reports are equal
abbrev pub EqualTextsEqualTraces : Type 0
EqualTextsEqualTraces = (t u : Trace) → IsRegular t → IsRegular u → report t ≡ report u → t ≡ u

-- a report with bytes behind it is no report
abbrev pub NoReportBeginsAnother : Type 0
NoReportBeginsAnother = (t u : Trace) (more : List ℕ) → IsRegular t → IsRegular u → report t ++ more ≡ report u → more ≡ []
