-- What the answer of a reader says, from the definition that it tells.
use Rattle.std.proofs.Common.{◌≡◌, ℕ, List, [], sym, ap, ◌∙◌}
use Rattle.std.specs.Prelude.{Result, Ok, Err, IfOk}
use Rattle.std.proofs.lemmas.List.{append-nil}
use Rattle.lf_model.specs.Promise.Regular.{IsRegular}
use Rattle.lf_model.specs.Report.{report}
use Rattle.lf_model.specs.declared.trace.Trace.{Trace}
use Rattle.report_reader.specs.declared.error.ReportErr.{ReportErr}
use Rattle.report_reader.specs.declared.error.ReportErr.TheVariants.{At, Memory}
use Rattle.report_reader.specs.Answer.{Tells}
use Rattle.report_reader.specs.Dashes.{report_at}
use Rattle.report_reader.specs.Laws.{EqualTextsEqualTraces, NoReportBeginsAnother}
use Rattle.report_reader.proofs.WholeLaws.{report_takes, report_again, one_report}

pub is_found : (bytes : List ℕ) (result : Result Trace ReportErr) → Tells result (report_at bytes) → IfOk result (λ t. IsRegular t × (bytes ≡ report t))
is_found bytes (Ok t) e = report_takes bytes t e
is_found bytes (Err d) e = tt

pub is_only : (bytes : List ℕ) (result : Result Trace ReportErr) → Tells result (report_at bytes) → (t : Trace) → IsRegular t → bytes ≡ report t → Tells result (Ok t)
is_only bytes (Ok u) e t regular is = sym (report_again t regular) ∙ ap report_at (sym is) ∙ e
is_only bytes (Err (At line)) e t regular is = sym (report_again t regular) ∙ ap report_at (sym is) ∙ e
is_only bytes (Err Memory) e t regular is = tt

pub equal_texts : EqualTextsEqualTraces
equal_texts t u first second same = (one_report t u [] first second (append-nil (report t) ∙ same)).0

pub no_beginning : NoReportBeginsAnother
no_beginning t u more first second same = (one_report t u more first second same).1
