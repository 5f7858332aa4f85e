use Rattle.std.proofs.lemmas.Result.{on_err_weaker}
use Rattle.report_text.proofs.Writing.{text_cut}
use Rattle.report_text.proofs.write_report.Goals as goal

pub returns-clause-part : goal.returns-clause-part
returns-clause-part g c = on_err_weaker c.result.result
    (λ failed. text_cut _ _ _ _ c.new-text.ensures.empty c.new-text.ensures.whole c.write_lines.ensures.written c.flush.ensures.written failed) c.result.ensures.err
