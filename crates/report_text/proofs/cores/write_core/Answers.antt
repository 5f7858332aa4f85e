use Rattle.lf_model.specs.Report.{core_lines}
use Rattle.report_text.proofs.Writing.{writes_then}
use Rattle.report_text.proofs.cores.write_core.Goals as goal

pub returns : goal.returns
unfolding core_lines
returns g c = record { written = writes_then c.write_end.ensures.written (writes_then c.write_output.ensures.written c.write_state.ensures.written) }
