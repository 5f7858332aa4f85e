use Rattle.lf_model.specs.Report.{cores_part}
use Rattle.report_text.proofs.Writing.{writes_then}
use Rattle.report_text.proofs.cores.write_cores.Goals as goal

pub returns : goal.returns
unfolding cores_part
returns g c = record { written = writes_then c.append.ensures.written (writes_then c.append_count.ensures.written c.write_core_list.ensures.written) }
