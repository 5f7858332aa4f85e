use Rattle.lf_model.specs.Report.{watch_part}
use Rattle.report_text.proofs.Writing.{writes_then}
use Rattle.report_text.proofs.outcome.write_watch.Goals as goal

pub returns : goal.returns
unfolding watch_part
returns g c = record { written = writes_then c.append_count.ensures.written c.write_watched.ensures.written }
