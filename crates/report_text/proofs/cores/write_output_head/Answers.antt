use Rattle.report_text.proofs.Writing.{line_put}
use Rattle.report_text.proofs.cores.write_output_head.Goals as goal

pub returns : goal.returns
returns g c = record { written = line_put _ _ _ _ _ _ _ c.make_room.ensures.written c.put_output_head.ensures.appended }
