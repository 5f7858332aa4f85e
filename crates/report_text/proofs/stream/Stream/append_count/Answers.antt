use Rattle.report_text.proofs.Writing.{line_put}
use Rattle.report_text.proofs.stream.Stream.append_count.Goals as goal

pub returns : goal.returns
returns g c = record { written = line_put _ _ _ _ _ _ _ c.make_room.ensures.written c.put_count.ensures.appended }
