use Rattle.report_reader.proofs.Told.{no_beginning}
use Rattle.report_reader.proofs.reader.no_report_begins_another.Goals as goal

pub returns : goal.returns
returns c = record { law = no_beginning }
