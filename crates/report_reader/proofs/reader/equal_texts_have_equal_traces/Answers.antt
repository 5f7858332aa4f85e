use Rattle.report_reader.proofs.Told.{equal_texts}
use Rattle.report_reader.proofs.reader.equal_texts_have_equal_traces.Goals as goal

pub returns : goal.returns
returns c = record { law = equal_texts }
