use Rattle.report_reader.proofs.Told.{is_found, is_only}
use Rattle.report_reader.proofs.reader.read_report.Goals as goal

pub returns : goal.returns
returns c = record {
  found = is_found c.args.bytes.now c.strict.result c.strict.ensures.read;
  only = is_only c.args.bytes.now c.strict.result c.strict.ensures.read;
  exact = c.strict.ensures.read;
}
