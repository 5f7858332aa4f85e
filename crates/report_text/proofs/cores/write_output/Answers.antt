use Rattle.report_text.proofs.Lines.{out_as}
use Rattle.report_text.proofs.Writing.{writes_then, written_as}
use Rattle.report_text.proofs.cores.write_output.Goals as goal

pub returns : goal.returns
returns g c = record {
  written = written_as (out_as c.args.k c.args.core.now _ c.as_slice.ensures.items)
      (writes_then c.write_output_head.ensures.written (writes_then c.write_bytes.ensures.written c.append.ensures.written));
}
