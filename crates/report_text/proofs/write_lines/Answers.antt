use Rattle.report_text.proofs.Lines.{report_as}
use Rattle.report_text.proofs.Writing.{writes_then, written_as}
use Rattle.report_text.proofs.write_lines.Goals as goal

pub returns : goal.returns
returns g c = record {
  written = written_as
      (report_as c.args.trace.now _ _ _ _ c.as_slice.ensures.items c.as_slice-2.ensures.items c.as_slice-3.ensures.items c.as_slice-4.ensures.items)
      (writes_then c.write_cores.ensures.written (writes_then c.write_ahb.ensures.written (writes_then c.write_transfers.ensures.written
      (writes_then c.write_order.ensures.written (writes_then c.write_flips.ensures.written (writes_then c.write_watch.ensures.written
      c.append.ensures.written))))));
}
