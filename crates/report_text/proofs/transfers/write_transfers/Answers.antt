use Rattle.report_text.proofs.Lines.{transfers_as}
use Rattle.report_text.proofs.Writing.{writes_then, written_as}
use Rattle.report_text.proofs.transfers.write_transfers.Goals as goal

pub returns : goal.returns
returns g c = record {
  written = written_as (transfers_as c.args.trace.now _ _ _ c.as_slice-transfers.ensures.items c.as_slice.ensures.items c.as_slice-2.ensures.items)
      (writes_then c.append_count.ensures.written c.write_transfer_list.ensures.written);
}
