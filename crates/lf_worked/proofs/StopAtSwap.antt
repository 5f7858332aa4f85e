-- SWAP of a word with two turned bits stops the core by 09.
use Rattle.std.specs.Prelude.{◌≡◌, refl}
use Rattle.lf_model.specs.Promise.Played.{IsPlayedBy}
use Rattle.lf_model.specs.Report.{report}
use Rattle.lf_worked.specs.Machine.{machine}
use Rattle.lf_worked.specs.StopAtSwap.{stop_at_swap_setup, stop_at_swap_events, stop_at_swap_trace, stop_at_swap_text}
use Rattle.lf_worked.proofs.PromiseTest.{played}
use Rattle.lf_worked.proofs.RecordTest.{kept_of, log_of, on_bus, named_by_all}
use Rattle.lf_worked.proofs.RecordsTest.{RecordAt, BusRecordOf, status_of, bus_fates, record_ok, bus_record_ok}
use Rattle.lf_worked.proofs.AllRecordsTest.{AreRecordsOf, RecordOf, records, of_one}

stop_at_swap_report : report stop_at_swap_trace ≡ stop_at_swap_text
unfolding machine stop_at_swap_trace stop_at_swap_text
stop_at_swap_report = refl

stop_at_swap_played : IsPlayedBy stop_at_swap_setup stop_at_swap_events stop_at_swap_trace
unfolding machine stop_at_swap_setup stop_at_swap_events stop_at_swap_trace
stop_at_swap_played = played stop_at_swap_setup stop_at_swap_events stop_at_swap_trace refl

stop_at_swap_record_0 : RecordAt stop_at_swap_setup stop_at_swap_trace 0
unfolding machine stop_at_swap_setup stop_at_swap_trace
stop_at_swap_record_0 = record_ok stop_at_swap_setup 0 (kept_of stop_at_swap_setup stop_at_swap_trace 0) (log_of stop_at_swap_setup stop_at_swap_trace) (on_bus stop_at_swap_setup stop_at_swap_trace) refl refl refl refl refl

stop_at_swap_bus_record : BusRecordOf stop_at_swap_setup stop_at_swap_trace
unfolding machine stop_at_swap_setup stop_at_swap_trace
stop_at_swap_bus_record = bus_record_ok stop_at_swap_setup (log_of stop_at_swap_setup stop_at_swap_trace) (on_bus stop_at_swap_setup stop_at_swap_trace) (status_of stop_at_swap_trace) (bus_fates stop_at_swap_setup stop_at_swap_trace) (named_by_all stop_at_swap_setup stop_at_swap_trace)
    refl refl refl refl refl refl

stop_at_swap_records : AreRecordsOf stop_at_swap_setup stop_at_swap_trace
unfolding machine stop_at_swap_setup stop_at_swap_trace
stop_at_swap_records = records stop_at_swap_setup stop_at_swap_trace refl
    (of_one (RecordOf stop_at_swap_setup stop_at_swap_trace) stop_at_swap_record_0) stop_at_swap_bus_record refl refl
