-- A register with one turned bit is corrected and written back by the read.
use Rattle.std.specs.Prelude.{◌≡◌, refl}
use Rattle.lf_model.specs.Promise.Played.{IsPlayedBy}
use Rattle.lf_model.specs.Report.{report}
use Rattle.lf_worked.specs.Machine.{machine}
use Rattle.lf_worked.specs.RegisterWrittenBack.{register_written_back_setup, register_written_back_events, register_written_back_trace, register_written_back_text}
use Rattle.lf_worked.proofs.PromiseTest.{played}
use Rattle.lf_worked.proofs.RecordTest.{kept_of, log_of, on_bus, named_by_all}
use Rattle.lf_worked.proofs.RecordsTest.{RecordAt, BusRecordOf, status_of, bus_fates, record_ok, bus_record_ok}
use Rattle.lf_worked.proofs.AllRecordsTest.{AreRecordsOf, RecordOf, records, of_one}

register_written_back_report : report register_written_back_trace ≡ register_written_back_text
unfolding machine register_written_back_trace register_written_back_text
register_written_back_report = refl

register_written_back_played : IsPlayedBy register_written_back_setup register_written_back_events register_written_back_trace
unfolding machine register_written_back_setup register_written_back_events register_written_back_trace
register_written_back_played = played register_written_back_setup register_written_back_events register_written_back_trace refl

register_written_back_record_0 : RecordAt register_written_back_setup register_written_back_trace 0
unfolding machine register_written_back_setup register_written_back_trace
register_written_back_record_0 = record_ok register_written_back_setup 0 (kept_of register_written_back_setup register_written_back_trace 0) (log_of register_written_back_setup register_written_back_trace) (on_bus register_written_back_setup register_written_back_trace) refl refl refl refl refl

register_written_back_bus_record : BusRecordOf register_written_back_setup register_written_back_trace
unfolding machine register_written_back_setup register_written_back_trace
register_written_back_bus_record = bus_record_ok register_written_back_setup (log_of register_written_back_setup register_written_back_trace) (on_bus register_written_back_setup register_written_back_trace) (status_of register_written_back_trace) (bus_fates register_written_back_setup register_written_back_trace) (named_by_all register_written_back_setup register_written_back_trace)
    refl refl refl refl refl refl

register_written_back_records : AreRecordsOf register_written_back_setup register_written_back_trace
unfolding machine register_written_back_setup register_written_back_trace
register_written_back_records = records register_written_back_setup register_written_back_trace refl
    (of_one (RecordOf register_written_back_setup register_written_back_trace) register_written_back_record_0) register_written_back_bus_record refl refl
