-- A byte store whose word has two turned bits is lost, and stops the core by 2B.
use Rattle.std.specs.Prelude.{◌≡◌, refl}
use Rattle.lf_model.specs.Promise.Played.{IsPlayedBy}
use Rattle.lf_model.specs.Report.{report}
use Rattle.lf_worked.specs.Machine.{machine}
use Rattle.lf_worked.specs.LostByteStore.{lost_byte_store_setup, lost_byte_store_events, lost_byte_store_trace, lost_byte_store_text}
use Rattle.lf_worked.proofs.PromiseTest.{played}
use Rattle.lf_worked.proofs.RecordTest.{kept_of, log_of, on_bus, named_by_all}
use Rattle.lf_worked.proofs.RecordsTest.{RecordAt, BusRecordOf, status_of, bus_fates, record_ok, bus_record_ok}
use Rattle.lf_worked.proofs.AllRecordsTest.{AreRecordsOf, RecordOf, records, of_one}

lost_byte_store_report : report lost_byte_store_trace ≡ lost_byte_store_text
unfolding machine lost_byte_store_trace lost_byte_store_text
lost_byte_store_report = refl

lost_byte_store_played : IsPlayedBy lost_byte_store_setup lost_byte_store_events lost_byte_store_trace
unfolding machine lost_byte_store_setup lost_byte_store_events lost_byte_store_trace
lost_byte_store_played = played lost_byte_store_setup lost_byte_store_events lost_byte_store_trace refl

lost_byte_store_record_0 : RecordAt lost_byte_store_setup lost_byte_store_trace 0
unfolding machine lost_byte_store_setup lost_byte_store_trace
lost_byte_store_record_0 = record_ok lost_byte_store_setup 0 (kept_of lost_byte_store_setup lost_byte_store_trace 0) (log_of lost_byte_store_setup lost_byte_store_trace) (on_bus lost_byte_store_setup lost_byte_store_trace) refl refl refl refl refl

lost_byte_store_bus_record : BusRecordOf lost_byte_store_setup lost_byte_store_trace
unfolding machine lost_byte_store_setup lost_byte_store_trace
lost_byte_store_bus_record = bus_record_ok lost_byte_store_setup (log_of lost_byte_store_setup lost_byte_store_trace) (on_bus lost_byte_store_setup lost_byte_store_trace) (status_of lost_byte_store_trace) (bus_fates lost_byte_store_setup lost_byte_store_trace) (named_by_all lost_byte_store_setup lost_byte_store_trace)
    refl refl refl refl refl refl

lost_byte_store_records : AreRecordsOf lost_byte_store_setup lost_byte_store_trace
unfolding machine lost_byte_store_setup lost_byte_store_trace
lost_byte_store_records = records lost_byte_store_setup lost_byte_store_trace refl
    (of_one (RecordOf lost_byte_store_setup lost_byte_store_trace) lost_byte_store_record_0) lost_byte_store_bus_record refl refl
