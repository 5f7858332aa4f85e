-- Two cores each store to one word and then load the other's: both read 0.
use Rattle.std.specs.Prelude.{◌≡◌, refl}
use Rattle.lf_model.specs.Promise.Played.{IsPlayedBy}
use Rattle.lf_model.specs.Report.{report}
use Rattle.lf_worked.specs.Machine.{machine}
use Rattle.lf_worked.specs.StoreBuffering.{store_buffering_setup, store_buffering_events, store_buffering_trace, store_buffering_text}
use Rattle.lf_worked.proofs.PromiseTest.{played}
use Rattle.lf_worked.proofs.RecordTest.{kept_of, log_of, on_bus, named_by_all}
use Rattle.lf_worked.proofs.RecordsTest.{RecordAt, BusRecordOf, status_of, bus_fates, record_ok, bus_record_ok}
use Rattle.lf_worked.proofs.AllRecordsTest.{AreRecordsOf, RecordOf, records, of_two}

store_buffering_report : report store_buffering_trace ≡ store_buffering_text
unfolding machine store_buffering_trace store_buffering_text
store_buffering_report = refl

store_buffering_played : IsPlayedBy store_buffering_setup store_buffering_events store_buffering_trace
unfolding machine store_buffering_setup store_buffering_events store_buffering_trace
store_buffering_played = played store_buffering_setup store_buffering_events store_buffering_trace refl

store_buffering_record_0 : RecordAt store_buffering_setup store_buffering_trace 0
unfolding machine store_buffering_setup store_buffering_trace
store_buffering_record_0 = record_ok store_buffering_setup 0 (kept_of store_buffering_setup store_buffering_trace 0) (log_of store_buffering_setup store_buffering_trace) (on_bus store_buffering_setup store_buffering_trace) refl refl refl refl refl

store_buffering_record_1 : RecordAt store_buffering_setup store_buffering_trace 1
unfolding machine store_buffering_setup store_buffering_trace
store_buffering_record_1 = record_ok store_buffering_setup 1 (kept_of store_buffering_setup store_buffering_trace 1) (log_of store_buffering_setup store_buffering_trace) (on_bus store_buffering_setup store_buffering_trace) refl refl refl refl refl

store_buffering_bus_record : BusRecordOf store_buffering_setup store_buffering_trace
unfolding machine store_buffering_setup store_buffering_trace
store_buffering_bus_record = bus_record_ok store_buffering_setup (log_of store_buffering_setup store_buffering_trace) (on_bus store_buffering_setup store_buffering_trace) (status_of store_buffering_trace) (bus_fates store_buffering_setup store_buffering_trace) (named_by_all store_buffering_setup store_buffering_trace)
    refl refl refl refl refl refl

store_buffering_records : AreRecordsOf store_buffering_setup store_buffering_trace
unfolding machine store_buffering_setup store_buffering_trace
store_buffering_records = records store_buffering_setup store_buffering_trace refl
    (of_two (RecordOf store_buffering_setup store_buffering_trace) store_buffering_record_0 store_buffering_record_1) store_buffering_bus_record refl refl
