-- A store to a resident line makes its way the most recently used.
use Rattle.std.specs.Prelude.{◌≡◌, refl}
use Rattle.lf_model.specs.Promise.Played.{IsPlayedBy}
use Rattle.lf_model.specs.Report.{report}
use Rattle.lf_worked.specs.Machine.{machine}
use Rattle.lf_worked.specs.StoreIsAUse.{store_is_a_use_setup, store_is_a_use_events, store_is_a_use_trace, store_is_a_use_text}
use Rattle.lf_worked.proofs.PromiseTest.{played}
use Rattle.lf_worked.proofs.RecordTest.{kept_of, log_of, on_bus, named_by_all}
use Rattle.lf_worked.proofs.RecordsTest.{RecordAt, BusRecordOf, status_of, bus_fates, record_ok, bus_record_ok}
use Rattle.lf_worked.proofs.AllRecordsTest.{AreRecordsOf, RecordOf, records, of_one}

store_is_a_use_report : report store_is_a_use_trace ≡ store_is_a_use_text
unfolding machine store_is_a_use_trace store_is_a_use_text
store_is_a_use_report = refl

store_is_a_use_played : IsPlayedBy store_is_a_use_setup store_is_a_use_events store_is_a_use_trace
unfolding machine store_is_a_use_setup store_is_a_use_events store_is_a_use_trace
store_is_a_use_played = played store_is_a_use_setup store_is_a_use_events store_is_a_use_trace refl

store_is_a_use_record_0 : RecordAt store_is_a_use_setup store_is_a_use_trace 0
unfolding machine store_is_a_use_setup store_is_a_use_trace
store_is_a_use_record_0 = record_ok store_is_a_use_setup 0 (kept_of store_is_a_use_setup store_is_a_use_trace 0) (log_of store_is_a_use_setup store_is_a_use_trace) (on_bus store_is_a_use_setup store_is_a_use_trace) refl refl refl refl refl

store_is_a_use_bus_record : BusRecordOf store_is_a_use_setup store_is_a_use_trace
unfolding machine store_is_a_use_setup store_is_a_use_trace
store_is_a_use_bus_record = bus_record_ok store_is_a_use_setup (log_of store_is_a_use_setup store_is_a_use_trace) (on_bus store_is_a_use_setup store_is_a_use_trace) (status_of store_is_a_use_trace) (bus_fates store_is_a_use_setup store_is_a_use_trace) (named_by_all store_is_a_use_setup store_is_a_use_trace)
    refl refl refl refl refl refl

store_is_a_use_records : AreRecordsOf store_is_a_use_setup store_is_a_use_trace
unfolding machine store_is_a_use_setup store_is_a_use_trace
store_is_a_use_records = records store_is_a_use_setup store_is_a_use_trace refl
    (of_one (RecordOf store_is_a_use_setup store_is_a_use_trace) store_is_a_use_record_0) store_is_a_use_bus_record refl refl
