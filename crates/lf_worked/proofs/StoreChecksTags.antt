-- A store checks the tags of its set before it updates the line.
use Rattle.std.specs.Prelude.{◌≡◌, refl}
use Rattle.lf_model.specs.Promise.Played.{IsPlayedBy}
use Rattle.lf_model.specs.Report.{report}
use Rattle.lf_worked.specs.Machine.{machine}
use Rattle.lf_worked.specs.StoreChecksTags.{store_checks_tags_setup, store_checks_tags_events, store_checks_tags_trace, store_checks_tags_text}
use Rattle.lf_worked.proofs.PromiseTest.{played}
use Rattle.lf_worked.proofs.RecordTest.{kept_of, log_of, on_bus, named_by_all}
use Rattle.lf_worked.proofs.RecordsTest.{RecordAt, BusRecordOf, status_of, bus_fates, record_ok, bus_record_ok}
use Rattle.lf_worked.proofs.AllRecordsTest.{AreRecordsOf, RecordOf, records, of_one}

store_checks_tags_report : report store_checks_tags_trace ≡ store_checks_tags_text
unfolding machine store_checks_tags_trace store_checks_tags_text
store_checks_tags_report = refl

store_checks_tags_played : IsPlayedBy store_checks_tags_setup store_checks_tags_events store_checks_tags_trace
unfolding machine store_checks_tags_setup store_checks_tags_events store_checks_tags_trace
store_checks_tags_played = played store_checks_tags_setup store_checks_tags_events store_checks_tags_trace refl

store_checks_tags_record_0 : RecordAt store_checks_tags_setup store_checks_tags_trace 0
unfolding machine store_checks_tags_setup store_checks_tags_trace
store_checks_tags_record_0 = record_ok store_checks_tags_setup 0 (kept_of store_checks_tags_setup store_checks_tags_trace 0) (log_of store_checks_tags_setup store_checks_tags_trace) (on_bus store_checks_tags_setup store_checks_tags_trace) refl refl refl refl refl

store_checks_tags_bus_record : BusRecordOf store_checks_tags_setup store_checks_tags_trace
unfolding machine store_checks_tags_setup store_checks_tags_trace
store_checks_tags_bus_record = bus_record_ok store_checks_tags_setup (log_of store_checks_tags_setup store_checks_tags_trace) (on_bus store_checks_tags_setup store_checks_tags_trace) (status_of store_checks_tags_trace) (bus_fates store_checks_tags_setup store_checks_tags_trace) (named_by_all store_checks_tags_setup store_checks_tags_trace)
    refl refl refl refl refl refl

store_checks_tags_records : AreRecordsOf store_checks_tags_setup store_checks_tags_trace
unfolding machine store_checks_tags_setup store_checks_tags_trace
store_checks_tags_records = records store_checks_tags_setup store_checks_tags_trace refl
    (of_one (RecordOf store_checks_tags_setup store_checks_tags_trace) store_checks_tags_record_0) store_checks_tags_bus_record refl refl
