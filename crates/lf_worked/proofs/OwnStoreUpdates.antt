-- A byte store updates the resident line while it waits.
use Rattle.std.specs.Prelude.{◌≡◌, refl}
use Rattle.lf_model.specs.Promise.Played.{IsPlayedBy}
use Rattle.lf_model.specs.Report.{report}
use Rattle.lf_worked.specs.Machine.{machine}
use Rattle.lf_worked.specs.OwnStoreUpdates.{own_store_updates_setup, own_store_updates_events, own_store_updates_trace, own_store_updates_text}
use Rattle.lf_worked.proofs.PromiseTest.{played}
use Rattle.lf_worked.proofs.RecordTest.{kept_of, log_of, on_bus, named_by_all}
use Rattle.lf_worked.proofs.RecordsTest.{RecordAt, BusRecordOf, status_of, bus_fates, record_ok, bus_record_ok}
use Rattle.lf_worked.proofs.AllRecordsTest.{AreRecordsOf, RecordOf, records, of_one}

own_store_updates_report : report own_store_updates_trace ≡ own_store_updates_text
unfolding machine own_store_updates_trace own_store_updates_text
own_store_updates_report = refl

own_store_updates_played : IsPlayedBy own_store_updates_setup own_store_updates_events own_store_updates_trace
unfolding machine own_store_updates_setup own_store_updates_events own_store_updates_trace
own_store_updates_played = played own_store_updates_setup own_store_updates_events own_store_updates_trace refl

own_store_updates_record_0 : RecordAt own_store_updates_setup own_store_updates_trace 0
unfolding machine own_store_updates_setup own_store_updates_trace
own_store_updates_record_0 = record_ok own_store_updates_setup 0 (kept_of own_store_updates_setup own_store_updates_trace 0) (log_of own_store_updates_setup own_store_updates_trace) (on_bus own_store_updates_setup own_store_updates_trace) refl refl refl refl refl

own_store_updates_bus_record : BusRecordOf own_store_updates_setup own_store_updates_trace
unfolding machine own_store_updates_setup own_store_updates_trace
own_store_updates_bus_record = bus_record_ok own_store_updates_setup (log_of own_store_updates_setup own_store_updates_trace) (on_bus own_store_updates_setup own_store_updates_trace) (status_of own_store_updates_trace) (bus_fates own_store_updates_setup own_store_updates_trace) (named_by_all own_store_updates_setup own_store_updates_trace)
    refl refl refl refl refl refl

own_store_updates_records : AreRecordsOf own_store_updates_setup own_store_updates_trace
unfolding machine own_store_updates_setup own_store_updates_trace
own_store_updates_records = records own_store_updates_setup own_store_updates_trace refl
    (of_one (RecordOf own_store_updates_setup own_store_updates_trace) own_store_updates_record_0) own_store_updates_bus_record refl refl
