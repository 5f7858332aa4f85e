-- A core does not snoop its own stores.
use Rattle.std.specs.Prelude.{◌≡◌, refl}
use Rattle.lf_model.specs.Promise.Played.{IsPlayedBy}
use Rattle.lf_model.specs.Report.{report}
use Rattle.lf_worked.specs.Machine.{machine}
use Rattle.lf_worked.specs.OwnStoreStays.{own_store_stays_setup, own_store_stays_events, own_store_stays_trace, own_store_stays_text}
use Rattle.lf_worked.proofs.PromiseTest.{played}
use Rattle.lf_worked.proofs.RecordTest.{kept_of, log_of, on_bus, named_by_all}
use Rattle.lf_worked.proofs.RecordsTest.{RecordAt, BusRecordOf, status_of, bus_fates, record_ok, bus_record_ok}
use Rattle.lf_worked.proofs.AllRecordsTest.{AreRecordsOf, RecordOf, records, of_one}

own_store_stays_report : report own_store_stays_trace ≡ own_store_stays_text
unfolding machine own_store_stays_trace own_store_stays_text
own_store_stays_report = refl

own_store_stays_played : IsPlayedBy own_store_stays_setup own_store_stays_events own_store_stays_trace
unfolding machine own_store_stays_setup own_store_stays_events own_store_stays_trace
own_store_stays_played = played own_store_stays_setup own_store_stays_events own_store_stays_trace refl

own_store_stays_record_0 : RecordAt own_store_stays_setup own_store_stays_trace 0
unfolding machine own_store_stays_setup own_store_stays_trace
own_store_stays_record_0 = record_ok own_store_stays_setup 0 (kept_of own_store_stays_setup own_store_stays_trace 0) (log_of own_store_stays_setup own_store_stays_trace) (on_bus own_store_stays_setup own_store_stays_trace) refl refl refl refl refl

own_store_stays_bus_record : BusRecordOf own_store_stays_setup own_store_stays_trace
unfolding machine own_store_stays_setup own_store_stays_trace
own_store_stays_bus_record = bus_record_ok own_store_stays_setup (log_of own_store_stays_setup own_store_stays_trace) (on_bus own_store_stays_setup own_store_stays_trace) (status_of own_store_stays_trace) (bus_fates own_store_stays_setup own_store_stays_trace) (named_by_all own_store_stays_setup own_store_stays_trace)
    refl refl refl refl refl refl

own_store_stays_records : AreRecordsOf own_store_stays_setup own_store_stays_trace
unfolding machine own_store_stays_setup own_store_stays_trace
own_store_stays_records = records own_store_stays_setup own_store_stays_trace refl
    (of_one (RecordOf own_store_stays_setup own_store_stays_trace) own_store_stays_record_0) own_store_stays_bus_record refl refl
