-- The last drains can stop a core: its store is lost, and so is the one after it.
use Rattle.std.specs.Prelude.{◌≡◌, refl}
use Rattle.lf_model.specs.Promise.Played.{IsPlayedBy}
use Rattle.lf_model.specs.Report.{report}
use Rattle.lf_worked.specs.Machine.{machine}
use Rattle.lf_worked.specs.LimitAndALostStore.{limit_and_a_lost_store_setup, limit_and_a_lost_store_events, limit_and_a_lost_store_trace, limit_and_a_lost_store_text}
use Rattle.lf_worked.proofs.PromiseTest.{played}
use Rattle.lf_worked.proofs.RecordTest.{kept_of, log_of, on_bus, named_by_all}
use Rattle.lf_worked.proofs.RecordsTest.{RecordAt, BusRecordOf, status_of, bus_fates, record_ok, bus_record_ok}
use Rattle.lf_worked.proofs.AllRecordsTest.{AreRecordsOf, RecordOf, records, of_one}

limit_and_a_lost_store_report : report limit_and_a_lost_store_trace ≡ limit_and_a_lost_store_text
unfolding machine limit_and_a_lost_store_trace limit_and_a_lost_store_text
limit_and_a_lost_store_report = refl

limit_and_a_lost_store_played : IsPlayedBy limit_and_a_lost_store_setup limit_and_a_lost_store_events limit_and_a_lost_store_trace
unfolding machine limit_and_a_lost_store_setup limit_and_a_lost_store_events limit_and_a_lost_store_trace
limit_and_a_lost_store_played = played limit_and_a_lost_store_setup limit_and_a_lost_store_events limit_and_a_lost_store_trace refl

limit_and_a_lost_store_record_0 : RecordAt limit_and_a_lost_store_setup limit_and_a_lost_store_trace 0
unfolding machine limit_and_a_lost_store_setup limit_and_a_lost_store_trace
limit_and_a_lost_store_record_0 = record_ok limit_and_a_lost_store_setup 0 (kept_of limit_and_a_lost_store_setup limit_and_a_lost_store_trace 0) (log_of limit_and_a_lost_store_setup limit_and_a_lost_store_trace) (on_bus limit_and_a_lost_store_setup limit_and_a_lost_store_trace) refl refl refl refl refl

limit_and_a_lost_store_bus_record : BusRecordOf limit_and_a_lost_store_setup limit_and_a_lost_store_trace
unfolding machine limit_and_a_lost_store_setup limit_and_a_lost_store_trace
limit_and_a_lost_store_bus_record = bus_record_ok limit_and_a_lost_store_setup (log_of limit_and_a_lost_store_setup limit_and_a_lost_store_trace) (on_bus limit_and_a_lost_store_setup limit_and_a_lost_store_trace) (status_of limit_and_a_lost_store_trace) (bus_fates limit_and_a_lost_store_setup limit_and_a_lost_store_trace) (named_by_all limit_and_a_lost_store_setup limit_and_a_lost_store_trace)
    refl refl refl refl refl refl

limit_and_a_lost_store_records : AreRecordsOf limit_and_a_lost_store_setup limit_and_a_lost_store_trace
unfolding machine limit_and_a_lost_store_setup limit_and_a_lost_store_trace
limit_and_a_lost_store_records = records limit_and_a_lost_store_setup limit_and_a_lost_store_trace refl
    (of_one (RecordOf limit_and_a_lost_store_setup limit_and_a_lost_store_trace) limit_and_a_lost_store_record_0) limit_and_a_lost_store_bus_record refl refl
