-- A trap with traps enabled drains nothing.
use Rattle.std.specs.Prelude.{◌≡◌, refl}
use Rattle.lf_model.specs.Promise.Played.{IsPlayedBy}
use Rattle.lf_model.specs.Report.{report}
use Rattle.lf_worked.specs.Machine.{machine}
use Rattle.lf_worked.specs.TrapKeepsStores.{trap_keeps_stores_setup, trap_keeps_stores_events, trap_keeps_stores_trace, trap_keeps_stores_text}
use Rattle.lf_worked.proofs.PromiseTest.{played}
use Rattle.lf_worked.proofs.RecordTest.{kept_of, log_of, on_bus, named_by_all}
use Rattle.lf_worked.proofs.RecordsTest.{RecordAt, BusRecordOf, status_of, bus_fates, record_ok, bus_record_ok}
use Rattle.lf_worked.proofs.AllRecordsTest.{AreRecordsOf, RecordOf, records, of_one}

trap_keeps_stores_report : report trap_keeps_stores_trace ≡ trap_keeps_stores_text
unfolding machine trap_keeps_stores_trace trap_keeps_stores_text
trap_keeps_stores_report = refl

trap_keeps_stores_played : IsPlayedBy trap_keeps_stores_setup trap_keeps_stores_events trap_keeps_stores_trace
unfolding machine trap_keeps_stores_setup trap_keeps_stores_events trap_keeps_stores_trace
trap_keeps_stores_played = played trap_keeps_stores_setup trap_keeps_stores_events trap_keeps_stores_trace refl

trap_keeps_stores_record_0 : RecordAt trap_keeps_stores_setup trap_keeps_stores_trace 0
unfolding machine trap_keeps_stores_setup trap_keeps_stores_trace
trap_keeps_stores_record_0 = record_ok trap_keeps_stores_setup 0 (kept_of trap_keeps_stores_setup trap_keeps_stores_trace 0) (log_of trap_keeps_stores_setup trap_keeps_stores_trace) (on_bus trap_keeps_stores_setup trap_keeps_stores_trace) refl refl refl refl refl

trap_keeps_stores_bus_record : BusRecordOf trap_keeps_stores_setup trap_keeps_stores_trace
unfolding machine trap_keeps_stores_setup trap_keeps_stores_trace
trap_keeps_stores_bus_record = bus_record_ok trap_keeps_stores_setup (log_of trap_keeps_stores_setup trap_keeps_stores_trace) (on_bus trap_keeps_stores_setup trap_keeps_stores_trace) (status_of trap_keeps_stores_trace) (bus_fates trap_keeps_stores_setup trap_keeps_stores_trace) (named_by_all trap_keeps_stores_setup trap_keeps_stores_trace)
    refl refl refl refl refl refl

trap_keeps_stores_records : AreRecordsOf trap_keeps_stores_setup trap_keeps_stores_trace
unfolding machine trap_keeps_stores_setup trap_keeps_stores_trace
trap_keeps_stores_records = records trap_keeps_stores_setup trap_keeps_stores_trace refl
    (of_one (RecordOf trap_keeps_stores_setup trap_keeps_stores_trace) trap_keeps_stores_record_0) trap_keeps_stores_bus_record refl refl
