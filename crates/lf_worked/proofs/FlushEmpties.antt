-- FLUSH drains, then empties both caches without a check.
use Rattle.std.specs.Prelude.{◌≡◌, refl}
use Rattle.lf_model.specs.Promise.Played.{IsPlayedBy}
use Rattle.lf_model.specs.Report.{report}
use Rattle.lf_worked.specs.Machine.{machine}
use Rattle.lf_worked.specs.FlushEmpties.{flush_empties_setup, flush_empties_events, flush_empties_trace, flush_empties_text}
use Rattle.lf_worked.proofs.PromiseTest.{played}
use Rattle.lf_worked.proofs.RecordTest.{kept_of, log_of, on_bus, named_by_all}
use Rattle.lf_worked.proofs.RecordsTest.{RecordAt, BusRecordOf, status_of, bus_fates, record_ok, bus_record_ok}
use Rattle.lf_worked.proofs.AllRecordsTest.{AreRecordsOf, RecordOf, records, of_one}

flush_empties_report : report flush_empties_trace ≡ flush_empties_text
unfolding machine flush_empties_trace flush_empties_text
flush_empties_report = refl

flush_empties_played : IsPlayedBy flush_empties_setup flush_empties_events flush_empties_trace
unfolding machine flush_empties_setup flush_empties_events flush_empties_trace
flush_empties_played = played flush_empties_setup flush_empties_events flush_empties_trace refl

flush_empties_record_0 : RecordAt flush_empties_setup flush_empties_trace 0
unfolding machine flush_empties_setup flush_empties_trace
flush_empties_record_0 = record_ok flush_empties_setup 0 (kept_of flush_empties_setup flush_empties_trace 0) (log_of flush_empties_setup flush_empties_trace) (on_bus flush_empties_setup flush_empties_trace) refl refl refl refl refl

flush_empties_bus_record : BusRecordOf flush_empties_setup flush_empties_trace
unfolding machine flush_empties_setup flush_empties_trace
flush_empties_bus_record = bus_record_ok flush_empties_setup (log_of flush_empties_setup flush_empties_trace) (on_bus flush_empties_setup flush_empties_trace) (status_of flush_empties_trace) (bus_fates flush_empties_setup flush_empties_trace) (named_by_all flush_empties_setup flush_empties_trace)
    refl refl refl refl refl refl

flush_empties_records : AreRecordsOf flush_empties_setup flush_empties_trace
unfolding machine flush_empties_setup flush_empties_trace
flush_empties_records = records flush_empties_setup flush_empties_trace refl
    (of_one (RecordOf flush_empties_setup flush_empties_trace) flush_empties_record_0) flush_empties_bus_record refl refl
