-- FLUSH drains each waiting store before it retires.
use Rattle.std.specs.Prelude.{◌≡◌, refl}
use Rattle.lf_model.specs.Promise.Played.{IsPlayedBy}
use Rattle.lf_model.specs.Report.{report}
use Rattle.lf_worked.specs.Machine.{machine}
use Rattle.lf_worked.specs.FlushDrains.{flush_drains_setup, flush_drains_events, flush_drains_trace, flush_drains_text}
use Rattle.lf_worked.proofs.PromiseTest.{played}
use Rattle.lf_worked.proofs.RecordTest.{kept_of, log_of, on_bus, named_by_all}
use Rattle.lf_worked.proofs.RecordsTest.{RecordAt, BusRecordOf, status_of, bus_fates, record_ok, bus_record_ok}
use Rattle.lf_worked.proofs.AllRecordsTest.{AreRecordsOf, RecordOf, records, of_one}

flush_drains_report : report flush_drains_trace ≡ flush_drains_text
unfolding machine flush_drains_trace flush_drains_text
flush_drains_report = refl

flush_drains_played : IsPlayedBy flush_drains_setup flush_drains_events flush_drains_trace
unfolding machine flush_drains_setup flush_drains_events flush_drains_trace
flush_drains_played = played flush_drains_setup flush_drains_events flush_drains_trace refl

flush_drains_record_0 : RecordAt flush_drains_setup flush_drains_trace 0
unfolding machine flush_drains_setup flush_drains_trace
flush_drains_record_0 = record_ok flush_drains_setup 0 (kept_of flush_drains_setup flush_drains_trace 0) (log_of flush_drains_setup flush_drains_trace) (on_bus flush_drains_setup flush_drains_trace) refl refl refl refl refl

flush_drains_bus_record : BusRecordOf flush_drains_setup flush_drains_trace
unfolding machine flush_drains_setup flush_drains_trace
flush_drains_bus_record = bus_record_ok flush_drains_setup (log_of flush_drains_setup flush_drains_trace) (on_bus flush_drains_setup flush_drains_trace) (status_of flush_drains_trace) (bus_fates flush_drains_setup flush_drains_trace) (named_by_all flush_drains_setup flush_drains_trace)
    refl refl refl refl refl refl

flush_drains_records : AreRecordsOf flush_drains_setup flush_drains_trace
unfolding machine flush_drains_setup flush_drains_trace
flush_drains_records = records flush_drains_setup flush_drains_trace refl
    (of_one (RecordOf flush_drains_setup flush_drains_trace) flush_drains_record_0) flush_drains_bus_record refl refl
