-- STBAR drains each waiting store before it retires.
use Rattle.std.specs.Prelude.{◌≡◌, refl}
use Rattle.lf_model.specs.Promise.Played.{IsPlayedBy}
use Rattle.lf_model.specs.Report.{report}
use Rattle.lf_worked.specs.Machine.{machine}
use Rattle.lf_worked.specs.StbarDrains.{stbar_drains_setup, stbar_drains_events, stbar_drains_trace, stbar_drains_text}
use Rattle.lf_worked.proofs.PromiseTest.{played}
use Rattle.lf_worked.proofs.RecordTest.{kept_of, log_of, on_bus, named_by_all}
use Rattle.lf_worked.proofs.RecordsTest.{RecordAt, BusRecordOf, status_of, bus_fates, record_ok, bus_record_ok}
use Rattle.lf_worked.proofs.AllRecordsTest.{AreRecordsOf, RecordOf, records, of_one}

stbar_drains_report : report stbar_drains_trace ≡ stbar_drains_text
unfolding machine stbar_drains_trace stbar_drains_text
stbar_drains_report = refl

stbar_drains_played : IsPlayedBy stbar_drains_setup stbar_drains_events stbar_drains_trace
unfolding machine stbar_drains_setup stbar_drains_events stbar_drains_trace
stbar_drains_played = played stbar_drains_setup stbar_drains_events stbar_drains_trace refl

stbar_drains_record_0 : RecordAt stbar_drains_setup stbar_drains_trace 0
unfolding machine stbar_drains_setup stbar_drains_trace
stbar_drains_record_0 = record_ok stbar_drains_setup 0 (kept_of stbar_drains_setup stbar_drains_trace 0) (log_of stbar_drains_setup stbar_drains_trace) (on_bus stbar_drains_setup stbar_drains_trace) refl refl refl refl refl

stbar_drains_bus_record : BusRecordOf stbar_drains_setup stbar_drains_trace
unfolding machine stbar_drains_setup stbar_drains_trace
stbar_drains_bus_record = bus_record_ok stbar_drains_setup (log_of stbar_drains_setup stbar_drains_trace) (on_bus stbar_drains_setup stbar_drains_trace) (status_of stbar_drains_trace) (bus_fates stbar_drains_setup stbar_drains_trace) (named_by_all stbar_drains_setup stbar_drains_trace)
    refl refl refl refl refl refl

stbar_drains_records : AreRecordsOf stbar_drains_setup stbar_drains_trace
unfolding machine stbar_drains_setup stbar_drains_trace
stbar_drains_records = records stbar_drains_setup stbar_drains_trace refl
    (of_one (RecordOf stbar_drains_setup stbar_drains_trace) stbar_drains_record_0) stbar_drains_bus_record refl refl
