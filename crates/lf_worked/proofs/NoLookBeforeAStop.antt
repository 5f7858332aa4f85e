-- A load whose address register is bad makes no look at the data cache.
use Rattle.std.specs.Prelude.{◌≡◌, refl}
use Rattle.lf_model.specs.Promise.Played.{IsPlayedBy}
use Rattle.lf_model.specs.Report.{report}
use Rattle.lf_worked.specs.Machine.{machine}
use Rattle.lf_worked.specs.NoLookBeforeAStop.{no_look_before_a_stop_setup, no_look_before_a_stop_events, no_look_before_a_stop_trace, no_look_before_a_stop_text}
use Rattle.lf_worked.proofs.PromiseTest.{played}
use Rattle.lf_worked.proofs.RecordTest.{kept_of, log_of, on_bus, named_by_all}
use Rattle.lf_worked.proofs.RecordsTest.{RecordAt, BusRecordOf, status_of, bus_fates, record_ok, bus_record_ok}
use Rattle.lf_worked.proofs.AllRecordsTest.{AreRecordsOf, RecordOf, records, of_one}

no_look_before_a_stop_report : report no_look_before_a_stop_trace ≡ no_look_before_a_stop_text
unfolding machine no_look_before_a_stop_trace no_look_before_a_stop_text
no_look_before_a_stop_report = refl

no_look_before_a_stop_played : IsPlayedBy no_look_before_a_stop_setup no_look_before_a_stop_events no_look_before_a_stop_trace
unfolding machine no_look_before_a_stop_setup no_look_before_a_stop_events no_look_before_a_stop_trace
no_look_before_a_stop_played = played no_look_before_a_stop_setup no_look_before_a_stop_events no_look_before_a_stop_trace refl

no_look_before_a_stop_record_0 : RecordAt no_look_before_a_stop_setup no_look_before_a_stop_trace 0
unfolding machine no_look_before_a_stop_setup no_look_before_a_stop_trace
no_look_before_a_stop_record_0 = record_ok no_look_before_a_stop_setup 0 (kept_of no_look_before_a_stop_setup no_look_before_a_stop_trace 0) (log_of no_look_before_a_stop_setup no_look_before_a_stop_trace) (on_bus no_look_before_a_stop_setup no_look_before_a_stop_trace) refl refl refl refl refl

no_look_before_a_stop_bus_record : BusRecordOf no_look_before_a_stop_setup no_look_before_a_stop_trace
unfolding machine no_look_before_a_stop_setup no_look_before_a_stop_trace
no_look_before_a_stop_bus_record = bus_record_ok no_look_before_a_stop_setup (log_of no_look_before_a_stop_setup no_look_before_a_stop_trace) (on_bus no_look_before_a_stop_setup no_look_before_a_stop_trace) (status_of no_look_before_a_stop_trace) (bus_fates no_look_before_a_stop_setup no_look_before_a_stop_trace) (named_by_all no_look_before_a_stop_setup no_look_before_a_stop_trace)
    refl refl refl refl refl refl

no_look_before_a_stop_records : AreRecordsOf no_look_before_a_stop_setup no_look_before_a_stop_trace
unfolding machine no_look_before_a_stop_setup no_look_before_a_stop_trace
no_look_before_a_stop_records = records no_look_before_a_stop_setup no_look_before_a_stop_trace refl
    (of_one (RecordOf no_look_before_a_stop_setup no_look_before_a_stop_trace) no_look_before_a_stop_record_0) no_look_before_a_stop_bus_record refl refl
