-- The seventh SAVE enters window 1, which is invalid at reset, and halts the core by 05.
use Rattle.std.specs.Prelude.{◌≡◌, refl}
use Rattle.lf_model.specs.Promise.Played.{IsPlayedBy}
use Rattle.lf_model.specs.Report.{report}
use Rattle.lf_worked.specs.Machine.{machine}
use Rattle.lf_worked.specs.WindowOverflow.{window_overflow_setup, window_overflow_events, window_overflow_trace, window_overflow_text}
use Rattle.lf_worked.proofs.PromiseTest.{played}
use Rattle.lf_worked.proofs.RecordTest.{kept_of, log_of, on_bus, named_by_all}
use Rattle.lf_worked.proofs.RecordsTest.{RecordAt, BusRecordOf, status_of, bus_fates, record_ok, bus_record_ok}
use Rattle.lf_worked.proofs.AllRecordsTest.{AreRecordsOf, RecordOf, records, of_one}

window_overflow_report : report window_overflow_trace ≡ window_overflow_text
unfolding machine window_overflow_trace window_overflow_text
window_overflow_report = refl

window_overflow_played : IsPlayedBy window_overflow_setup window_overflow_events window_overflow_trace
unfolding machine window_overflow_setup window_overflow_events window_overflow_trace
window_overflow_played = played window_overflow_setup window_overflow_events window_overflow_trace refl

window_overflow_record_0 : RecordAt window_overflow_setup window_overflow_trace 0
unfolding machine window_overflow_setup window_overflow_trace
window_overflow_record_0 = record_ok window_overflow_setup 0 (kept_of window_overflow_setup window_overflow_trace 0) (log_of window_overflow_setup window_overflow_trace) (on_bus window_overflow_setup window_overflow_trace) refl refl refl refl refl

window_overflow_bus_record : BusRecordOf window_overflow_setup window_overflow_trace
unfolding machine window_overflow_setup window_overflow_trace
window_overflow_bus_record = bus_record_ok window_overflow_setup (log_of window_overflow_setup window_overflow_trace) (on_bus window_overflow_setup window_overflow_trace) (status_of window_overflow_trace) (bus_fates window_overflow_setup window_overflow_trace) (named_by_all window_overflow_setup window_overflow_trace)
    refl refl refl refl refl refl

window_overflow_records : AreRecordsOf window_overflow_setup window_overflow_trace
unfolding machine window_overflow_setup window_overflow_trace
window_overflow_records = records window_overflow_setup window_overflow_trace refl
    (of_one (RecordOf window_overflow_setup window_overflow_trace) window_overflow_record_0) window_overflow_bus_record refl refl
