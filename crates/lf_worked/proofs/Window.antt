-- After two local steps a core needs a turn: a drain if a store waits, else a snoop.
use Rattle.std.specs.Prelude.{◌≡◌, refl}
use Rattle.lf_model.specs.Promise.Played.{IsPlayedBy}
use Rattle.lf_model.specs.Report.{report}
use Rattle.lf_worked.specs.Machine.{machine}
use Rattle.lf_worked.specs.Window.{window_setup, window_events, window_trace, window_text}
use Rattle.lf_worked.proofs.PromiseTest.{played}
use Rattle.lf_worked.proofs.RecordTest.{kept_of, log_of, on_bus, named_by_all}
use Rattle.lf_worked.proofs.RecordsTest.{RecordAt, BusRecordOf, status_of, bus_fates, record_ok, bus_record_ok}
use Rattle.lf_worked.proofs.AllRecordsTest.{AreRecordsOf, RecordOf, records, of_one}

window_report : report window_trace ≡ window_text
unfolding machine window_trace window_text
window_report = refl

window_played : IsPlayedBy window_setup window_events window_trace
unfolding machine window_setup window_events window_trace
window_played = played window_setup window_events window_trace refl

window_record_0 : RecordAt window_setup window_trace 0
unfolding machine window_setup window_trace
window_record_0 = record_ok window_setup 0 (kept_of window_setup window_trace 0) (log_of window_setup window_trace) (on_bus window_setup window_trace) refl refl refl refl refl

window_bus_record : BusRecordOf window_setup window_trace
unfolding machine window_setup window_trace
window_bus_record = bus_record_ok window_setup (log_of window_setup window_trace) (on_bus window_setup window_trace) (status_of window_trace) (bus_fates window_setup window_trace) (named_by_all window_setup window_trace)
    refl refl refl refl refl refl

window_records : AreRecordsOf window_setup window_trace
unfolding machine window_setup window_trace
window_records = records window_setup window_trace refl
    (of_one (RecordOf window_setup window_trace) window_record_0) window_bus_record refl refl
