-- A limit of one step: nothing but a fill.
use Rattle.std.specs.Prelude.{◌≡◌, refl}
use Rattle.lf_model.specs.Promise.Played.{IsPlayedBy}
use Rattle.lf_model.specs.Report.{report}
use Rattle.lf_worked.specs.Machine.{machine}
use Rattle.lf_worked.specs.OneStep.{one_step_setup, one_step_events, one_step_trace, one_step_text}
use Rattle.lf_worked.proofs.PromiseTest.{played}
use Rattle.lf_worked.proofs.RecordTest.{kept_of, log_of, on_bus, named_by_all}
use Rattle.lf_worked.proofs.RecordsTest.{RecordAt, BusRecordOf, status_of, bus_fates, record_ok, bus_record_ok}
use Rattle.lf_worked.proofs.AllRecordsTest.{AreRecordsOf, RecordOf, records, of_one}

one_step_report : report one_step_trace ≡ one_step_text
unfolding machine one_step_trace one_step_text
one_step_report = refl

one_step_played : IsPlayedBy one_step_setup one_step_events one_step_trace
unfolding machine one_step_setup one_step_events one_step_trace
one_step_played = played one_step_setup one_step_events one_step_trace refl

one_step_record_0 : RecordAt one_step_setup one_step_trace 0
unfolding machine one_step_setup one_step_trace
one_step_record_0 = record_ok one_step_setup 0 (kept_of one_step_setup one_step_trace 0) (log_of one_step_setup one_step_trace) (on_bus one_step_setup one_step_trace) refl refl refl refl refl

one_step_bus_record : BusRecordOf one_step_setup one_step_trace
unfolding machine one_step_setup one_step_trace
one_step_bus_record = bus_record_ok one_step_setup (log_of one_step_setup one_step_trace) (on_bus one_step_setup one_step_trace) (status_of one_step_trace) (bus_fates one_step_setup one_step_trace) (named_by_all one_step_setup one_step_trace)
    refl refl refl refl refl refl

one_step_records : AreRecordsOf one_step_setup one_step_trace
unfolding machine one_step_setup one_step_trace
one_step_records = records one_step_setup one_step_trace refl
    (of_one (RecordOf one_step_setup one_step_trace) one_step_record_0) one_step_bus_record refl refl
