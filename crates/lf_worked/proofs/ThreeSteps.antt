-- A limit of three steps: one fill and two instructions.
use Rattle.std.specs.Prelude.{◌≡◌, refl}
use Rattle.lf_model.specs.Promise.Played.{IsPlayedBy}
use Rattle.lf_model.specs.Report.{report}
use Rattle.lf_worked.specs.Machine.{machine}
use Rattle.lf_worked.specs.ThreeSteps.{three_steps_setup, three_steps_events, three_steps_trace, three_steps_text}
use Rattle.lf_worked.proofs.PromiseTest.{played}
use Rattle.lf_worked.proofs.RecordTest.{kept_of, log_of, on_bus, named_by_all}
use Rattle.lf_worked.proofs.RecordsTest.{RecordAt, BusRecordOf, status_of, bus_fates, record_ok, bus_record_ok}
use Rattle.lf_worked.proofs.AllRecordsTest.{AreRecordsOf, RecordOf, records, of_one}

three_steps_report : report three_steps_trace ≡ three_steps_text
unfolding machine three_steps_trace three_steps_text
three_steps_report = refl

three_steps_played : IsPlayedBy three_steps_setup three_steps_events three_steps_trace
unfolding machine three_steps_setup three_steps_events three_steps_trace
three_steps_played = played three_steps_setup three_steps_events three_steps_trace refl

three_steps_record_0 : RecordAt three_steps_setup three_steps_trace 0
unfolding machine three_steps_setup three_steps_trace
three_steps_record_0 = record_ok three_steps_setup 0 (kept_of three_steps_setup three_steps_trace 0) (log_of three_steps_setup three_steps_trace) (on_bus three_steps_setup three_steps_trace) refl refl refl refl refl

three_steps_bus_record : BusRecordOf three_steps_setup three_steps_trace
unfolding machine three_steps_setup three_steps_trace
three_steps_bus_record = bus_record_ok three_steps_setup (log_of three_steps_setup three_steps_trace) (on_bus three_steps_setup three_steps_trace) (status_of three_steps_trace) (bus_fates three_steps_setup three_steps_trace) (named_by_all three_steps_setup three_steps_trace)
    refl refl refl refl refl refl

three_steps_records : AreRecordsOf three_steps_setup three_steps_trace
unfolding machine three_steps_setup three_steps_trace
three_steps_records = records three_steps_setup three_steps_trace refl
    (of_one (RecordOf three_steps_setup three_steps_trace) three_steps_record_0) three_steps_bus_record refl refl
