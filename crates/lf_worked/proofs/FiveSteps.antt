-- A limit of just the steps that the program needs: it halts.
use Rattle.std.specs.Prelude.{◌≡◌, refl}
use Rattle.lf_model.specs.Promise.Played.{IsPlayedBy}
use Rattle.lf_model.specs.Report.{report}
use Rattle.lf_worked.specs.Machine.{machine}
use Rattle.lf_worked.specs.FiveSteps.{five_steps_setup, five_steps_events, five_steps_trace, five_steps_text}
use Rattle.lf_worked.proofs.PromiseTest.{played}
use Rattle.lf_worked.proofs.RecordTest.{kept_of, log_of, on_bus, named_by_all}
use Rattle.lf_worked.proofs.RecordsTest.{RecordAt, BusRecordOf, status_of, bus_fates, record_ok, bus_record_ok}
use Rattle.lf_worked.proofs.AllRecordsTest.{AreRecordsOf, RecordOf, records, of_one}

five_steps_report : report five_steps_trace ≡ five_steps_text
unfolding machine five_steps_trace five_steps_text
five_steps_report = refl

five_steps_played : IsPlayedBy five_steps_setup five_steps_events five_steps_trace
unfolding machine five_steps_setup five_steps_events five_steps_trace
five_steps_played = played five_steps_setup five_steps_events five_steps_trace refl

five_steps_record_0 : RecordAt five_steps_setup five_steps_trace 0
unfolding machine five_steps_setup five_steps_trace
five_steps_record_0 = record_ok five_steps_setup 0 (kept_of five_steps_setup five_steps_trace 0) (log_of five_steps_setup five_steps_trace) (on_bus five_steps_setup five_steps_trace) refl refl refl refl refl

five_steps_bus_record : BusRecordOf five_steps_setup five_steps_trace
unfolding machine five_steps_setup five_steps_trace
five_steps_bus_record = bus_record_ok five_steps_setup (log_of five_steps_setup five_steps_trace) (on_bus five_steps_setup five_steps_trace) (status_of five_steps_trace) (bus_fates five_steps_setup five_steps_trace) (named_by_all five_steps_setup five_steps_trace)
    refl refl refl refl refl refl

five_steps_records : AreRecordsOf five_steps_setup five_steps_trace
unfolding machine five_steps_setup five_steps_trace
five_steps_records = records five_steps_setup five_steps_trace refl
    (of_one (RecordOf five_steps_setup five_steps_trace) five_steps_record_0) five_steps_bus_record refl refl
