-- Three cores swap with one word.
use Rattle.std.specs.Prelude.{◌≡◌, refl}
use Rattle.lf_model.specs.Promise.Played.{IsPlayedBy}
use Rattle.lf_model.specs.Report.{report}
use Rattle.lf_worked.specs.Machine.{machine}
use Rattle.lf_worked.specs.ThreeCoresSwap.{three_cores_swap_setup, three_cores_swap_events, three_cores_swap_trace, three_cores_swap_text}
use Rattle.lf_worked.proofs.PromiseTest.{played}
use Rattle.lf_worked.proofs.RecordTest.{kept_of, log_of, on_bus, named_by_all}
use Rattle.lf_worked.proofs.RecordsTest.{RecordAt, BusRecordOf, status_of, bus_fates, record_ok, bus_record_ok}
use Rattle.lf_worked.proofs.AllRecordsTest.{AreRecordsOf, RecordOf, records, of_three}

three_cores_swap_report : report three_cores_swap_trace ≡ three_cores_swap_text
unfolding machine three_cores_swap_trace three_cores_swap_text
three_cores_swap_report = refl

three_cores_swap_played : IsPlayedBy three_cores_swap_setup three_cores_swap_events three_cores_swap_trace
unfolding machine three_cores_swap_setup three_cores_swap_events three_cores_swap_trace
three_cores_swap_played = played three_cores_swap_setup three_cores_swap_events three_cores_swap_trace refl

three_cores_swap_record_0 : RecordAt three_cores_swap_setup three_cores_swap_trace 0
unfolding machine three_cores_swap_setup three_cores_swap_trace
three_cores_swap_record_0 = record_ok three_cores_swap_setup 0 (kept_of three_cores_swap_setup three_cores_swap_trace 0) (log_of three_cores_swap_setup three_cores_swap_trace) (on_bus three_cores_swap_setup three_cores_swap_trace) refl refl refl refl refl

three_cores_swap_record_1 : RecordAt three_cores_swap_setup three_cores_swap_trace 1
unfolding machine three_cores_swap_setup three_cores_swap_trace
three_cores_swap_record_1 = record_ok three_cores_swap_setup 1 (kept_of three_cores_swap_setup three_cores_swap_trace 1) (log_of three_cores_swap_setup three_cores_swap_trace) (on_bus three_cores_swap_setup three_cores_swap_trace) refl refl refl refl refl

three_cores_swap_record_2 : RecordAt three_cores_swap_setup three_cores_swap_trace 2
unfolding machine three_cores_swap_setup three_cores_swap_trace
three_cores_swap_record_2 = record_ok three_cores_swap_setup 2 (kept_of three_cores_swap_setup three_cores_swap_trace 2) (log_of three_cores_swap_setup three_cores_swap_trace) (on_bus three_cores_swap_setup three_cores_swap_trace) refl refl refl refl refl

three_cores_swap_bus_record : BusRecordOf three_cores_swap_setup three_cores_swap_trace
unfolding machine three_cores_swap_setup three_cores_swap_trace
three_cores_swap_bus_record = bus_record_ok three_cores_swap_setup (log_of three_cores_swap_setup three_cores_swap_trace) (on_bus three_cores_swap_setup three_cores_swap_trace) (status_of three_cores_swap_trace) (bus_fates three_cores_swap_setup three_cores_swap_trace) (named_by_all three_cores_swap_setup three_cores_swap_trace)
    refl refl refl refl refl refl

three_cores_swap_records : AreRecordsOf three_cores_swap_setup three_cores_swap_trace
unfolding machine three_cores_swap_setup three_cores_swap_trace
three_cores_swap_records = records three_cores_swap_setup three_cores_swap_trace refl
    (of_three (RecordOf three_cores_swap_setup three_cores_swap_trace) three_cores_swap_record_0 three_cores_swap_record_1 three_cores_swap_record_2) three_cores_swap_bus_record refl refl
