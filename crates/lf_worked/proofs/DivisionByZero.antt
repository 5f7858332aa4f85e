-- UDIV by 0 halts by 2A.
use Rattle.std.specs.Prelude.{◌≡◌, refl}
use Rattle.lf_model.specs.Promise.Played.{IsPlayedBy}
use Rattle.lf_model.specs.Report.{report}
use Rattle.lf_worked.specs.Machine.{machine}
use Rattle.lf_worked.specs.DivisionByZero.{division_by_zero_setup, division_by_zero_events, division_by_zero_trace, division_by_zero_text}
use Rattle.lf_worked.proofs.PromiseTest.{played}
use Rattle.lf_worked.proofs.RecordTest.{kept_of, log_of, on_bus, named_by_all}
use Rattle.lf_worked.proofs.RecordsTest.{RecordAt, BusRecordOf, status_of, bus_fates, record_ok, bus_record_ok}
use Rattle.lf_worked.proofs.AllRecordsTest.{AreRecordsOf, RecordOf, records, of_one}

division_by_zero_report : report division_by_zero_trace ≡ division_by_zero_text
unfolding machine division_by_zero_trace division_by_zero_text
division_by_zero_report = refl

division_by_zero_played : IsPlayedBy division_by_zero_setup division_by_zero_events division_by_zero_trace
unfolding machine division_by_zero_setup division_by_zero_events division_by_zero_trace
division_by_zero_played = played division_by_zero_setup division_by_zero_events division_by_zero_trace refl

division_by_zero_record_0 : RecordAt division_by_zero_setup division_by_zero_trace 0
unfolding machine division_by_zero_setup division_by_zero_trace
division_by_zero_record_0 = record_ok division_by_zero_setup 0 (kept_of division_by_zero_setup division_by_zero_trace 0) (log_of division_by_zero_setup division_by_zero_trace) (on_bus division_by_zero_setup division_by_zero_trace) refl refl refl refl refl

division_by_zero_bus_record : BusRecordOf division_by_zero_setup division_by_zero_trace
unfolding machine division_by_zero_setup division_by_zero_trace
division_by_zero_bus_record = bus_record_ok division_by_zero_setup (log_of division_by_zero_setup division_by_zero_trace) (on_bus division_by_zero_setup division_by_zero_trace) (status_of division_by_zero_trace) (bus_fates division_by_zero_setup division_by_zero_trace) (named_by_all division_by_zero_setup division_by_zero_trace)
    refl refl refl refl refl refl

division_by_zero_records : AreRecordsOf division_by_zero_setup division_by_zero_trace
unfolding machine division_by_zero_setup division_by_zero_trace
division_by_zero_records = records division_by_zero_setup division_by_zero_trace refl
    (of_one (RecordOf division_by_zero_setup division_by_zero_trace) division_by_zero_record_0) division_by_zero_bus_record refl refl
