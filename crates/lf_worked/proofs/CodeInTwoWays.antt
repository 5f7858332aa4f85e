-- Three lines of code in one set of two ways of the fetch cache.
use Rattle.std.specs.Prelude.{◌≡◌, refl}
use Rattle.lf_model.specs.Promise.Played.{IsPlayedBy}
use Rattle.lf_model.specs.Report.{report}
use Rattle.lf_worked.specs.Machine.{machine}
use Rattle.lf_worked.specs.CodeInTwoWays.{code_in_two_ways_setup, code_in_two_ways_events, code_in_two_ways_trace, code_in_two_ways_text}
use Rattle.lf_worked.proofs.PromiseTest.{played}
use Rattle.lf_worked.proofs.RecordTest.{kept_of, log_of, on_bus, named_by_all}
use Rattle.lf_worked.proofs.RecordsTest.{RecordAt, BusRecordOf, status_of, bus_fates, record_ok, bus_record_ok}
use Rattle.lf_worked.proofs.AllRecordsTest.{AreRecordsOf, RecordOf, records, of_one}

code_in_two_ways_report : report code_in_two_ways_trace ≡ code_in_two_ways_text
unfolding machine code_in_two_ways_trace code_in_two_ways_text
code_in_two_ways_report = refl

code_in_two_ways_played : IsPlayedBy code_in_two_ways_setup code_in_two_ways_events code_in_two_ways_trace
unfolding machine code_in_two_ways_setup code_in_two_ways_events code_in_two_ways_trace
code_in_two_ways_played = played code_in_two_ways_setup code_in_two_ways_events code_in_two_ways_trace refl

code_in_two_ways_record_0 : RecordAt code_in_two_ways_setup code_in_two_ways_trace 0
unfolding machine code_in_two_ways_setup code_in_two_ways_trace
code_in_two_ways_record_0 = record_ok code_in_two_ways_setup 0 (kept_of code_in_two_ways_setup code_in_two_ways_trace 0) (log_of code_in_two_ways_setup code_in_two_ways_trace) (on_bus code_in_two_ways_setup code_in_two_ways_trace) refl refl refl refl refl

code_in_two_ways_bus_record : BusRecordOf code_in_two_ways_setup code_in_two_ways_trace
unfolding machine code_in_two_ways_setup code_in_two_ways_trace
code_in_two_ways_bus_record = bus_record_ok code_in_two_ways_setup (log_of code_in_two_ways_setup code_in_two_ways_trace) (on_bus code_in_two_ways_setup code_in_two_ways_trace) (status_of code_in_two_ways_trace) (bus_fates code_in_two_ways_setup code_in_two_ways_trace) (named_by_all code_in_two_ways_setup code_in_two_ways_trace)
    refl refl refl refl refl refl

code_in_two_ways_records : AreRecordsOf code_in_two_ways_setup code_in_two_ways_trace
unfolding machine code_in_two_ways_setup code_in_two_ways_trace
code_in_two_ways_records = records code_in_two_ways_setup code_in_two_ways_trace refl
    (of_one (RecordOf code_in_two_ways_setup code_in_two_ways_trace) code_in_two_ways_record_0) code_in_two_ways_bus_record refl refl
