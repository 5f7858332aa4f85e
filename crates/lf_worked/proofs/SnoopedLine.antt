-- A line that another core stored to is dropped at the next turn, here a snoop.
use Rattle.std.specs.Prelude.{◌≡◌, refl}
use Rattle.lf_model.specs.Promise.Played.{IsPlayedBy}
use Rattle.lf_model.specs.Report.{report}
use Rattle.lf_worked.specs.Machine.{machine}
use Rattle.lf_worked.specs.SnoopedLine.{snooped_line_setup, snooped_line_events, snooped_line_trace, snooped_line_text}
use Rattle.lf_worked.proofs.PromiseTest.{played}
use Rattle.lf_worked.proofs.RecordTest.{kept_of, log_of, on_bus, named_by_all}
use Rattle.lf_worked.proofs.RecordsTest.{RecordAt, BusRecordOf, status_of, bus_fates, record_ok, bus_record_ok}
use Rattle.lf_worked.proofs.AllRecordsTest.{AreRecordsOf, RecordOf, records, of_two}

snooped_line_report : report snooped_line_trace ≡ snooped_line_text
unfolding machine snooped_line_trace snooped_line_text
snooped_line_report = refl

snooped_line_played : IsPlayedBy snooped_line_setup snooped_line_events snooped_line_trace
unfolding machine snooped_line_setup snooped_line_events snooped_line_trace
snooped_line_played = played snooped_line_setup snooped_line_events snooped_line_trace refl

snooped_line_record_0 : RecordAt snooped_line_setup snooped_line_trace 0
unfolding machine snooped_line_setup snooped_line_trace
snooped_line_record_0 = record_ok snooped_line_setup 0 (kept_of snooped_line_setup snooped_line_trace 0) (log_of snooped_line_setup snooped_line_trace) (on_bus snooped_line_setup snooped_line_trace) refl refl refl refl refl

snooped_line_record_1 : RecordAt snooped_line_setup snooped_line_trace 1
unfolding machine snooped_line_setup snooped_line_trace
snooped_line_record_1 = record_ok snooped_line_setup 1 (kept_of snooped_line_setup snooped_line_trace 1) (log_of snooped_line_setup snooped_line_trace) (on_bus snooped_line_setup snooped_line_trace) refl refl refl refl refl

snooped_line_bus_record : BusRecordOf snooped_line_setup snooped_line_trace
unfolding machine snooped_line_setup snooped_line_trace
snooped_line_bus_record = bus_record_ok snooped_line_setup (log_of snooped_line_setup snooped_line_trace) (on_bus snooped_line_setup snooped_line_trace) (status_of snooped_line_trace) (bus_fates snooped_line_setup snooped_line_trace) (named_by_all snooped_line_setup snooped_line_trace)
    refl refl refl refl refl refl

snooped_line_records : AreRecordsOf snooped_line_setup snooped_line_trace
unfolding machine snooped_line_setup snooped_line_trace
snooped_line_records = records snooped_line_setup snooped_line_trace refl
    (of_two (RecordOf snooped_line_setup snooped_line_trace) snooped_line_record_0 snooped_line_record_1) snooped_line_bus_record refl refl
