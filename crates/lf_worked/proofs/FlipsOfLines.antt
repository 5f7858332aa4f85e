-- What becomes of flips of line bytes.
use Rattle.std.specs.Prelude.{◌≡◌, refl}
use Rattle.lf_model.specs.Promise.Played.{IsPlayedBy}
use Rattle.lf_model.specs.Report.{report}
use Rattle.lf_worked.specs.Machine.{machine}
use Rattle.lf_worked.specs.FlipsOfLines.{flips_of_lines_setup, flips_of_lines_events, flips_of_lines_trace, flips_of_lines_text}
use Rattle.lf_worked.proofs.PromiseTest.{played}
use Rattle.lf_worked.proofs.RecordTest.{kept_of, log_of, on_bus, named_by_all}
use Rattle.lf_worked.proofs.RecordsTest.{RecordAt, BusRecordOf, status_of, bus_fates, record_ok, bus_record_ok}
use Rattle.lf_worked.proofs.AllRecordsTest.{AreRecordsOf, RecordOf, records, of_one}

flips_of_lines_report : report flips_of_lines_trace ≡ flips_of_lines_text
unfolding machine flips_of_lines_trace flips_of_lines_text
flips_of_lines_report = refl

flips_of_lines_played : IsPlayedBy flips_of_lines_setup flips_of_lines_events flips_of_lines_trace
unfolding machine flips_of_lines_setup flips_of_lines_events flips_of_lines_trace
flips_of_lines_played = played flips_of_lines_setup flips_of_lines_events flips_of_lines_trace refl

flips_of_lines_record_0 : RecordAt flips_of_lines_setup flips_of_lines_trace 0
unfolding machine flips_of_lines_setup flips_of_lines_trace
flips_of_lines_record_0 = record_ok flips_of_lines_setup 0 (kept_of flips_of_lines_setup flips_of_lines_trace 0) (log_of flips_of_lines_setup flips_of_lines_trace) (on_bus flips_of_lines_setup flips_of_lines_trace) refl refl refl refl refl

flips_of_lines_bus_record : BusRecordOf flips_of_lines_setup flips_of_lines_trace
unfolding machine flips_of_lines_setup flips_of_lines_trace
flips_of_lines_bus_record = bus_record_ok flips_of_lines_setup (log_of flips_of_lines_setup flips_of_lines_trace) (on_bus flips_of_lines_setup flips_of_lines_trace) (status_of flips_of_lines_trace) (bus_fates flips_of_lines_setup flips_of_lines_trace) (named_by_all flips_of_lines_setup flips_of_lines_trace)
    refl refl refl refl refl refl

flips_of_lines_records : AreRecordsOf flips_of_lines_setup flips_of_lines_trace
unfolding machine flips_of_lines_setup flips_of_lines_trace
flips_of_lines_records = records flips_of_lines_setup flips_of_lines_trace refl
    (of_one (RecordOf flips_of_lines_setup flips_of_lines_trace) flips_of_lines_record_0) flips_of_lines_bus_record refl refl
