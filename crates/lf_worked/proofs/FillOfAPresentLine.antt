-- A fill of a line that is present, with a word that is not valid, takes its own way.
use Rattle.std.specs.Prelude.{◌≡◌, refl}
use Rattle.lf_model.specs.Promise.Played.{IsPlayedBy}
use Rattle.lf_model.specs.Report.{report}
use Rattle.lf_worked.specs.Machine.{machine}
use Rattle.lf_worked.specs.FillOfAPresentLine.{fill_of_a_present_line_setup, fill_of_a_present_line_events, fill_of_a_present_line_trace, fill_of_a_present_line_text}
use Rattle.lf_worked.proofs.PromiseTest.{played}
use Rattle.lf_worked.proofs.RecordTest.{kept_of, log_of, on_bus, named_by_all}
use Rattle.lf_worked.proofs.RecordsTest.{RecordAt, BusRecordOf, status_of, bus_fates, record_ok, bus_record_ok}
use Rattle.lf_worked.proofs.AllRecordsTest.{AreRecordsOf, RecordOf, records, of_one}

fill_of_a_present_line_report : report fill_of_a_present_line_trace ≡ fill_of_a_present_line_text
unfolding machine fill_of_a_present_line_trace fill_of_a_present_line_text
fill_of_a_present_line_report = refl

fill_of_a_present_line_played : IsPlayedBy fill_of_a_present_line_setup fill_of_a_present_line_events fill_of_a_present_line_trace
unfolding machine fill_of_a_present_line_setup fill_of_a_present_line_events fill_of_a_present_line_trace
fill_of_a_present_line_played = played fill_of_a_present_line_setup fill_of_a_present_line_events fill_of_a_present_line_trace refl

fill_of_a_present_line_record_0 : RecordAt fill_of_a_present_line_setup fill_of_a_present_line_trace 0
unfolding machine fill_of_a_present_line_setup fill_of_a_present_line_trace
fill_of_a_present_line_record_0 = record_ok fill_of_a_present_line_setup 0 (kept_of fill_of_a_present_line_setup fill_of_a_present_line_trace 0) (log_of fill_of_a_present_line_setup fill_of_a_present_line_trace) (on_bus fill_of_a_present_line_setup fill_of_a_present_line_trace) refl refl refl refl refl

fill_of_a_present_line_bus_record : BusRecordOf fill_of_a_present_line_setup fill_of_a_present_line_trace
unfolding machine fill_of_a_present_line_setup fill_of_a_present_line_trace
fill_of_a_present_line_bus_record = bus_record_ok fill_of_a_present_line_setup (log_of fill_of_a_present_line_setup fill_of_a_present_line_trace) (on_bus fill_of_a_present_line_setup fill_of_a_present_line_trace) (status_of fill_of_a_present_line_trace) (bus_fates fill_of_a_present_line_setup fill_of_a_present_line_trace) (named_by_all fill_of_a_present_line_setup fill_of_a_present_line_trace)
    refl refl refl refl refl refl

fill_of_a_present_line_records : AreRecordsOf fill_of_a_present_line_setup fill_of_a_present_line_trace
unfolding machine fill_of_a_present_line_setup fill_of_a_present_line_trace
fill_of_a_present_line_records = records fill_of_a_present_line_setup fill_of_a_present_line_trace refl
    (of_one (RecordOf fill_of_a_present_line_setup fill_of_a_present_line_trace) fill_of_a_present_line_record_0) fill_of_a_present_line_bus_record refl refl
