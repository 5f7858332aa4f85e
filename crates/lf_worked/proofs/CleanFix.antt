-- A fix that meets its word clean writes nothing, and the walk goes on.
use Rattle.std.specs.Prelude.{◌≡◌, refl}
use Rattle.lf_model.specs.Promise.Played.{IsPlayedBy}
use Rattle.lf_model.specs.Report.{report}
use Rattle.lf_worked.specs.Machine.{machine}
use Rattle.lf_worked.specs.CleanFix.{clean_fix_setup, clean_fix_events, clean_fix_trace, clean_fix_text}
use Rattle.lf_worked.proofs.PromiseTest.{played}
use Rattle.lf_worked.proofs.RecordTest.{kept_of, log_of, on_bus, named_by_all}
use Rattle.lf_worked.proofs.RecordsTest.{RecordAt, BusRecordOf, status_of, bus_fates, record_ok, bus_record_ok}
use Rattle.lf_worked.proofs.AllRecordsTest.{AreRecordsOf, RecordOf, records, of_one}

clean_fix_report : report clean_fix_trace ≡ clean_fix_text
unfolding machine clean_fix_trace clean_fix_text
clean_fix_report = refl

clean_fix_played : IsPlayedBy clean_fix_setup clean_fix_events clean_fix_trace
unfolding machine clean_fix_setup clean_fix_events clean_fix_trace
clean_fix_played = played clean_fix_setup clean_fix_events clean_fix_trace refl

clean_fix_record_0 : RecordAt clean_fix_setup clean_fix_trace 0
unfolding machine clean_fix_setup clean_fix_trace
clean_fix_record_0 = record_ok clean_fix_setup 0 (kept_of clean_fix_setup clean_fix_trace 0) (log_of clean_fix_setup clean_fix_trace) (on_bus clean_fix_setup clean_fix_trace) refl refl refl refl refl

clean_fix_bus_record : BusRecordOf clean_fix_setup clean_fix_trace
unfolding machine clean_fix_setup clean_fix_trace
clean_fix_bus_record = bus_record_ok clean_fix_setup (log_of clean_fix_setup clean_fix_trace) (on_bus clean_fix_setup clean_fix_trace) (status_of clean_fix_trace) (bus_fates clean_fix_setup clean_fix_trace) (named_by_all clean_fix_setup clean_fix_trace)
    refl refl refl refl refl refl

clean_fix_records : AreRecordsOf clean_fix_setup clean_fix_trace
unfolding machine clean_fix_setup clean_fix_trace
clean_fix_records = records clean_fix_setup clean_fix_trace refl
    (of_one (RecordOf clean_fix_setup clean_fix_trace) clean_fix_record_0) clean_fix_bus_record refl refl
