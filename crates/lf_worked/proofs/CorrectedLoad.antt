-- A load of a word with one turned bit reads it corrected; memory keeps the flip.
use Rattle.std.specs.Prelude.{◌≡◌, refl}
use Rattle.lf_model.specs.Promise.Played.{IsPlayedBy}
use Rattle.lf_model.specs.Report.{report}
use Rattle.lf_worked.specs.Machine.{machine}
use Rattle.lf_worked.specs.CorrectedLoad.{corrected_load_setup, corrected_load_events, corrected_load_trace, corrected_load_text}
use Rattle.lf_worked.proofs.PromiseTest.{played}
use Rattle.lf_worked.proofs.RecordTest.{kept_of, log_of, on_bus, named_by_all}
use Rattle.lf_worked.proofs.RecordsTest.{RecordAt, BusRecordOf, status_of, bus_fates, record_ok, bus_record_ok}
use Rattle.lf_worked.proofs.AllRecordsTest.{AreRecordsOf, RecordOf, records, of_one}

corrected_load_report : report corrected_load_trace ≡ corrected_load_text
unfolding machine corrected_load_trace corrected_load_text
corrected_load_report = refl

corrected_load_played : IsPlayedBy corrected_load_setup corrected_load_events corrected_load_trace
unfolding machine corrected_load_setup corrected_load_events corrected_load_trace
corrected_load_played = played corrected_load_setup corrected_load_events corrected_load_trace refl

corrected_load_record_0 : RecordAt corrected_load_setup corrected_load_trace 0
unfolding machine corrected_load_setup corrected_load_trace
corrected_load_record_0 = record_ok corrected_load_setup 0 (kept_of corrected_load_setup corrected_load_trace 0) (log_of corrected_load_setup corrected_load_trace) (on_bus corrected_load_setup corrected_load_trace) refl refl refl refl refl

corrected_load_bus_record : BusRecordOf corrected_load_setup corrected_load_trace
unfolding machine corrected_load_setup corrected_load_trace
corrected_load_bus_record = bus_record_ok corrected_load_setup (log_of corrected_load_setup corrected_load_trace) (on_bus corrected_load_setup corrected_load_trace) (status_of corrected_load_trace) (bus_fates corrected_load_setup corrected_load_trace) (named_by_all corrected_load_setup corrected_load_trace)
    refl refl refl refl refl refl

corrected_load_records : AreRecordsOf corrected_load_setup corrected_load_trace
unfolding machine corrected_load_setup corrected_load_trace
corrected_load_records = records corrected_load_setup corrected_load_trace refl
    (of_one (RecordOf corrected_load_setup corrected_load_trace) corrected_load_record_0) corrected_load_bus_record refl refl
