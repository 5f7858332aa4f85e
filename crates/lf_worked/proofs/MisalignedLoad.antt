-- LDD from an address that is not a multiple of 8 halts by 07.
use Rattle.std.specs.Prelude.{◌≡◌, refl}
use Rattle.lf_model.specs.Promise.Played.{IsPlayedBy}
use Rattle.lf_model.specs.Report.{report}
use Rattle.lf_worked.specs.Machine.{machine}
use Rattle.lf_worked.specs.MisalignedLoad.{misaligned_load_setup, misaligned_load_events, misaligned_load_trace, misaligned_load_text}
use Rattle.lf_worked.proofs.PromiseTest.{played}
use Rattle.lf_worked.proofs.RecordTest.{kept_of, log_of, on_bus, named_by_all}
use Rattle.lf_worked.proofs.RecordsTest.{RecordAt, BusRecordOf, status_of, bus_fates, record_ok, bus_record_ok}
use Rattle.lf_worked.proofs.AllRecordsTest.{AreRecordsOf, RecordOf, records, of_one}

misaligned_load_report : report misaligned_load_trace ≡ misaligned_load_text
unfolding machine misaligned_load_trace misaligned_load_text
misaligned_load_report = refl

misaligned_load_played : IsPlayedBy misaligned_load_setup misaligned_load_events misaligned_load_trace
unfolding machine misaligned_load_setup misaligned_load_events misaligned_load_trace
misaligned_load_played = played misaligned_load_setup misaligned_load_events misaligned_load_trace refl

misaligned_load_record_0 : RecordAt misaligned_load_setup misaligned_load_trace 0
unfolding machine misaligned_load_setup misaligned_load_trace
misaligned_load_record_0 = record_ok misaligned_load_setup 0 (kept_of misaligned_load_setup misaligned_load_trace 0) (log_of misaligned_load_setup misaligned_load_trace) (on_bus misaligned_load_setup misaligned_load_trace) refl refl refl refl refl

misaligned_load_bus_record : BusRecordOf misaligned_load_setup misaligned_load_trace
unfolding machine misaligned_load_setup misaligned_load_trace
misaligned_load_bus_record = bus_record_ok misaligned_load_setup (log_of misaligned_load_setup misaligned_load_trace) (on_bus misaligned_load_setup misaligned_load_trace) (status_of misaligned_load_trace) (bus_fates misaligned_load_setup misaligned_load_trace) (named_by_all misaligned_load_setup misaligned_load_trace)
    refl refl refl refl refl refl

misaligned_load_records : AreRecordsOf misaligned_load_setup misaligned_load_trace
unfolding machine misaligned_load_setup misaligned_load_trace
misaligned_load_records = records misaligned_load_setup misaligned_load_trace refl
    (of_one (RecordOf misaligned_load_setup misaligned_load_trace) misaligned_load_record_0) misaligned_load_bus_record refl refl
