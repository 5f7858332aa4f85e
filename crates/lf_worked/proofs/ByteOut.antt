-- A byte is put out, and the core halts.
use Rattle.std.specs.Prelude.{◌≡◌, refl}
use Rattle.lf_model.specs.Promise.Played.{IsPlayedBy}
use Rattle.lf_model.specs.Report.{report}
use Rattle.lf_worked.specs.Machine.{machine}
use Rattle.lf_worked.specs.ByteOut.{byte_out_setup, byte_out_events, byte_out_trace, byte_out_text}
use Rattle.lf_worked.proofs.PromiseTest.{played}
use Rattle.lf_worked.proofs.RecordTest.{kept_of, log_of, on_bus, named_by_all}
use Rattle.lf_worked.proofs.RecordsTest.{RecordAt, BusRecordOf, status_of, bus_fates, record_ok, bus_record_ok}
use Rattle.lf_worked.proofs.AllRecordsTest.{AreRecordsOf, RecordOf, records, of_one}

byte_out_report : report byte_out_trace ≡ byte_out_text
unfolding machine byte_out_trace byte_out_text
byte_out_report = refl

byte_out_played : IsPlayedBy byte_out_setup byte_out_events byte_out_trace
unfolding machine byte_out_setup byte_out_events byte_out_trace
byte_out_played = played byte_out_setup byte_out_events byte_out_trace refl

byte_out_record_0 : RecordAt byte_out_setup byte_out_trace 0
unfolding machine byte_out_setup byte_out_trace
byte_out_record_0 = record_ok byte_out_setup 0 (kept_of byte_out_setup byte_out_trace 0) (log_of byte_out_setup byte_out_trace) (on_bus byte_out_setup byte_out_trace) refl refl refl refl refl

byte_out_bus_record : BusRecordOf byte_out_setup byte_out_trace
unfolding machine byte_out_setup byte_out_trace
byte_out_bus_record = bus_record_ok byte_out_setup (log_of byte_out_setup byte_out_trace) (on_bus byte_out_setup byte_out_trace) (status_of byte_out_trace) (bus_fates byte_out_setup byte_out_trace) (named_by_all byte_out_setup byte_out_trace)
    refl refl refl refl refl refl

byte_out_records : AreRecordsOf byte_out_setup byte_out_trace
unfolding machine byte_out_setup byte_out_trace
byte_out_records = records byte_out_setup byte_out_trace refl
    (of_one (RecordOf byte_out_setup byte_out_trace) byte_out_record_0) byte_out_bus_record refl refl
