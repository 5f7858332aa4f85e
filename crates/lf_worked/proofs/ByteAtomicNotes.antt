-- LDSTUB of a byte in a word with one turned bit.
use Rattle.std.specs.Prelude.{◌≡◌, refl}
use Rattle.lf_model.specs.Promise.Played.{IsPlayedBy}
use Rattle.lf_model.specs.Report.{report}
use Rattle.lf_worked.specs.Machine.{machine}
use Rattle.lf_worked.specs.ByteAtomicNotes.{byte_atomic_notes_setup, byte_atomic_notes_events, byte_atomic_notes_trace, byte_atomic_notes_text}
use Rattle.lf_worked.proofs.PromiseTest.{played}
use Rattle.lf_worked.proofs.RecordTest.{kept_of, log_of, on_bus, named_by_all}
use Rattle.lf_worked.proofs.RecordsTest.{RecordAt, BusRecordOf, status_of, bus_fates, record_ok, bus_record_ok}
use Rattle.lf_worked.proofs.AllRecordsTest.{AreRecordsOf, RecordOf, records, of_one}

byte_atomic_notes_report : report byte_atomic_notes_trace ≡ byte_atomic_notes_text
unfolding machine byte_atomic_notes_trace byte_atomic_notes_text
byte_atomic_notes_report = refl

byte_atomic_notes_played : IsPlayedBy byte_atomic_notes_setup byte_atomic_notes_events byte_atomic_notes_trace
unfolding machine byte_atomic_notes_setup byte_atomic_notes_events byte_atomic_notes_trace
byte_atomic_notes_played = played byte_atomic_notes_setup byte_atomic_notes_events byte_atomic_notes_trace refl

byte_atomic_notes_record_0 : RecordAt byte_atomic_notes_setup byte_atomic_notes_trace 0
unfolding machine byte_atomic_notes_setup byte_atomic_notes_trace
byte_atomic_notes_record_0 = record_ok byte_atomic_notes_setup 0 (kept_of byte_atomic_notes_setup byte_atomic_notes_trace 0) (log_of byte_atomic_notes_setup byte_atomic_notes_trace) (on_bus byte_atomic_notes_setup byte_atomic_notes_trace) refl refl refl refl refl

byte_atomic_notes_bus_record : BusRecordOf byte_atomic_notes_setup byte_atomic_notes_trace
unfolding machine byte_atomic_notes_setup byte_atomic_notes_trace
byte_atomic_notes_bus_record = bus_record_ok byte_atomic_notes_setup (log_of byte_atomic_notes_setup byte_atomic_notes_trace) (on_bus byte_atomic_notes_setup byte_atomic_notes_trace) (status_of byte_atomic_notes_trace) (bus_fates byte_atomic_notes_setup byte_atomic_notes_trace) (named_by_all byte_atomic_notes_setup byte_atomic_notes_trace)
    refl refl refl refl refl refl

byte_atomic_notes_records : AreRecordsOf byte_atomic_notes_setup byte_atomic_notes_trace
unfolding machine byte_atomic_notes_setup byte_atomic_notes_trace
byte_atomic_notes_records = records byte_atomic_notes_setup byte_atomic_notes_trace refl
    (of_one (RecordOf byte_atomic_notes_setup byte_atomic_notes_trace) byte_atomic_notes_record_0) byte_atomic_notes_bus_record refl refl
