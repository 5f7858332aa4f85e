-- UDIVcc of 1 00000000 hex by 1 gives FFFFFFFF with V.
use Rattle.std.specs.Prelude.{◌≡◌, refl}
use Rattle.lf_model.specs.Promise.Played.{IsPlayedBy}
use Rattle.lf_model.specs.Report.{report}
use Rattle.lf_worked.specs.Machine.{machine}
use Rattle.lf_worked.specs.UnsignedQuotient.{unsigned_quotient_setup, unsigned_quotient_events, unsigned_quotient_trace, unsigned_quotient_text}
use Rattle.lf_worked.proofs.PromiseTest.{played}
use Rattle.lf_worked.proofs.RecordTest.{kept_of, log_of, on_bus, named_by_all}
use Rattle.lf_worked.proofs.RecordsTest.{RecordAt, BusRecordOf, status_of, bus_fates, record_ok, bus_record_ok}
use Rattle.lf_worked.proofs.AllRecordsTest.{AreRecordsOf, RecordOf, records, of_one}

unsigned_quotient_report : report unsigned_quotient_trace ≡ unsigned_quotient_text
unfolding machine unsigned_quotient_trace unsigned_quotient_text
unsigned_quotient_report = refl

unsigned_quotient_played : IsPlayedBy unsigned_quotient_setup unsigned_quotient_events unsigned_quotient_trace
unfolding machine unsigned_quotient_setup unsigned_quotient_events unsigned_quotient_trace
unsigned_quotient_played = played unsigned_quotient_setup unsigned_quotient_events unsigned_quotient_trace refl

unsigned_quotient_record_0 : RecordAt unsigned_quotient_setup unsigned_quotient_trace 0
unfolding machine unsigned_quotient_setup unsigned_quotient_trace
unsigned_quotient_record_0 = record_ok unsigned_quotient_setup 0 (kept_of unsigned_quotient_setup unsigned_quotient_trace 0) (log_of unsigned_quotient_setup unsigned_quotient_trace) (on_bus unsigned_quotient_setup unsigned_quotient_trace) refl refl refl refl refl

unsigned_quotient_bus_record : BusRecordOf unsigned_quotient_setup unsigned_quotient_trace
unfolding machine unsigned_quotient_setup unsigned_quotient_trace
unsigned_quotient_bus_record = bus_record_ok unsigned_quotient_setup (log_of unsigned_quotient_setup unsigned_quotient_trace) (on_bus unsigned_quotient_setup unsigned_quotient_trace) (status_of unsigned_quotient_trace) (bus_fates unsigned_quotient_setup unsigned_quotient_trace) (named_by_all unsigned_quotient_setup unsigned_quotient_trace)
    refl refl refl refl refl refl

unsigned_quotient_records : AreRecordsOf unsigned_quotient_setup unsigned_quotient_trace
unfolding machine unsigned_quotient_setup unsigned_quotient_trace
unsigned_quotient_records = records unsigned_quotient_setup unsigned_quotient_trace refl
    (of_one (RecordOf unsigned_quotient_setup unsigned_quotient_trace) unsigned_quotient_record_0) unsigned_quotient_bus_record refl refl
