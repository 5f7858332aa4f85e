-- SDIVcc of FFFFFFFF 80000000 hex, which is -2^31, by -1 gives 7FFFFFFF with V.
use Rattle.std.specs.Prelude.{◌≡◌, refl}
use Rattle.lf_model.specs.Promise.Played.{IsPlayedBy}
use Rattle.lf_model.specs.Report.{report}
use Rattle.lf_worked.specs.Machine.{machine}
use Rattle.lf_worked.specs.SignedQuotient.{signed_quotient_setup, signed_quotient_events, signed_quotient_trace, signed_quotient_text}
use Rattle.lf_worked.proofs.PromiseTest.{played}
use Rattle.lf_worked.proofs.RecordTest.{kept_of, log_of, on_bus, named_by_all}
use Rattle.lf_worked.proofs.RecordsTest.{RecordAt, BusRecordOf, status_of, bus_fates, record_ok, bus_record_ok}
use Rattle.lf_worked.proofs.AllRecordsTest.{AreRecordsOf, RecordOf, records, of_one}

signed_quotient_report : report signed_quotient_trace ≡ signed_quotient_text
unfolding machine signed_quotient_trace signed_quotient_text
signed_quotient_report = refl

signed_quotient_played : IsPlayedBy signed_quotient_setup signed_quotient_events signed_quotient_trace
unfolding machine signed_quotient_setup signed_quotient_events signed_quotient_trace
signed_quotient_played = played signed_quotient_setup signed_quotient_events signed_quotient_trace refl

signed_quotient_record_0 : RecordAt signed_quotient_setup signed_quotient_trace 0
unfolding machine signed_quotient_setup signed_quotient_trace
signed_quotient_record_0 = record_ok signed_quotient_setup 0 (kept_of signed_quotient_setup signed_quotient_trace 0) (log_of signed_quotient_setup signed_quotient_trace) (on_bus signed_quotient_setup signed_quotient_trace) refl refl refl refl refl

signed_quotient_bus_record : BusRecordOf signed_quotient_setup signed_quotient_trace
unfolding machine signed_quotient_setup signed_quotient_trace
signed_quotient_bus_record = bus_record_ok signed_quotient_setup (log_of signed_quotient_setup signed_quotient_trace) (on_bus signed_quotient_setup signed_quotient_trace) (status_of signed_quotient_trace) (bus_fates signed_quotient_setup signed_quotient_trace) (named_by_all signed_quotient_setup signed_quotient_trace)
    refl refl refl refl refl refl

signed_quotient_records : AreRecordsOf signed_quotient_setup signed_quotient_trace
unfolding machine signed_quotient_setup signed_quotient_trace
signed_quotient_records = records signed_quotient_setup signed_quotient_trace refl
    (of_one (RecordOf signed_quotient_setup signed_quotient_trace) signed_quotient_record_0) signed_quotient_bus_record refl refl
