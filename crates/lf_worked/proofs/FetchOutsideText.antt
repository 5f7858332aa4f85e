-- A jump to data halts by 01, and drains first.
use Rattle.std.specs.Prelude.{◌≡◌, refl}
use Rattle.lf_model.specs.Promise.Played.{IsPlayedBy}
use Rattle.lf_model.specs.Report.{report}
use Rattle.lf_worked.specs.Machine.{machine}
use Rattle.lf_worked.specs.FetchOutsideText.{fetch_outside_text_setup, fetch_outside_text_events, fetch_outside_text_trace, fetch_outside_text_text}
use Rattle.lf_worked.proofs.PromiseTest.{played}
use Rattle.lf_worked.proofs.RecordTest.{kept_of, log_of, on_bus, named_by_all}
use Rattle.lf_worked.proofs.RecordsTest.{RecordAt, BusRecordOf, status_of, bus_fates, record_ok, bus_record_ok}
use Rattle.lf_worked.proofs.AllRecordsTest.{AreRecordsOf, RecordOf, records, of_one}

fetch_outside_text_report : report fetch_outside_text_trace ≡ fetch_outside_text_text
unfolding machine fetch_outside_text_trace fetch_outside_text_text
fetch_outside_text_report = refl

fetch_outside_text_played : IsPlayedBy fetch_outside_text_setup fetch_outside_text_events fetch_outside_text_trace
unfolding machine fetch_outside_text_setup fetch_outside_text_events fetch_outside_text_trace
fetch_outside_text_played = played fetch_outside_text_setup fetch_outside_text_events fetch_outside_text_trace refl

fetch_outside_text_record_0 : RecordAt fetch_outside_text_setup fetch_outside_text_trace 0
unfolding machine fetch_outside_text_setup fetch_outside_text_trace
fetch_outside_text_record_0 = record_ok fetch_outside_text_setup 0 (kept_of fetch_outside_text_setup fetch_outside_text_trace 0) (log_of fetch_outside_text_setup fetch_outside_text_trace) (on_bus fetch_outside_text_setup fetch_outside_text_trace) refl refl refl refl refl

fetch_outside_text_bus_record : BusRecordOf fetch_outside_text_setup fetch_outside_text_trace
unfolding machine fetch_outside_text_setup fetch_outside_text_trace
fetch_outside_text_bus_record = bus_record_ok fetch_outside_text_setup (log_of fetch_outside_text_setup fetch_outside_text_trace) (on_bus fetch_outside_text_setup fetch_outside_text_trace) (status_of fetch_outside_text_trace) (bus_fates fetch_outside_text_setup fetch_outside_text_trace) (named_by_all fetch_outside_text_setup fetch_outside_text_trace)
    refl refl refl refl refl refl

fetch_outside_text_records : AreRecordsOf fetch_outside_text_setup fetch_outside_text_trace
unfolding machine fetch_outside_text_setup fetch_outside_text_trace
fetch_outside_text_records = records fetch_outside_text_setup fetch_outside_text_trace refl
    (of_one (RecordOf fetch_outside_text_setup fetch_outside_text_trace) fetch_outside_text_record_0) fetch_outside_text_bus_record refl refl
