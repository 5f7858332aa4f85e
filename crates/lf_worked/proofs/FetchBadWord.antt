-- The first instruction has two turned bits: the fetch stops the core by 01.
use Rattle.std.specs.Prelude.{◌≡◌, refl}
use Rattle.lf_model.specs.Promise.Played.{IsPlayedBy}
use Rattle.lf_model.specs.Report.{report}
use Rattle.lf_worked.specs.Machine.{machine}
use Rattle.lf_worked.specs.FetchBadWord.{fetch_bad_word_setup, fetch_bad_word_events, fetch_bad_word_trace, fetch_bad_word_text}
use Rattle.lf_worked.proofs.PromiseTest.{played}
use Rattle.lf_worked.proofs.RecordTest.{kept_of, log_of, on_bus, named_by_all}
use Rattle.lf_worked.proofs.RecordsTest.{RecordAt, BusRecordOf, status_of, bus_fates, record_ok, bus_record_ok}
use Rattle.lf_worked.proofs.AllRecordsTest.{AreRecordsOf, RecordOf, records, of_one}

fetch_bad_word_report : report fetch_bad_word_trace ≡ fetch_bad_word_text
unfolding machine fetch_bad_word_trace fetch_bad_word_text
fetch_bad_word_report = refl

fetch_bad_word_played : IsPlayedBy fetch_bad_word_setup fetch_bad_word_events fetch_bad_word_trace
unfolding machine fetch_bad_word_setup fetch_bad_word_events fetch_bad_word_trace
fetch_bad_word_played = played fetch_bad_word_setup fetch_bad_word_events fetch_bad_word_trace refl

fetch_bad_word_record_0 : RecordAt fetch_bad_word_setup fetch_bad_word_trace 0
unfolding machine fetch_bad_word_setup fetch_bad_word_trace
fetch_bad_word_record_0 = record_ok fetch_bad_word_setup 0 (kept_of fetch_bad_word_setup fetch_bad_word_trace 0) (log_of fetch_bad_word_setup fetch_bad_word_trace) (on_bus fetch_bad_word_setup fetch_bad_word_trace) refl refl refl refl refl

fetch_bad_word_bus_record : BusRecordOf fetch_bad_word_setup fetch_bad_word_trace
unfolding machine fetch_bad_word_setup fetch_bad_word_trace
fetch_bad_word_bus_record = bus_record_ok fetch_bad_word_setup (log_of fetch_bad_word_setup fetch_bad_word_trace) (on_bus fetch_bad_word_setup fetch_bad_word_trace) (status_of fetch_bad_word_trace) (bus_fates fetch_bad_word_setup fetch_bad_word_trace) (named_by_all fetch_bad_word_setup fetch_bad_word_trace)
    refl refl refl refl refl refl

fetch_bad_word_records : AreRecordsOf fetch_bad_word_setup fetch_bad_word_trace
unfolding machine fetch_bad_word_setup fetch_bad_word_trace
fetch_bad_word_records = records fetch_bad_word_setup fetch_bad_word_trace refl
    (of_one (RecordOf fetch_bad_word_setup fetch_bad_word_trace) fetch_bad_word_record_0) fetch_bad_word_bus_record refl refl
