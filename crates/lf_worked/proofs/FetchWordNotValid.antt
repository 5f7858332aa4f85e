-- A word that was bad when its line was filled is not valid: its fetch misses by `word`, and stops the core.
use Rattle.std.specs.Prelude.{◌≡◌, refl}
use Rattle.lf_model.specs.Promise.Played.{IsPlayedBy}
use Rattle.lf_model.specs.Report.{report}
use Rattle.lf_worked.specs.Machine.{machine}
use Rattle.lf_worked.specs.FetchWordNotValid.{fetch_word_not_valid_setup, fetch_word_not_valid_events, fetch_word_not_valid_trace, fetch_word_not_valid_text}
use Rattle.lf_worked.proofs.PromiseTest.{played}
use Rattle.lf_worked.proofs.RecordTest.{kept_of, log_of, on_bus, named_by_all}
use Rattle.lf_worked.proofs.RecordsTest.{RecordAt, BusRecordOf, status_of, bus_fates, record_ok, bus_record_ok}
use Rattle.lf_worked.proofs.AllRecordsTest.{AreRecordsOf, RecordOf, records, of_one}

fetch_word_not_valid_report : report fetch_word_not_valid_trace ≡ fetch_word_not_valid_text
unfolding machine fetch_word_not_valid_trace fetch_word_not_valid_text
fetch_word_not_valid_report = refl

fetch_word_not_valid_played : IsPlayedBy fetch_word_not_valid_setup fetch_word_not_valid_events fetch_word_not_valid_trace
unfolding machine fetch_word_not_valid_setup fetch_word_not_valid_events fetch_word_not_valid_trace
fetch_word_not_valid_played = played fetch_word_not_valid_setup fetch_word_not_valid_events fetch_word_not_valid_trace refl

fetch_word_not_valid_record_0 : RecordAt fetch_word_not_valid_setup fetch_word_not_valid_trace 0
unfolding machine fetch_word_not_valid_setup fetch_word_not_valid_trace
fetch_word_not_valid_record_0 = record_ok fetch_word_not_valid_setup 0 (kept_of fetch_word_not_valid_setup fetch_word_not_valid_trace 0) (log_of fetch_word_not_valid_setup fetch_word_not_valid_trace) (on_bus fetch_word_not_valid_setup fetch_word_not_valid_trace) refl refl refl refl refl

fetch_word_not_valid_bus_record : BusRecordOf fetch_word_not_valid_setup fetch_word_not_valid_trace
unfolding machine fetch_word_not_valid_setup fetch_word_not_valid_trace
fetch_word_not_valid_bus_record = bus_record_ok fetch_word_not_valid_setup (log_of fetch_word_not_valid_setup fetch_word_not_valid_trace) (on_bus fetch_word_not_valid_setup fetch_word_not_valid_trace) (status_of fetch_word_not_valid_trace) (bus_fates fetch_word_not_valid_setup fetch_word_not_valid_trace) (named_by_all fetch_word_not_valid_setup fetch_word_not_valid_trace)
    refl refl refl refl refl refl

fetch_word_not_valid_records : AreRecordsOf fetch_word_not_valid_setup fetch_word_not_valid_trace
unfolding machine fetch_word_not_valid_setup fetch_word_not_valid_trace
fetch_word_not_valid_records = records fetch_word_not_valid_setup fetch_word_not_valid_trace refl
    (of_one (RecordOf fetch_word_not_valid_setup fetch_word_not_valid_trace) fetch_word_not_valid_record_0) fetch_word_not_valid_bus_record refl refl
