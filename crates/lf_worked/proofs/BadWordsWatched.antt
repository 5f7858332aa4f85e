-- Watched words: one with two turned bits, and one that the scrubber corrected.
use Rattle.std.specs.Prelude.{◌≡◌, refl}
use Rattle.lf_model.specs.Promise.Played.{IsPlayedBy}
use Rattle.lf_model.specs.Report.{report}
use Rattle.lf_worked.specs.Machine.{machine}
use Rattle.lf_worked.specs.BadWordsWatched.{bad_words_watched_setup, bad_words_watched_events, bad_words_watched_trace, bad_words_watched_text}
use Rattle.lf_worked.proofs.PromiseTest.{played}
use Rattle.lf_worked.proofs.RecordTest.{kept_of, log_of, on_bus, named_by_all}
use Rattle.lf_worked.proofs.RecordsTest.{RecordAt, BusRecordOf, status_of, bus_fates, record_ok, bus_record_ok}
use Rattle.lf_worked.proofs.AllRecordsTest.{AreRecordsOf, RecordOf, records, of_one}

bad_words_watched_report : report bad_words_watched_trace ≡ bad_words_watched_text
unfolding machine bad_words_watched_trace bad_words_watched_text
bad_words_watched_report = refl

bad_words_watched_played : IsPlayedBy bad_words_watched_setup bad_words_watched_events bad_words_watched_trace
unfolding machine bad_words_watched_setup bad_words_watched_events bad_words_watched_trace
bad_words_watched_played = played bad_words_watched_setup bad_words_watched_events bad_words_watched_trace refl

bad_words_watched_record_0 : RecordAt bad_words_watched_setup bad_words_watched_trace 0
unfolding machine bad_words_watched_setup bad_words_watched_trace
bad_words_watched_record_0 = record_ok bad_words_watched_setup 0 (kept_of bad_words_watched_setup bad_words_watched_trace 0) (log_of bad_words_watched_setup bad_words_watched_trace) (on_bus bad_words_watched_setup bad_words_watched_trace) refl refl refl refl refl

bad_words_watched_bus_record : BusRecordOf bad_words_watched_setup bad_words_watched_trace
unfolding machine bad_words_watched_setup bad_words_watched_trace
bad_words_watched_bus_record = bus_record_ok bad_words_watched_setup (log_of bad_words_watched_setup bad_words_watched_trace) (on_bus bad_words_watched_setup bad_words_watched_trace) (status_of bad_words_watched_trace) (bus_fates bad_words_watched_setup bad_words_watched_trace) (named_by_all bad_words_watched_setup bad_words_watched_trace)
    refl refl refl refl refl refl

bad_words_watched_records : AreRecordsOf bad_words_watched_setup bad_words_watched_trace
unfolding machine bad_words_watched_setup bad_words_watched_trace
bad_words_watched_records = records bad_words_watched_setup bad_words_watched_trace refl
    (of_one (RecordOf bad_words_watched_setup bad_words_watched_trace) bad_words_watched_record_0) bad_words_watched_bus_record refl refl
