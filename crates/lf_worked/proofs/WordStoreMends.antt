-- A word store writes a word with two turned bits whole, without reading it.
use Rattle.std.specs.Prelude.{◌≡◌, refl}
use Rattle.lf_model.specs.Promise.Played.{IsPlayedBy}
use Rattle.lf_model.specs.Report.{report}
use Rattle.lf_worked.specs.Machine.{machine}
use Rattle.lf_worked.specs.WordStoreMends.{word_store_mends_setup, word_store_mends_events, word_store_mends_trace, word_store_mends_text}
use Rattle.lf_worked.proofs.PromiseTest.{played}
use Rattle.lf_worked.proofs.RecordTest.{kept_of, log_of, on_bus, named_by_all}
use Rattle.lf_worked.proofs.RecordsTest.{RecordAt, BusRecordOf, status_of, bus_fates, record_ok, bus_record_ok}
use Rattle.lf_worked.proofs.AllRecordsTest.{AreRecordsOf, RecordOf, records, of_one}

word_store_mends_report : report word_store_mends_trace ≡ word_store_mends_text
unfolding machine word_store_mends_trace word_store_mends_text
word_store_mends_report = refl

word_store_mends_played : IsPlayedBy word_store_mends_setup word_store_mends_events word_store_mends_trace
unfolding machine word_store_mends_setup word_store_mends_events word_store_mends_trace
word_store_mends_played = played word_store_mends_setup word_store_mends_events word_store_mends_trace refl

word_store_mends_record_0 : RecordAt word_store_mends_setup word_store_mends_trace 0
unfolding machine word_store_mends_setup word_store_mends_trace
word_store_mends_record_0 = record_ok word_store_mends_setup 0 (kept_of word_store_mends_setup word_store_mends_trace 0) (log_of word_store_mends_setup word_store_mends_trace) (on_bus word_store_mends_setup word_store_mends_trace) refl refl refl refl refl

word_store_mends_bus_record : BusRecordOf word_store_mends_setup word_store_mends_trace
unfolding machine word_store_mends_setup word_store_mends_trace
word_store_mends_bus_record = bus_record_ok word_store_mends_setup (log_of word_store_mends_setup word_store_mends_trace) (on_bus word_store_mends_setup word_store_mends_trace) (status_of word_store_mends_trace) (bus_fates word_store_mends_setup word_store_mends_trace) (named_by_all word_store_mends_setup word_store_mends_trace)
    refl refl refl refl refl refl

word_store_mends_records : AreRecordsOf word_store_mends_setup word_store_mends_trace
unfolding machine word_store_mends_setup word_store_mends_trace
word_store_mends_records = records word_store_mends_setup word_store_mends_trace refl
    (of_one (RecordOf word_store_mends_setup word_store_mends_trace) word_store_mends_record_0) word_store_mends_bus_record refl refl
