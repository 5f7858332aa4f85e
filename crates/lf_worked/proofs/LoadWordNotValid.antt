-- A store to a word that was bad when its line was filled reaches memory, not the cache.
use Rattle.std.specs.Prelude.{◌≡◌, refl}
use Rattle.lf_model.specs.Promise.Played.{IsPlayedBy}
use Rattle.lf_model.specs.Report.{report}
use Rattle.lf_worked.specs.Machine.{machine}
use Rattle.lf_worked.specs.LoadWordNotValid.{load_word_not_valid_setup, load_word_not_valid_events, load_word_not_valid_trace, load_word_not_valid_text}
use Rattle.lf_worked.proofs.PromiseTest.{played}
use Rattle.lf_worked.proofs.RecordTest.{kept_of, log_of, on_bus, named_by_all}
use Rattle.lf_worked.proofs.RecordsTest.{RecordAt, BusRecordOf, status_of, bus_fates, record_ok, bus_record_ok}
use Rattle.lf_worked.proofs.AllRecordsTest.{AreRecordsOf, RecordOf, records, of_one}

load_word_not_valid_report : report load_word_not_valid_trace ≡ load_word_not_valid_text
unfolding machine load_word_not_valid_trace load_word_not_valid_text
load_word_not_valid_report = refl

load_word_not_valid_played : IsPlayedBy load_word_not_valid_setup load_word_not_valid_events load_word_not_valid_trace
unfolding machine load_word_not_valid_setup load_word_not_valid_events load_word_not_valid_trace
load_word_not_valid_played = played load_word_not_valid_setup load_word_not_valid_events load_word_not_valid_trace refl

load_word_not_valid_record_0 : RecordAt load_word_not_valid_setup load_word_not_valid_trace 0
unfolding machine load_word_not_valid_setup load_word_not_valid_trace
load_word_not_valid_record_0 = record_ok load_word_not_valid_setup 0 (kept_of load_word_not_valid_setup load_word_not_valid_trace 0) (log_of load_word_not_valid_setup load_word_not_valid_trace) (on_bus load_word_not_valid_setup load_word_not_valid_trace) refl refl refl refl refl

load_word_not_valid_bus_record : BusRecordOf load_word_not_valid_setup load_word_not_valid_trace
unfolding machine load_word_not_valid_setup load_word_not_valid_trace
load_word_not_valid_bus_record = bus_record_ok load_word_not_valid_setup (log_of load_word_not_valid_setup load_word_not_valid_trace) (on_bus load_word_not_valid_setup load_word_not_valid_trace) (status_of load_word_not_valid_trace) (bus_fates load_word_not_valid_setup load_word_not_valid_trace) (named_by_all load_word_not_valid_setup load_word_not_valid_trace)
    refl refl refl refl refl refl

load_word_not_valid_records : AreRecordsOf load_word_not_valid_setup load_word_not_valid_trace
unfolding machine load_word_not_valid_setup load_word_not_valid_trace
load_word_not_valid_records = records load_word_not_valid_setup load_word_not_valid_trace refl
    (of_one (RecordOf load_word_not_valid_setup load_word_not_valid_trace) load_word_not_valid_record_0) load_word_not_valid_bus_record refl refl
