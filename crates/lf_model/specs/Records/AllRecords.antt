-- The records of all cores and of the bus are right together, beside the watched words: what a trace is gathered from.
use Rattle.std.specs.Prelude.{ℕ, ◌≡◌, ◌<◌, List, length, map, Some, None, IfSome, slice_get, if◌then◌else◌}
use Rattle.std.specs.List.{flat_map}
use Rattle.lf_model.specs.Bus.Status.{AhbStatus}
use Rattle.lf_model.specs.Bus.Walk.{IsWholeWalk}
use Rattle.lf_model.specs.Bus.Words.{Word, word_history}
use Rattle.lf_model.specs.Flips.{is_bad_word}
use Rattle.lf_model.specs.Records.BusMemory.{memory_after}
use Rattle.lf_model.specs.Records.BusRecord.{BusRecordOk}
use Rattle.lf_model.specs.Records.CoreRecord.{RecordOk}
use Rattle.lf_model.specs.Start.{initial_byte, number_at}
use Rattle.lf_model.specs.Value.{stored}
use Rattle.lf_model.specs.declared.bus.Entry.{Entry}
use Rattle.lf_model.specs.declared.bus.Transfer.{Transfer}
use Rattle.lf_model.specs.declared.image.Image.{Image}
use Rattle.lf_model.specs.declared.record.CoreRecord.{CoreRecord}
use Rattle.lf_model.specs.declared.setup.Setup.{Setup}
use Rattle.lf_model.specs.declared.trace.Fate.{Fate}
use Rattle.lf_model.specs.declared.trace.Word2.{Word2}

-- the words that the stops of all cores name
abbrev pub words_named_by_all : List CoreRecord → List Word2
words_named_by_all records = flat_map (λ (kept : CoreRecord). kept.named) records

-- ---- watched words

-- the number of a word that these entries of the log leave in memory
abbrev pub number_left : Image → List Entry → ℕ → ℕ
number_left image log addr = number_at (λ a. stored a log (initial_byte image a)) addr 4

-- a watched word at the end: it has no value where it is bad, and else the number that the log leaves there
abbrev pub watched_word : Image → List Entry → List Word → ℕ → Word2
watched_word image log words addr = record {
  addr = addr;
  value = if is_bad_word (word_history words addr) then None else Some (number_left image log addr);
}

-- those of the configuration, in its order
abbrev pub watched_words : Setup → List Entry → List Word2 → List Transfer → List Word2
watched_words setup log named transfers = map (watched_word setup.image log (memory_after setup.flips named transfers).words) setup.config.watch

-- ---- all records

abbrev pub RecordAt : Setup → List CoreRecord → List Entry → List Transfer → ℕ → Type 0
RecordAt setup records log transfers c = IfSome (slice_get records c) (λ kept. RecordOk setup c kept log transfers)

-- one record for each core, each of them and that of the bus right; walk: the transfers of the scrubber are its whole walk; watch:
-- the watched words at the end
pub record AreRecordsOk (setup : Setup) (records : List CoreRecord) (log : List Entry) (transfers : List Transfer) (status : AhbStatus) (fates : List Fate) (watch : List Word2) : Type 0 where
  pub one_each : length records ≡ setup.config.cores
  pub cores : (c : ℕ) → c < setup.config.cores → RecordAt setup records log transfers c
  pub bus : BusRecordOk setup log transfers status fates (words_named_by_all records)
  pub walk : IsWholeWalk setup.config.scrub setup.config.scrub_turns transfers
  pub watch_is : watch ≡ watched_words setup log (words_named_by_all records) transfers
