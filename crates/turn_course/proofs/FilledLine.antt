-- The bytes that a fill puts into a line of the data cache: in the words that are valid they are those that the log left in memory.
use Rattle.std.proofs.Common.{◌≡◌, ◌+◌, ◌*◌, ◌%◌, ◌<◌, ℕ, Bool, true, false, not, IsTrue, List, slice_index, refl}
use Rattle.ahb_bus.proofs.ShownLemmas.{line_word}
use Rattle.ahb_bus.specs.BusOk.{BusOk}
use Rattle.ahb_bus.specs.BusState.{BusState, memory_of, answered}
use Rattle.bus_memory.specs.MemoryState.{line_shown, reads_line}
use Rattle.core_turns.proofs.TextLine.{HasLine, stored_small, line_read, word_valid}
use Rattle.core_turns.specs.AfterTurn.{data_valid}
use Rattle.lf_model.specs.Course.Syndromes.{met_bad}
use Rattle.lf_model.specs.Course.Turned.{valid_by}
use Rattle.lf_model.specs.Records.AllRecords.{number_left}
use Rattle.lf_model.specs.Start.{initial_byte, is_in_ram}
use Rattle.lf_model.specs.Value.{stored}
use Rattle.lf_model.specs.declared.bus.Transfer.{Transfer}

not_true : (b : Bool) → not b ≡ true → b ≡ false
not_true true is = absurd cc
not_true false is = refl

-- ---- the line

module _ (bus : BusState) (ok : BusOk bus) (asked : Transfer) (reads : reads_line asked.kind ≡ true) (aligned : asked.addr % 32 ≡ 0)
    (inside : IsTrue (is_in_ram bus.setup.config.ram asked.addr 32)) where
  abbrev t : Transfer
  t = answered bus asked

  abbrev words : List ℕ
  words = (line_shown (memory_of bus) asked.addr).words

  good_word : (j : ℕ) → j < 8 → not (met_bad t j) ≡ true → slice_index words j ≡ number_left bus.setup.image bus.log (asked.addr + 4 * j)
  good_word j below good = line_word bus ok asked reads j below aligned inside (not_true (met_bad t j) good)

  -- its valid words are as the log left them
  pub memory_bytes : HasLine (λ a. stored a bus.log (initial_byte bus.setup.image a)) asked.addr (data_valid t) words
  unfolding data_valid
  memory_bytes = line_read (λ a. stored a bus.log (initial_byte bus.setup.image a)) (λ a. stored_small a (initial_byte bus.setup.image a) bus.log (ok.bytes a))
      asked.addr (valid_by (λ j. not (met_bad t j))) words aligned (λ j below is. good_word j below (word_valid (λ i. not (met_bad t i)) j below is))
