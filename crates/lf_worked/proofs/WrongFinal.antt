-- Wrong reports that the ledger refuses at the end: AHBSTAT, watched words without a value, and the scrubber's turns.
use Rattle.std.specs.Prelude.{◌≡◌, refl, ◌∷◌, [], Some, None}
use Rattle.lf_model.specs.Ledger.Rule.{KeepsLedger}
use Rattle.lf_model.specs.Report.{report}
use Rattle.lf_model.specs.declared.trace.Trace.{Trace}
use Rattle.lf_worked.specs.Edits.{with_watched, with_line, without_line}
use Rattle.lf_worked.specs.Machine.{machine}
use Rattle.lf_worked.specs.Rows.{transfer, word, text_lines}
use Rattle.lf_worked.proofs.Items.{differ, ahb_address, ahb_status, word_blank, scrub_turns}
use Rattle.lf_model.specs.declared.bus.TurnKind.TheVariants as kinds
use Rattle.lf_model.specs.declared.bus.Why.TheVariants as whys
use Rattle.lf_worked.specs.BadWordsWatched.{bad_words_watched_setup, bad_words_watched_trace, bad_words_watched_lines}
use Rattle.lf_worked.specs.CleanFix.{clean_fix_setup, clean_fix_trace, clean_fix_lines}
use Rattle.lf_worked.specs.CorrectedLoad.{corrected_load_setup, corrected_load_trace, corrected_load_lines}
use Rattle.lf_worked.specs.HalfStoreByCoreOne.{half_store_by_core_one_setup, half_store_by_core_one_trace, half_store_by_core_one_lines}
use Rattle.lf_worked.specs.LostByteStore.{lost_byte_store_setup, lost_byte_store_trace, lost_byte_store_lines}
use Rattle.lf_worked.specs.ScrubbedWord.{scrubbed_word_setup, scrubbed_word_trace, scrubbed_word_lines}

-- another failing address
unfoldable failing_address : Trace
unfolding corrected_load_trace
failing_address = record corrected_load_trace { ahb_addr = 0x40001004 }

failing_address_text : report failing_address ≡ text_lines (with_line 11 "ahb 40001004 00000302" corrected_load_lines)
unfolding machine failing_address corrected_load_lines
failing_address_text = refl

failing_address_refused : KeepsLedger corrected_load_setup failing_address → ⊥
unfolding machine corrected_load_setup failing_address
failing_address_refused h = differ (ahb_address) 0x40001000 0x40001004 refl refl refl h.same

-- a corrected word reported as not corrected
unfoldable not_corrected : Trace
unfolding corrected_load_trace
not_corrected = record corrected_load_trace { ahb_status = 0x00000102 }

not_corrected_text : report not_corrected ≡ text_lines (with_line 11 "ahb 40001000 00000102" corrected_load_lines)
unfolding machine not_corrected corrected_load_lines
not_corrected_text = refl

not_corrected_refused : KeepsLedger corrected_load_setup not_corrected → ⊥
unfolding machine corrected_load_setup not_corrected
not_corrected_refused h = differ (ahb_status) 0x302 0x102 refl refl refl h.same

-- the note of another master
unfoldable other_master : Trace
unfolding half_store_by_core_one_trace
other_master = record half_store_by_core_one_trace { ahb_status = 0x00000381 }

other_master_text : report other_master ≡ text_lines (with_line 19 "ahb 40001000 00000381" half_store_by_core_one_lines)
unfolding machine other_master half_store_by_core_one_lines
other_master_text = refl

other_master_refused : KeepsLedger half_store_by_core_one_setup other_master → ⊥
unfolding machine half_store_by_core_one_setup other_master
other_master_refused h = differ (ahb_status) 0x389 0x381 refl refl refl h.same

-- the size of a word for a half
unfoldable size_of_a_line : Trace
unfolding half_store_by_core_one_trace
size_of_a_line = record half_store_by_core_one_trace { ahb_status = 0x0000038A }

size_of_a_line_text : report size_of_a_line ≡ text_lines (with_line 19 "ahb 40001000 0000038A" half_store_by_core_one_lines)
unfolding machine size_of_a_line half_store_by_core_one_lines
size_of_a_line_text = refl

size_of_a_line_refused : KeepsLedger half_store_by_core_one_setup size_of_a_line → ⊥
unfolding machine half_store_by_core_one_setup size_of_a_line
size_of_a_line_refused h = differ (ahb_status) 0x389 0x38A refl refl refl h.same

-- a write reported as a read
unfoldable no_write : Trace
unfolding lost_byte_store_trace
no_write = record lost_byte_store_trace { ahb_status = 0x00000100 }

no_write_text : report no_write ≡ text_lines (with_line 11 "ahb 40001000 00000100" lost_byte_store_lines)
unfolding machine no_write lost_byte_store_lines
no_write_text = refl

no_write_refused : KeepsLedger lost_byte_store_setup no_write → ⊥
unfolding machine lost_byte_store_setup no_write
no_write_refused h = differ (ahb_status) 0x180 0x100 refl refl refl h.same

-- a note that the clean fix cleared
unfoldable not_cleared : Trace
unfolding scrubbed_word_trace
not_cleared = record scrubbed_word_trace { ahb_addr = 0x40001000; ahb_status = 0x00000342 }

not_cleared_text : report not_cleared ≡ text_lines (with_line 11 "ahb 40001000 00000342" scrubbed_word_lines)
unfolding machine not_cleared scrubbed_word_lines
not_cleared_text = refl

not_cleared_refused : KeepsLedger scrubbed_word_setup not_cleared → ⊥
unfolding machine scrubbed_word_setup not_cleared
not_cleared_refused h = differ (ahb_status) 0 0x342 refl refl refl h.same

-- a good word without a value
unfoldable watched_dashes : Trace
unfolding scrubbed_word_trace
watched_dashes = with_watched 0 (word 0x40001000 None) scrubbed_word_trace

watched_dashes_text : report watched_dashes ≡ text_lines (with_line 22 "w 40001000 --------" scrubbed_word_lines)
unfolding machine watched_dashes scrubbed_word_lines
watched_dashes_text = refl

watched_dashes_refused : KeepsLedger scrubbed_word_setup watched_dashes → ⊥
unfolding machine scrubbed_word_setup watched_dashes
watched_dashes_refused h = differ (word_blank 0) 0 1 refl refl refl h.same

-- a value of a bad word
unfoldable watched_value : Trace
unfolding bad_words_watched_trace
watched_value = with_watched 0 (word 0x40001000 (Some 0x00000001)) bad_words_watched_trace

watched_value_text : report watched_value ≡ text_lines (with_line 23 "w 40001000 00000001" bad_words_watched_lines)
unfolding machine watched_value bad_words_watched_lines
watched_value_text = refl

watched_value_refused : KeepsLedger bad_words_watched_setup watched_value → ⊥
unfolding machine bad_words_watched_setup watched_value
watched_value_refused h = differ (word_blank 0) 1 0 refl refl refl h.same

-- one turn fewer of the scrubber
unfoldable fewer_scrubs : Trace
unfolding clean_fix_trace
fewer_scrubs = record clean_fix_trace {
  transfers =
      transfer 0 8 0 kinds.Look whys.None 0x40001000 0 8 0x4F00000000000000
      ∷ transfer 1 0 0 kinds.Fetch whys.Absent 0x40000000 0 8 0x0000000000000000
      ∷ transfer 2 0 3 kinds.Store whys.Sched 0x40001000 0 0 0
      ∷ transfer 3 8 1 kinds.Fix whys.None 0x40001000 0 1 0x0000000000000000 ∷ [];
}

fewer_scrubs_text : report fewer_scrubs ≡ text_lines (without_line 17 (with_line 12 "transfers 4" clean_fix_lines))
unfolding machine fewer_scrubs clean_fix_lines
fewer_scrubs_text = refl

fewer_scrubs_refused : KeepsLedger clean_fix_setup fewer_scrubs → ⊥
unfolding machine clean_fix_setup fewer_scrubs
fewer_scrubs_refused h = differ (scrub_turns) 3 2 refl refl refl h.same
