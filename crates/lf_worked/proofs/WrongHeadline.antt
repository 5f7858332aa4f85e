-- Wrong reports that the headline itself refuses: causes of stops, blank registers and watched words.
use Rattle.std.specs.Prelude.{◌≡◌, refl, [], Some, None, length}
use Rattle.std.proofs.lemmas.Bool.{false≢true, true≢false}
use Rattle.lf_model.specs.Promise.Headline.{Headline}
use Rattle.lf_model.specs.Report.{report}
use Rattle.lf_model.specs.declared.trace.CoreEnd.TheVariants.{Stop}
use Rattle.lf_model.specs.declared.trace.Trace.{Trace}
use Rattle.lf_worked.specs.Edits.{at, with_core, with_fate, with_watched, with_line}
use Rattle.lf_worked.specs.Machine.{machine}
use Rattle.lf_worked.specs.Rows.{word, text_lines}
use Rattle.lf_worked.proofs.Numerals.{lt}
use Rattle.lf_worked.proofs.Items.{differ, first_syndrome, first_place, yes_at}
use Rattle.lf_model.specs.declared.trace.Fate.TheVariants as fates
use Rattle.lf_worked.specs.FetchWordNotValid.{fetch_word_not_valid_setup, fetch_word_not_valid_trace, fetch_word_not_valid_lines}
use Rattle.lf_worked.specs.FlipsOfRegisters.{flips_of_registers_setup, flips_of_registers_trace, flips_of_registers_lines}
use Rattle.lf_worked.specs.FlipsOfWords.{flips_of_words_setup, flips_of_words_trace, flips_of_words_lines}
use Rattle.lf_worked.specs.LimitAndALostStore.{limit_and_a_lost_store_setup, limit_and_a_lost_store_trace, limit_and_a_lost_store_lines}
use Rattle.lf_worked.specs.RegisterWrittenBack.{register_written_back_setup, register_written_back_trace, register_written_back_lines}
use Rattle.lf_worked.specs.StopAtSwap.{stop_at_swap_setup, stop_at_swap_trace, stop_at_swap_lines}

-- a stop at a register with one turned bit, which is corrected
unfoldable stop_without_cause : Trace
unfolding register_written_back_trace
stop_without_cause = with_fate 0 fates.Stopped (with_core 0 (λ r. record r { end = Stop 0x20 1 0x4F; n = 2; steps = 4; out = []; pc = 0x40000008; npc = 0x4000000C }) register_written_back_trace)

stop_without_cause_text : report stop_without_cause ≡ text_lines (with_line 16 "f 0 stopped" (with_line 9 "ctl 0 F3000080 00000002 00000000 00000000 40000008 4000000C" (with_line 4 "out 0 -" (with_line 3 "core 0 stop 20 2 4 1 4F" register_written_back_lines))))
unfolding machine stop_without_cause register_written_back_lines
stop_without_cause_text = refl

stop_without_cause_refused : Headline register_written_back_setup stop_without_cause → ⊥
unfolding machine register_written_back_setup stop_without_cause
stop_without_cause_refused h = differ length 0 1 refl refl refl (h.stops 0 (lt 0 1 refl)).met

-- the syndrome of one of the two turned bits
unfoldable stop_by_another_syndrome : Trace
unfolding stop_at_swap_trace
stop_by_another_syndrome = with_core 0 (λ r. record r { end = Stop 0x09 1 0x57 }) stop_at_swap_trace

stop_by_another_syndrome_text : report stop_by_another_syndrome ≡ text_lines (with_line 3 "core 0 stop 09 1 3 1 57" stop_at_swap_lines)
unfolding machine stop_by_another_syndrome stop_at_swap_lines
stop_by_another_syndrome_text = refl

stop_by_another_syndrome_refused : Headline stop_at_swap_setup stop_by_another_syndrome → ⊥
unfolding machine stop_at_swap_setup stop_by_another_syndrome
stop_by_another_syndrome_refused h = differ first_syndrome 0x0F 0x57 refl refl refl (h.stops 0 (lt 0 1 refl)).met

-- the fill at which the bad word was not wanted
unfoldable stop_at_the_fetch : Trace
unfolding fetch_word_not_valid_trace
stop_at_the_fetch = with_core 0 (λ r. record r { end = Stop 0x01 0 0x3A }) fetch_word_not_valid_trace

stop_at_the_fetch_text : report stop_at_the_fetch ≡ text_lines (with_line 3 "core 0 stop 01 1 3 0 3A" fetch_word_not_valid_lines)
unfolding machine stop_at_the_fetch fetch_word_not_valid_lines
stop_at_the_fetch_text = refl

stop_at_the_fetch_refused : Headline fetch_word_not_valid_setup stop_at_the_fetch → ⊥
unfolding machine fetch_word_not_valid_setup stop_at_the_fetch
stop_at_the_fetch_refused h = differ first_place 1 0 refl refl refl (h.stops 0 (lt 0 1 refl)).met

-- a register that its read corrected, without a value
unfoldable blank_that_was_read : Trace
unfolding register_written_back_trace
blank_that_was_read = with_core 0 (λ r. record r { regs = at 1 None r.regs }) register_written_back_trace

blank_that_was_read_text : report blank_that_was_read ≡ text_lines (with_line 5 "g 0 00000000 -------- 00000000 00000000 00000000 00000000 00000000 00000000" register_written_back_lines)
unfolding machine blank_that_was_read register_written_back_lines
blank_that_was_read_text = refl

blank_that_was_read_refused : Headline register_written_back_setup blank_that_was_read → ⊥
unfolding machine register_written_back_setup blank_that_was_read
blank_that_was_read_refused h = differ (yes_at 1) 1 0 refl refl refl (h.blanks 0 (lt 0 1 refl)).registers

-- a value of a register whose cell is bad at the end
unfoldable bad_register_told : Trace
unfolding flips_of_registers_trace
bad_register_told = with_core 0 (λ r. record r { regs = at 9 (Some 0x00000000) r.regs }) flips_of_registers_trace

bad_register_told_text : report bad_register_told ≡ text_lines (with_line 6 "o 0 00000000 00000000 00000000 00000000 00000000 00000000 00000000 00000000" flips_of_registers_lines)
unfolding machine bad_register_told flips_of_registers_lines
bad_register_told_text = refl

bad_register_told_refused : Headline flips_of_registers_setup bad_register_told → ⊥
unfolding machine flips_of_registers_setup bad_register_told
bad_register_told_refused h = differ (yes_at 9) 0 1 refl refl refl (h.blanks 0 (lt 0 1 refl)).registers

-- a value of a watched word that is bad
unfoldable bad_word_told : Trace
unfolding limit_and_a_lost_store_trace
bad_word_told = with_watched 0 (word 0x40001000 (Some 0x00000000)) limit_and_a_lost_store_trace

bad_word_told_text : report bad_word_told ≡ text_lines (with_line 22 "w 40001000 00000000" limit_and_a_lost_store_lines)
unfolding machine bad_word_told limit_and_a_lost_store_lines
bad_word_told_text = refl

bad_word_told_refused : Headline limit_and_a_lost_store_setup bad_word_told → ⊥
unfolding machine limit_and_a_lost_store_setup bad_word_told
bad_word_told_refused h = false≢true (h.watched 0 (lt 0 2 refl))

-- a watched word that was corrected, without a value
unfoldable good_word_blank : Trace
unfolding flips_of_words_trace
good_word_blank = with_watched 0 (word 0x40001000 None) flips_of_words_trace

good_word_blank_text : report good_word_blank ≡ text_lines (with_line 29 "w 40001000 --------" flips_of_words_lines)
unfolding machine good_word_blank flips_of_words_lines
good_word_blank_text = refl

good_word_blank_refused : Headline flips_of_words_setup good_word_blank → ⊥
unfolding machine flips_of_words_setup good_word_blank
good_word_blank_refused h = true≢false (h.watched 0 (lt 0 2 refl))
