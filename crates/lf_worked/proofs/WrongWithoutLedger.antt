-- Wrong reports that the rules of the execution and the results of the core let through, as is shown of each. They are refused by
-- what the course of the core and the run of the bus give.
use Rattle.std.specs.Prelude.{◌≡◌, refl, ◌&&◌, ◌∷◌, [], Some, None, true}
use Rattle.lf_model.specs.Ledger.Rule.{KeepsLedger}
use Rattle.lf_model.specs.Report.{report}
use Rattle.lf_model.specs.declared.trace.CoreEnd.TheVariants.{Halt, Stop}
use Rattle.lf_model.specs.declared.trace.Trace.{Trace}
use Rattle.lf_worked.specs.Edits.{at, with_core, with_transfer, with_operation, with_fate, with_line, with_new_line}
use Rattle.lf_worked.specs.Machine.{machine}
use Rattle.lf_worked.specs.Rows.{transfer, load, store, text_lines}
use Rattle.lf_worked.proofs.Numerals.{passes_below}
use Rattle.lf_worked.proofs.ExecutionTest.{is_execution}
use Rattle.lf_worked.proofs.ResultsTest.{result_at}
use Rattle.lf_worked.proofs.Items.{differ, owed_by, error_count, way_hit, kind_needed, address_of, syndromes, fate}
use Rattle.lf_model.specs.declared.trace.Fate.TheVariants as fates
use Rattle.lf_model.specs.declared.bus.TurnKind.TheVariants as kinds
use Rattle.lf_model.specs.declared.bus.Why.TheVariants as whys
use Rattle.lf_worked.specs.CorrectedLoad.{corrected_load_setup, corrected_load_trace, corrected_load_lines}
use Rattle.lf_worked.specs.FixedWordTakesTwoFlips.{fixed_word_takes_two_flips_setup, fixed_word_takes_two_flips_trace, fixed_word_takes_two_flips_lines}
use Rattle.lf_worked.specs.LostByteStore.{lost_byte_store_setup, lost_byte_store_trace, lost_byte_store_lines}
use Rattle.lf_worked.specs.OverwrittenBeforeItIsRead.{overwritten_before_it_is_read_setup, overwritten_before_it_is_read_trace, overwritten_before_it_is_read_lines}
use Rattle.lf_worked.specs.StopAtLoad.{stop_at_load_setup, stop_at_load_trace, stop_at_load_lines}
use Rattle.lf_worked.specs.ThreeSteps.{three_steps_setup, three_steps_trace, three_steps_lines}

-- Steps tied to no instruction: the fill is reported two steps late, so that the flips of step 4 come after the write of %g2, and its
-- read stops the core.
unfoldable steps_of_other_instructions : Trace
unfolding overwritten_before_it_is_read_trace
steps_of_other_instructions = with_fate 1 fates.Stopped (with_fate 0 fates.Stopped (with_operation 0 (load 0 0 5 0x40001000 4 0x00000000 0) (with_transfer 1 (transfer 1 0 4 kinds.Load whys.Absent 0x40001000 0 8 0x0000000000000000) (with_core 0 (λ r. record r { end = Stop 0x20 2 0x05; n = 4; steps = 7; regs = at 3 (Some 0x00000000) (at 2 None r.regs); pc = 0x40000010; npc = 0x40000014 }) overwritten_before_it_is_read_trace))))

steps_of_other_instructions_text : report steps_of_other_instructions ≡ text_lines (with_line 19 "f 1 stopped" (with_line 18 "f 0 stopped" (with_line 16 "L 0 0 5 40001000 00000000 0" (with_line 14 "t 1 0 4 load absent 40001000 0 0000000000000000" (with_line 9 "ctl 0 F3000080 00000002 00000000 00000000 40000010 40000014" (with_line 5 "g 0 00000000 40001000 -------- 00000000 00000000 00000000 00000000 00000000" (with_line 3 "core 0 stop 20 4 7 2 05" overwritten_before_it_is_read_lines)))))))
unfolding machine steps_of_other_instructions overwritten_before_it_is_read_lines
steps_of_other_instructions_text = refl

steps_of_other_instructions_refused : KeepsLedger overwritten_before_it_is_read_setup steps_of_other_instructions → ⊥
unfolding machine overwritten_before_it_is_read_setup steps_of_other_instructions
steps_of_other_instructions_refused h = differ (owed_by 0) 1 0 refl refl refl h.same

steps_of_other_instructions_passes : (is_execution overwritten_before_it_is_read_setup steps_of_other_instructions && passes_below (result_at overwritten_before_it_is_read_setup steps_of_other_instructions) 1) ≡ true
unfolding machine overwritten_before_it_is_read_setup steps_of_other_instructions
steps_of_other_instructions_passes = refl

-- A fill before the limit that no instruction asked for.
unfoldable fill_nobody_asked_for : Trace
unfolding three_steps_trace
fill_nobody_asked_for = record (with_core 0 (λ r. record r { n = 1; regs = at 8 (Some 0x00000000) r.regs; pc = 0x40000004; npc = 0x40000008 }) three_steps_trace) {
  transfers =
      transfer 0 0 0 kinds.Fetch whys.Absent 0x40000000 0 8 0x0000000000000000
      ∷ transfer 1 0 2 kinds.Load whys.Absent 0x40000000 0 8 0x0000000000000000 ∷ [];
}

fill_nobody_asked_for_text : report fill_nobody_asked_for ≡ text_lines (with_new_line 14 "t 1 0 2 load absent 40000000 0 0000000000000000" (with_line 12 "transfers 2" (with_line 9 "ctl 0 F3000080 00000002 00000000 00000000 40000004 40000008" (with_line 6 "o 0 00000000 00000000 00000000 00000000 00000000 00000000 00000000 00000000" (with_line 3 "core 0 limit 1 3" three_steps_lines)))))
unfolding machine fill_nobody_asked_for three_steps_lines
fill_nobody_asked_for_text = refl

fill_nobody_asked_for_refused : KeepsLedger three_steps_setup fill_nobody_asked_for → ⊥
unfolding machine three_steps_setup fill_nobody_asked_for
fill_nobody_asked_for_refused h = differ (kind_needed 1) 0 2 refl refl refl h.same

fill_nobody_asked_for_refused_2 : KeepsLedger three_steps_setup fill_nobody_asked_for → ⊥
unfolding machine three_steps_setup fill_nobody_asked_for
fill_nobody_asked_for_refused_2 h = differ (address_of 1) 0 0x40000000 refl refl refl h.same

fill_nobody_asked_for_passes : (is_execution three_steps_setup fill_nobody_asked_for && passes_below (result_at three_steps_setup fill_nobody_asked_for) 1) ≡ true
unfolding machine three_steps_setup fill_nobody_asked_for
fill_nobody_asked_for_passes = refl

-- Address and syndromes of the transfer of a stop.
unfoldable other_line_of_a_stop : Trace
unfolding stop_at_load_trace
other_line_of_a_stop = with_transfer 1 (transfer 1 0 3 kinds.Load whys.Absent 0x40000000 0 8 0x0000000000000000) stop_at_load_trace

other_line_of_a_stop_text : report other_line_of_a_stop ≡ text_lines (with_line 14 "t 1 0 3 load absent 40000000 0 0000000000000000" stop_at_load_lines)
unfolding machine other_line_of_a_stop stop_at_load_lines
other_line_of_a_stop_text = refl

other_line_of_a_stop_refused : KeepsLedger stop_at_load_setup other_line_of_a_stop → ⊥
unfolding machine stop_at_load_setup other_line_of_a_stop
other_line_of_a_stop_refused h = differ (address_of 1) 0x40001000 0x40000000 refl refl refl h.same

other_line_of_a_stop_refused_2 : KeepsLedger stop_at_load_setup other_line_of_a_stop → ⊥
unfolding machine stop_at_load_setup other_line_of_a_stop
other_line_of_a_stop_refused_2 h = differ (syndromes 1) 0x0500000000000000 0 refl refl refl h.same

other_line_of_a_stop_passes : (is_execution stop_at_load_setup other_line_of_a_stop && passes_below (result_at stop_at_load_setup other_line_of_a_stop) 1) ≡ true
unfolding machine stop_at_load_setup other_line_of_a_stop
other_line_of_a_stop_passes = refl

-- A wanted word that was bad, and no stop.
unfoldable bad_word_and_no_stop : Trace
unfolding stop_at_load_trace
bad_word_and_no_stop = record (with_fate 1 fates.Dormant (with_fate 0 fates.Dormant (with_core 0 (λ r. record r { end = Halt 0x80; n = 5; steps = 7; out = 0x5A ∷ []; regs = at 8 (Some 0x0000005A) r.regs; pc = 0x40000010; npc = 0x40000014 }) stop_at_load_trace))) { order = load 0 0 4 0x40001000 4 0x0000005A 0 ∷ [] }

bad_word_and_no_stop_text : report bad_word_and_no_stop ≡ text_lines (with_line 19 "f 1 dormant" (with_line 18 "f 0 dormant" (with_new_line 16 "L 0 0 4 40001000 0000005A 0" (with_line 15 "order 1" (with_line 9 "ctl 0 F3000080 00000002 00000000 00000000 40000010 40000014" (with_line 6 "o 0 0000005A 00000000 00000000 00000000 00000000 00000000 00000000 00000000" (with_line 4 "out 0 5A" (with_line 3 "core 0 halt 80 5 7" stop_at_load_lines))))))))
unfolding machine bad_word_and_no_stop stop_at_load_lines
bad_word_and_no_stop_text = refl

bad_word_and_no_stop_refused : KeepsLedger stop_at_load_setup bad_word_and_no_stop → ⊥
unfolding machine stop_at_load_setup bad_word_and_no_stop
bad_word_and_no_stop_refused h = differ (error_count 0) 1 0 refl refl refl h.same

bad_word_and_no_stop_passes : (is_execution stop_at_load_setup bad_word_and_no_stop && passes_below (result_at stop_at_load_setup bad_word_and_no_stop) 1) ≡ true
unfolding machine stop_at_load_setup bad_word_and_no_stop
bad_word_and_no_stop_passes = refl

-- A byte store that met a bad word, and no stop.
unfoldable bad_store_and_no_stop : Trace
unfolding lost_byte_store_trace
bad_store_and_no_stop = with_fate 1 fates.Repaired (with_fate 0 fates.Repaired (with_operation 2 (store 0 1 6 0x40001000 1 0x77) (with_core 0 (λ r. record r { end = Halt 0x80; n = 8; steps = 11 }) lost_byte_store_trace)))

bad_store_and_no_stop_text : report bad_store_and_no_stop ≡ text_lines (with_line 22 "f 1 repaired" (with_line 21 "f 0 repaired" (with_line 19 "S 0 1 6 40001000 77" (with_line 3 "core 0 halt 80 8 11" lost_byte_store_lines))))
unfolding machine bad_store_and_no_stop lost_byte_store_lines
bad_store_and_no_stop_text = refl

bad_store_and_no_stop_refused : KeepsLedger lost_byte_store_setup bad_store_and_no_stop → ⊥
unfolding machine lost_byte_store_setup bad_store_and_no_stop
bad_store_and_no_stop_refused h = differ (error_count 0) 1 0 refl refl refl h.same

bad_store_and_no_stop_passes : (is_execution lost_byte_store_setup bad_store_and_no_stop && passes_below (result_at lost_byte_store_setup bad_store_and_no_stop) 1) ≡ true
unfolding machine lost_byte_store_setup bad_store_and_no_stop
bad_store_and_no_stop_passes = refl

-- A fix that leaves its word as it was, so that the next flip makes it bad and another is declined.
unfoldable fix_that_writes_nothing : Trace
unfolding fixed_word_takes_two_flips_trace
fix_that_writes_nothing = with_fate 2 fates.Declined (with_fate 0 fates.Dormant (with_transfer 4 (transfer 4 8 3 kinds.Fix whys.None 0x40001000 0 1 0x0500000000000000) (with_transfer 3 (transfer 3 8 2 kinds.Look whys.None 0x40001000 0 8 0x0500000000000000) fixed_word_takes_two_flips_trace)))

fix_that_writes_nothing_text : report fix_that_writes_nothing ≡ text_lines (with_line 22 "f 2 declined" (with_line 20 "f 0 dormant" (with_line 17 "t 4 8 3 fix - 40001000 - 05" (with_line 16 "t 3 8 2 look - 40001000 - 0500000000000000" fixed_word_takes_two_flips_lines))))
unfolding machine fix_that_writes_nothing fixed_word_takes_two_flips_lines
fix_that_writes_nothing_text = refl

fix_that_writes_nothing_refused : KeepsLedger fixed_word_takes_two_flips_setup fix_that_writes_nothing → ⊥
unfolding machine fixed_word_takes_two_flips_setup fix_that_writes_nothing
fix_that_writes_nothing_refused h = differ (syndromes 3) 0x1800000000000000 0x0500000000000000 refl refl refl h.same

fix_that_writes_nothing_refused_2 : KeepsLedger fixed_word_takes_two_flips_setup fix_that_writes_nothing → ⊥
unfolding machine fixed_word_takes_two_flips_setup fix_that_writes_nothing
fix_that_writes_nothing_refused_2 h = differ (fate 0) 3 7 refl refl refl h.same

fix_that_writes_nothing_refused_3 : KeepsLedger fixed_word_takes_two_flips_setup fix_that_writes_nothing → ⊥
unfolding machine fixed_word_takes_two_flips_setup fix_that_writes_nothing
fix_that_writes_nothing_refused_3 h = differ (fate 2) 7 2 refl refl refl h.same

fix_that_writes_nothing_passes : (is_execution fixed_word_takes_two_flips_setup fix_that_writes_nothing && passes_below (result_at fixed_word_takes_two_flips_setup fix_that_writes_nothing) 1) ≡ true
unfolding machine fixed_word_takes_two_flips_setup fix_that_writes_nothing
fix_that_writes_nothing_passes = refl

-- A way that the cache does not have.
unfoldable way_without_a_line : Trace
unfolding corrected_load_trace
way_without_a_line = with_operation 0 (load 0 0 4 0x40001000 4 0x0000005A 7) corrected_load_trace

way_without_a_line_text : report way_without_a_line ≡ text_lines (with_line 16 "L 0 0 4 40001000 0000005A 7" corrected_load_lines)
unfolding machine way_without_a_line corrected_load_lines
way_without_a_line_text = refl

way_without_a_line_refused : KeepsLedger corrected_load_setup way_without_a_line → ⊥
unfolding machine corrected_load_setup way_without_a_line
way_without_a_line_refused h = differ (way_hit 0) 1 8 refl refl refl h.same

way_without_a_line_passes : (is_execution corrected_load_setup way_without_a_line && passes_below (result_at corrected_load_setup way_without_a_line) 1) ≡ true
unfolding machine corrected_load_setup way_without_a_line
way_without_a_line_passes = refl
