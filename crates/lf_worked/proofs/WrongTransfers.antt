-- Wrong reports that the ledger refuses at a transfer: what the step needed, and address, way and syndromes.
use Rattle.std.specs.Prelude.{◌≡◌, refl}
use Rattle.lf_model.specs.Ledger.Rule.{KeepsLedger}
use Rattle.lf_model.specs.Report.{report}
use Rattle.lf_model.specs.declared.trace.Trace.{Trace}
use Rattle.lf_worked.specs.Edits.{with_transfer, with_line}
use Rattle.lf_worked.specs.Machine.{machine}
use Rattle.lf_worked.specs.Rows.{transfer, text_lines}
use Rattle.lf_worked.proofs.Items.{differ, kind_needed, cause_needed, step_of, kind_made, address_of, way_filled, syndromes}
use Rattle.lf_model.specs.declared.bus.TurnKind.TheVariants as kinds
use Rattle.lf_model.specs.declared.bus.Why.TheVariants as whys
use Rattle.lf_worked.specs.ByteOut.{byte_out_setup, byte_out_trace, byte_out_lines}
use Rattle.lf_worked.specs.CorrectedLoad.{corrected_load_setup, corrected_load_trace, corrected_load_lines}
use Rattle.lf_worked.specs.FlipsOfWords.{flips_of_words_setup, flips_of_words_trace, flips_of_words_lines}
use Rattle.lf_worked.specs.FullBuffer.{full_buffer_setup, full_buffer_trace, full_buffer_lines}
use Rattle.lf_worked.specs.LostByteStore.{lost_byte_store_setup, lost_byte_store_trace, lost_byte_store_lines}
use Rattle.lf_worked.specs.OwnStoreUpdates.{own_store_updates_setup, own_store_updates_trace, own_store_updates_lines}
use Rattle.lf_worked.specs.ScrubbedWord.{scrubbed_word_setup, scrubbed_word_trace, scrubbed_word_lines}
use Rattle.lf_worked.specs.ScrubberWalksRound.{scrubber_walks_round_setup, scrubber_walks_round_trace, scrubber_walks_round_lines}
use Rattle.lf_worked.specs.StruckLine.{struck_line_setup, struck_line_trace, struck_line_lines}
use Rattle.lf_worked.specs.StruckTag.{struck_tag_setup, struck_tag_trace, struck_tag_lines}
use Rattle.lf_worked.specs.ThreeLinesInTwoWays.{three_lines_in_two_ways_setup, three_lines_in_two_ways_trace, three_lines_in_two_ways_lines}
use Rattle.lf_worked.specs.Window.{window_setup, window_trace, window_lines}

-- a drain before error mode reported by FLUSH
unfoldable drain_by_flush : Trace
unfolding lost_byte_store_trace
drain_by_flush = with_transfer 2 (transfer 2 0 9 kinds.Store whys.Flush 0x40001000 0 1 0x0500000000000000) lost_byte_store_trace

drain_by_flush_text : report drain_by_flush ≡ text_lines (with_line 15 "t 2 0 9 store flush 40001000 - 05" lost_byte_store_lines)
unfolding machine drain_by_flush lost_byte_store_lines
drain_by_flush_text = refl

drain_by_flush_refused : KeepsLedger lost_byte_store_setup drain_by_flush → ⊥
unfolding machine lost_byte_store_setup drain_by_flush
drain_by_flush_refused h = differ (cause_needed 2) 12 10 refl refl refl h.same

-- a fill by `tag` where no way was dropped
unfoldable miss_by_tag : Trace
unfolding corrected_load_trace
miss_by_tag = with_transfer 1 (transfer 1 0 3 kinds.Load whys.Tag 0x40001000 0 8 0x4F00000000000000) corrected_load_trace

miss_by_tag_text : report miss_by_tag ≡ text_lines (with_line 14 "t 1 0 3 load tag 40001000 0 4F00000000000000" corrected_load_lines)
unfolding machine miss_by_tag corrected_load_lines
miss_by_tag_text = refl

miss_by_tag_refused : KeepsLedger corrected_load_setup miss_by_tag → ⊥
unfolding machine corrected_load_setup miss_by_tag
miss_by_tag_refused h = differ (cause_needed 1) 2 4 refl refl refl h.same

-- a fill by `absent` where a way was dropped
unfoldable miss_by_absent : Trace
unfolding struck_tag_trace
miss_by_absent = with_transfer 2 (transfer 2 0 5 kinds.Load whys.Absent 0x40001000 0 8 0x0000000000000000) struck_tag_trace

miss_by_absent_text : report miss_by_absent ≡ text_lines (with_line 15 "t 2 0 5 load absent 40001000 0 0000000000000000" struck_tag_lines)
unfolding machine miss_by_absent struck_tag_lines
miss_by_absent_text = refl

miss_by_absent_refused : KeepsLedger struck_tag_setup miss_by_absent → ⊥
unfolding machine struck_tag_setup miss_by_absent
miss_by_absent_refused h = differ (cause_needed 2) 4 2 refl refl refl h.same

-- a fill by `word` where a byte was struck
unfoldable miss_by_word : Trace
unfolding struck_line_trace
miss_by_word = with_transfer 2 (transfer 2 0 5 kinds.Load whys.Word 0x40001000 0 8 0x0000000000000000) struck_line_trace

miss_by_word_text : report miss_by_word ≡ text_lines (with_line 15 "t 2 0 5 load word 40001000 0 0000000000000000" struck_line_lines)
unfolding machine miss_by_word struck_line_lines
miss_by_word_text = refl

miss_by_word_refused : KeepsLedger struck_line_setup miss_by_word → ⊥
unfolding machine struck_line_setup miss_by_word
miss_by_word_refused h = differ (cause_needed 2) 5 3 refl refl refl h.same

-- a drain of a full buffer reported by another cause
unfoldable full_shown_as_miss : Trace
unfolding full_buffer_trace
full_shown_as_miss = with_transfer 1 (transfer 1 0 4 kinds.Store whys.Miss 0x40001000 0 0 0) full_buffer_trace

full_shown_as_miss_text : report full_shown_as_miss ≡ text_lines (with_line 14 "t 1 0 4 store miss 40001000 - --" full_buffer_lines)
unfolding machine full_shown_as_miss full_buffer_lines
full_shown_as_miss_text = refl

full_shown_as_miss_refused : KeepsLedger full_buffer_setup full_shown_as_miss → ⊥
unfolding machine full_buffer_setup full_shown_as_miss
full_shown_as_miss_refused h = differ (cause_needed 1) 6 7 refl refl refl h.same

-- a snoop where a store waits
unfoldable snoop_with_a_store : Trace
unfolding window_trace
snoop_with_a_store = with_transfer 1 (transfer 1 0 3 kinds.Snoop whys.Window 0x00000000 0 0 0) window_trace

snoop_with_a_store_text : report snoop_with_a_store ≡ text_lines (with_line 14 "t 1 0 3 snoop window 00000000 - -" window_lines)
unfolding machine snoop_with_a_store window_lines
snoop_with_a_store_text = refl

snoop_with_a_store_refused : KeepsLedger window_setup snoop_with_a_store → ⊥
unfolding machine window_setup snoop_with_a_store
snoop_with_a_store_refused h = differ (kind_needed 1) 3 5 refl refl refl h.same

-- a scheduled drain where no store waits
unfoldable scheduled_for_window : Trace
unfolding window_trace
scheduled_for_window = with_transfer 3 (transfer 3 0 7 kinds.Store whys.Sched 0x40001000 0 0 0) window_trace

scheduled_for_window_text : report scheduled_for_window ≡ text_lines (with_line 16 "t 3 0 7 store sched 40001000 - --" window_lines)
unfolding machine scheduled_for_window window_lines
scheduled_for_window_text = refl

scheduled_for_window_refused : KeepsLedger window_setup scheduled_for_window → ⊥
unfolding machine window_setup scheduled_for_window
scheduled_for_window_refused h = differ (kind_needed 3) 0 3 refl refl refl h.same

-- a fill of another line
unfoldable address_of_a_fill : Trace
unfolding byte_out_trace
address_of_a_fill = with_transfer 0 (transfer 0 0 0 kinds.Fetch whys.Absent 0x40A00000 0 8 0x0000000000000000) byte_out_trace

address_of_a_fill_text : report address_of_a_fill ≡ text_lines (with_line 13 "t 0 0 0 fetch absent 40A00000 0 0000000000000000" byte_out_lines)
unfolding machine address_of_a_fill byte_out_lines
address_of_a_fill_text = refl

address_of_a_fill_refused : KeepsLedger byte_out_setup address_of_a_fill → ⊥
unfolding machine byte_out_setup address_of_a_fill
address_of_a_fill_refused h = differ (address_of 0) 0x40000000 0x40A00000 refl refl refl h.same

-- the word's address in place of the byte's
unfoldable address_of_a_store : Trace
unfolding own_store_updates_trace
address_of_a_store = with_transfer 2 (transfer 2 0 7 kinds.Store whys.End 0x40001000 0 1 0x0000000000000000) own_store_updates_trace

address_of_a_store_text : report address_of_a_store ≡ text_lines (with_line 15 "t 2 0 7 store end 40001000 - 00" own_store_updates_lines)
unfolding machine address_of_a_store own_store_updates_lines
address_of_a_store_text = refl

address_of_a_store_refused : KeepsLedger own_store_updates_setup address_of_a_store → ⊥
unfolding machine own_store_updates_setup address_of_a_store
address_of_a_store_refused h = differ (address_of 2) 0x40001001 0x40001000 refl refl refl h.same

-- a fill of the way that was used last
unfoldable way_of_a_fill : Trace
unfolding three_lines_in_two_ways_trace
way_of_a_fill = with_transfer 3 (transfer 3 0 7 kinds.Load whys.Absent 0x40001200 0 8 0x0000000000000000) three_lines_in_two_ways_trace

way_of_a_fill_text : report way_of_a_fill ≡ text_lines (with_line 16 "t 3 0 7 load absent 40001200 0 0000000000000000" three_lines_in_two_ways_lines)
unfolding machine way_of_a_fill three_lines_in_two_ways_lines
way_of_a_fill_text = refl

way_of_a_fill_refused : KeepsLedger three_lines_in_two_ways_setup way_of_a_fill → ⊥
unfolding machine three_lines_in_two_ways_setup way_of_a_fill
way_of_a_fill_refused h = differ (way_filled 3) 1 0 refl refl refl h.same

-- clean where a bit was turned
unfoldable syndromes_of_a_fill : Trace
unfolding corrected_load_trace
syndromes_of_a_fill = with_transfer 1 (transfer 1 0 3 kinds.Load whys.Absent 0x40001000 0 8 0x0000000000000000) corrected_load_trace

syndromes_of_a_fill_text : report syndromes_of_a_fill ≡ text_lines (with_line 14 "t 1 0 3 load absent 40001000 0 0000000000000000" corrected_load_lines)
unfolding machine syndromes_of_a_fill corrected_load_lines
syndromes_of_a_fill_text = refl

syndromes_of_a_fill_refused : KeepsLedger corrected_load_setup syndromes_of_a_fill → ⊥
unfolding machine corrected_load_setup syndromes_of_a_fill
syndromes_of_a_fill_refused h = differ (syndromes 1) 0x4F00000000000000 0 refl refl refl h.same

-- clean where SWAP read a turned bit
unfoldable syndrome_of_an_atomic : Trace
unfolding flips_of_words_trace
syndrome_of_an_atomic = with_transfer 3 (transfer 3 0 6 kinds.Atomic whys.None 0x40001004 0 1 0x0000000000000000) flips_of_words_trace

syndrome_of_an_atomic_text : report syndrome_of_an_atomic ≡ text_lines (with_line 16 "t 3 0 6 atomic - 40001004 - 00" flips_of_words_lines)
unfolding machine syndrome_of_an_atomic flips_of_words_lines
syndrome_of_an_atomic_text = refl

syndrome_of_an_atomic_refused : KeepsLedger flips_of_words_setup syndrome_of_an_atomic → ⊥
unfolding machine flips_of_words_setup syndrome_of_an_atomic
syndrome_of_an_atomic_refused h = differ (syndromes 3) 0x2500000000000000 0 refl refl refl h.same

-- a step that is not the number of the scrubber's turns before
unfoldable step_of_the_scrubber : Trace
unfolding scrubbed_word_trace
step_of_the_scrubber = with_transfer 0 (transfer 0 8 7 kinds.Look whys.None 0x40001000 0 8 0x5800000000000000) scrubbed_word_trace

step_of_the_scrubber_text : report step_of_the_scrubber ≡ text_lines (with_line 13 "t 0 8 7 look - 40001000 - 5800000000000000" scrubbed_word_lines)
unfolding machine step_of_the_scrubber scrubbed_word_lines
step_of_the_scrubber_text = refl

step_of_the_scrubber_refused : KeepsLedger scrubbed_word_setup step_of_the_scrubber → ⊥
unfolding machine scrubbed_word_setup step_of_the_scrubber
step_of_the_scrubber_refused h = differ (step_of 0) 0 7 refl refl refl h.same

-- a look where a word was still to be fixed
unfoldable look_for_a_fix : Trace
unfolding scrubbed_word_trace
look_for_a_fix = with_transfer 3 (transfer 3 8 1 kinds.Look whys.None 0x40001000 0 8 0x0000000000000000) scrubbed_word_trace

look_for_a_fix_text : report look_for_a_fix ≡ text_lines (with_line 16 "t 3 8 1 look - 40001000 - 0000000000000000" scrubbed_word_lines)
unfolding machine look_for_a_fix scrubbed_word_lines
look_for_a_fix_text = refl

look_for_a_fix_refused : KeepsLedger scrubbed_word_setup look_for_a_fix → ⊥
unfolding machine scrubbed_word_setup look_for_a_fix
look_for_a_fix_refused h = differ (kind_made 3) 6 5 refl refl refl h.same

-- a fix of a word that was read clean
unfoldable fix_of_another_word : Trace
unfolding scrubber_walks_round_trace
fix_of_another_word = with_transfer 3 (transfer 3 8 2 kinds.Fix whys.None 0x40001008 0 1 0x0000000000000000) scrubber_walks_round_trace

fix_of_another_word_text : report fix_of_another_word ≡ text_lines (with_line 16 "t 3 8 2 fix - 40001008 - 00" scrubber_walks_round_lines)
unfolding machine fix_of_another_word scrubber_walks_round_lines
fix_of_another_word_text = refl

fix_of_another_word_refused : KeepsLedger scrubber_walks_round_setup fix_of_another_word → ⊥
unfolding machine scrubber_walks_round_setup fix_of_another_word
fix_of_another_word_refused h = differ (address_of 3) 0x4000101C 0x40001008 refl refl refl h.same

-- a look at the same line again
unfoldable look_at_another_line : Trace
unfolding scrubber_walks_round_trace
look_at_another_line = with_transfer 4 (transfer 4 8 3 kinds.Look whys.None 0x40001000 0 8 0x0000000000000000) scrubber_walks_round_trace

look_at_another_line_text : report look_at_another_line ≡ text_lines (with_line 17 "t 4 8 3 look - 40001000 - 0000000000000000" scrubber_walks_round_lines)
unfolding machine look_at_another_line scrubber_walks_round_lines
look_at_another_line_text = refl

look_at_another_line_refused : KeepsLedger scrubber_walks_round_setup look_at_another_line → ⊥
unfolding machine scrubber_walks_round_setup look_at_another_line
look_at_another_line_refused h = differ (address_of 4) 0x40001020 0x40001000 refl refl refl h.same
