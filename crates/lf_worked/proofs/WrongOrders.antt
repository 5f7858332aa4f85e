-- Wrong reports that a rule of the execution refuses: Once, LoadOp, StoreStore, Thread and Value.
use Rattle.std.specs.Prelude.{◌≡◌, refl, ◌∷◌, [], Some, take, length}
use Rattle.lf_model.specs.Promise.Headline.{IsTsoExecution}
use Rattle.lf_model.specs.Report.{report}
use Rattle.lf_model.specs.declared.trace.Trace.{Trace}
use Rattle.lf_worked.specs.Edits.{with_core, with_transfer, with_operation, with_watched, with_line, with_new_line, without_line}
use Rattle.lf_worked.specs.Machine.{machine}
use Rattle.lf_worked.specs.Rows.{transfer, load, store, atomic, lost, word, text_lines}
use Rattle.lf_worked.proofs.Numerals.{apart, lt}
use Rattle.lf_worked.proofs.Items.{differ, not_at_most, not_below, first_number, first_address, put_of}
use Rattle.lf_model.specs.declared.trace.Fate.TheVariants as fates
use Rattle.lf_model.specs.declared.bus.TurnKind.TheVariants as kinds
use Rattle.lf_model.specs.declared.bus.Why.TheVariants as whys
use Rattle.lf_worked.specs.ByteOut.{byte_out_setup, byte_out_trace, byte_out_lines}
use Rattle.lf_worked.specs.CorrectedLoad.{corrected_load_setup, corrected_load_trace, corrected_load_lines}
use Rattle.lf_worked.specs.FourSteps.{four_steps_setup, four_steps_trace, four_steps_lines}
use Rattle.lf_worked.specs.LostByteStore.{lost_byte_store_setup, lost_byte_store_trace, lost_byte_store_lines}
use Rattle.lf_worked.specs.MessagePassing.{message_passing_setup, message_passing_trace, message_passing_lines}
use Rattle.lf_worked.specs.OwnStoreUpdates.{own_store_updates_setup, own_store_updates_trace, own_store_updates_lines}
use Rattle.lf_worked.specs.SameBitTwice.{same_bit_twice_setup, same_bit_twice_trace, same_bit_twice_lines}
use Rattle.lf_worked.specs.ScrubbedWord.{scrubbed_word_setup, scrubbed_word_trace, scrubbed_word_lines}
use Rattle.lf_worked.specs.StbarDrains.{stbar_drains_setup, stbar_drains_trace, stbar_drains_lines}
use Rattle.lf_worked.specs.StruckTag.{struck_tag_setup, struck_tag_trace, struck_tag_lines}
use Rattle.lf_worked.specs.ThreeCoresSwap.{three_cores_swap_setup, three_cores_swap_trace, three_cores_swap_lines}
use Rattle.lf_worked.specs.ThreeLinesInTwoWays.{three_lines_in_two_ways_setup, three_lines_in_two_ways_trace, three_lines_in_two_ways_lines}

-- Once: no operation of core 0 has number 0
unfoldable number_twice : Trace
unfolding corrected_load_trace
number_twice = with_operation 0 (load 0 1 4 0x40001000 4 0x0000005A 0) corrected_load_trace

number_twice_text : report number_twice ≡ text_lines (with_line 16 "L 0 1 4 40001000 0000005A 0" corrected_load_lines)
unfolding machine number_twice corrected_load_lines
number_twice_text = refl

number_twice_refused : IsTsoExecution corrected_load_setup number_twice → ⊥
unfolding machine corrected_load_setup number_twice
number_twice_refused h = apart 0 1 refl (h.once_cores 0 (lt 0 1 refl) 0 (lt 0 1 refl))

-- Once: an operation of core 1 of one core
unfoldable operation_of_no_core : Trace
unfolding corrected_load_trace
operation_of_no_core = with_operation 0 (load 1 0 4 0x40001000 4 0x0000005A 0) corrected_load_trace

operation_of_no_core_text : report operation_of_no_core ≡ text_lines (with_line 16 "L 1 0 4 40001000 0000005A 0" corrected_load_lines)
unfolding machine operation_of_no_core corrected_load_lines
operation_of_no_core_text = refl

operation_of_no_core_refused : IsTsoExecution corrected_load_setup operation_of_no_core → ⊥
unfolding machine corrected_load_setup operation_of_no_core
operation_of_no_core_refused h = not_below 1 1 refl (h.once_order 0 (lt 0 1 refl))

-- Once: a transfer of core 1 of one core
unfoldable transfer_of_no_core : Trace
unfolding byte_out_trace
transfer_of_no_core = with_transfer 0 (transfer 0 1 0 kinds.Fetch whys.Absent 0x40000000 0 8 0x0000000000000000) byte_out_trace

transfer_of_no_core_text : report transfer_of_no_core ≡ text_lines (with_line 13 "t 0 1 0 fetch absent 40000000 0 0000000000000000" byte_out_lines)
unfolding machine transfer_of_no_core byte_out_lines
transfer_of_no_core_text = refl

transfer_of_no_core_refused : IsTsoExecution byte_out_setup transfer_of_no_core → ⊥
unfolding machine byte_out_setup transfer_of_no_core
transfer_of_no_core_refused h = not_below 1 1 refl (h.once_transfers 0 (lt 0 1 refl))

-- Once: a look by a core
unfoldable look_of_a_core : Trace
unfolding scrubbed_word_trace
look_of_a_core = with_transfer 0 (transfer 0 0 0 kinds.Look whys.None 0x40001000 0 8 0x5800000000000000) scrubbed_word_trace

look_of_a_core_text : report look_of_a_core ≡ text_lines (with_line 13 "t 0 0 0 look - 40001000 - 5800000000000000" scrubbed_word_lines)
unfolding machine look_of_a_core scrubbed_word_lines
look_of_a_core_text = refl

look_of_a_core_refused : IsTsoExecution scrubbed_word_setup look_of_a_core → ⊥
unfolding machine scrubbed_word_setup look_of_a_core
look_of_a_core_refused h = apart 0 8 refl (h.once_transfers 0 (lt 0 4 refl))

-- Once: a store by the scrubber
unfoldable store_of_the_scrubber : Trace
unfolding scrubbed_word_trace
store_of_the_scrubber = with_transfer 2 (transfer 2 8 4 kinds.Store whys.End 0x40001000 0 0 0) scrubbed_word_trace

store_of_the_scrubber_text : report store_of_the_scrubber ≡ text_lines (with_line 15 "t 2 8 4 store end 40001000 - --" scrubbed_word_lines)
unfolding machine store_of_the_scrubber scrubbed_word_lines
store_of_the_scrubber_text = refl

store_of_the_scrubber_refused : IsTsoExecution scrubbed_word_setup store_of_the_scrubber → ⊥
unfolding machine scrubbed_word_setup store_of_the_scrubber
store_of_the_scrubber_refused h = not_below 8 1 refl (h.once_transfers 2 (lt 2 4 refl))

-- Once: one fate of two flips
unfoldable fate_left_out : Trace
unfolding same_bit_twice_trace
fate_left_out = record same_bit_twice_trace { fates = fates.Dormant ∷ [] }

fate_left_out_text : report fate_left_out ≡ text_lines (without_line 19 (with_line 17 "flips 1" same_bit_twice_lines))
unfolding machine fate_left_out same_bit_twice_lines
fate_left_out_text = refl

fate_left_out_refused : IsTsoExecution same_bit_twice_setup fate_left_out → ⊥
unfolding machine same_bit_twice_setup fate_left_out
fate_left_out_refused h = apart 1 2 refl h.once_final.fates_shown

-- Once: another word than the one that is watched
unfoldable other_word_watched : Trace
unfolding scrubbed_word_trace
other_word_watched = with_watched 0 (word 0x40001004 (Some 0x00000001)) scrubbed_word_trace

other_word_watched_text : report other_word_watched ≡ text_lines (with_new_line 22 "w 40001004 00000001" (without_line 22 (with_line 21 "watch 1" scrubbed_word_lines)))
unfolding machine other_word_watched scrubbed_word_lines
other_word_watched_text = refl

other_word_watched_refused : IsTsoExecution scrubbed_word_setup other_word_watched → ⊥
unfolding machine scrubbed_word_setup other_word_watched
other_word_watched_refused h = differ first_number 0x40001004 0x40001000 refl refl refl h.once_final.words_shown

-- Once: no core of one
unfoldable core_left_out : Trace
unfolding byte_out_trace
core_left_out = record byte_out_trace { cores = take 0 byte_out_trace.cores }

core_left_out_text : report core_left_out ≡ text_lines (without_line 3 (without_line 3 (without_line 3 (without_line 3 (without_line 3 (without_line 3 (without_line 3 (without_line 3 (with_line 2 "cores 0" byte_out_lines)))))))))
unfolding machine core_left_out byte_out_lines
core_left_out_text = refl

core_left_out_refused : IsTsoExecution byte_out_setup core_left_out → ⊥
unfolding machine byte_out_setup core_left_out
core_left_out_refused h = apart 0 1 refl h.once_final.cores_shown

-- LoadOp: a load after one that the program makes after it
unfoldable loads_out_of_order : Trace
unfolding three_lines_in_two_ways_trace
loads_out_of_order = with_operation 1 (load 0 0 3 0x40001000 4 0x00000001 0) (with_operation 0 (load 0 1 5 0x40001100 4 0x00000002 1) three_lines_in_two_ways_trace)

loads_out_of_order_text : report loads_out_of_order ≡ text_lines (with_line 20 "L 0 0 3 40001000 00000001 0" (with_line 19 "L 0 1 5 40001100 00000002 1" three_lines_in_two_ways_lines))
unfolding machine loads_out_of_order three_lines_in_two_ways_lines
loads_out_of_order_text = refl

loads_out_of_order_refused : IsTsoExecution three_lines_in_two_ways_setup loads_out_of_order → ⊥
unfolding machine three_lines_in_two_ways_setup loads_out_of_order
loads_out_of_order_refused h = not_at_most 1 0 refl ((h.load_op 1 (lt 1 6 refl) refl).0 refl)

-- StoreStore: a store after one that the program makes after it
unfoldable stores_out_of_order : Trace
unfolding stbar_drains_trace
stores_out_of_order = with_operation 1 (store 0 0 2 0x40001000 4 0x40001000) (with_operation 0 (store 0 1 3 0x40001004 4 0x40001000) stbar_drains_trace)

stores_out_of_order_text : report stores_out_of_order ≡ text_lines (with_line 18 "S 0 0 2 40001000 40001000" (with_line 17 "S 0 1 3 40001004 40001000" stbar_drains_lines))
unfolding machine stores_out_of_order stbar_drains_lines
stores_out_of_order_text = refl

stores_out_of_order_refused : IsTsoExecution stbar_drains_setup stores_out_of_order → ⊥
unfolding machine stbar_drains_setup stores_out_of_order
stores_out_of_order_refused h = not_at_most 1 0 refl ((h.store_store 1 (lt 1 2 refl) refl).0 refl refl)

-- Thread: the core halts at its fourth instruction
unfoldable one_instruction_more : Trace
unfolding byte_out_trace
one_instruction_more = with_core 0 (λ r. record r { n = 5 }) byte_out_trace

one_instruction_more_text : report one_instruction_more ≡ text_lines (with_line 3 "core 0 halt 80 5 5" byte_out_lines)
unfolding machine one_instruction_more byte_out_lines
one_instruction_more_text = refl

one_instruction_more_refused : IsTsoExecution byte_out_setup one_instruction_more → ⊥
unfolding machine byte_out_setup one_instruction_more
one_instruction_more_refused h = (h.thread 0 (lt 0 1 refl)).same

-- Thread: more instructions than steps are allowed
unfoldable more_than_steps : Trace
unfolding four_steps_trace
more_than_steps = with_core 0 (λ r. record r { n = 7 }) four_steps_trace

more_than_steps_text : report more_than_steps ≡ text_lines (with_line 3 "core 0 limit 7 4" four_steps_lines)
unfolding machine more_than_steps four_steps_lines
more_than_steps_text = refl

more_than_steps_refused : IsTsoExecution four_steps_setup more_than_steps → ⊥
unfolding machine four_steps_setup more_than_steps
more_than_steps_refused h = not_at_most 7 4 refl (h.thread 0 (lt 0 1 refl)).within

-- Thread: a load of another address
unfoldable other_address : Trace
unfolding corrected_load_trace
other_address = with_operation 0 (load 0 0 4 0x40001010 4 0x0000005A 0) corrected_load_trace

other_address_text : report other_address ≡ text_lines (with_line 16 "L 0 0 4 40001010 0000005A 0" corrected_load_lines)
unfolding machine other_address corrected_load_lines
other_address_text = refl

other_address_refused : IsTsoExecution corrected_load_setup other_address → ⊥
unfolding machine corrected_load_setup other_address
other_address_refused h = differ first_address 0x40001000 0x40001010 refl refl refl (h.thread 0 (lt 0 1 refl)).same

-- Thread: a lost store of another number
unfoldable other_number_stored : Trace
unfolding lost_byte_store_trace
other_number_stored = with_operation 2 (lost 0 1 6 0x40001000 1 0x76) lost_byte_store_trace

other_number_stored_text : report other_number_stored ≡ text_lines (with_line 19 "X 0 1 6 40001000 76" lost_byte_store_lines)
unfolding machine other_number_stored lost_byte_store_lines
other_number_stored_text = refl

other_number_stored_refused : IsTsoExecution lost_byte_store_setup other_number_stored → ⊥
unfolding machine lost_byte_store_setup other_number_stored
other_number_stored_refused h = differ (put_of 1) 0x77 0x76 refl refl refl (h.thread 0 (lt 0 1 refl)).same

-- Thread: a load that the code makes is left out
unfoldable one_operation_fewer : Trace
unfolding own_store_updates_trace
one_operation_fewer = record own_store_updates_trace {
  order =
      load 0 0 4 0x40001000 4 0x11223344 0
      ∷ store 0 1 5 0x40001001 1 0x77 ∷ [];
}

one_operation_fewer_text : report one_operation_fewer ≡ text_lines (without_line 18 (with_line 16 "order 2" own_store_updates_lines))
unfolding machine one_operation_fewer own_store_updates_lines
one_operation_fewer_text = refl

one_operation_fewer_refused : IsTsoExecution own_store_updates_setup one_operation_fewer → ⊥
unfolding machine own_store_updates_setup one_operation_fewer
one_operation_fewer_refused h = differ length 3 2 refl refl refl (h.thread 0 (lt 0 1 refl)).same

-- Value: a byte that nothing stored
unfoldable byte_never_stored : Trace
unfolding struck_tag_trace
byte_never_stored = with_operation 0 (load 0 0 4 0x40001000 4 0x0000205A 0) struck_tag_trace

byte_never_stored_text : report byte_never_stored ≡ text_lines (with_line 17 "L 0 0 4 40001000 0000205A 0" struck_tag_lines)
unfolding machine byte_never_stored struck_tag_lines
byte_never_stored_text = refl

byte_never_stored_refused : IsTsoExecution struck_tag_setup byte_never_stored → ⊥
unfolding machine struck_tag_setup byte_never_stored
byte_never_stored_refused h = apart 0x20 0 refl (h.value 0 (lt 0 2 refl) refl 0x40001002 refl)

-- Value: the old data after the new flag
unfoldable stale_load : Trace
unfolding message_passing_trace
stale_load = with_operation 4 (load 1 2 12 0x40001000 4 0x00000000 0) message_passing_trace

stale_load_text : report stale_load ≡ text_lines (with_line 34 "L 1 2 12 40001000 00000000 0" message_passing_lines)
unfolding machine stale_load message_passing_lines
stale_load_text = refl

stale_load_refused : IsTsoExecution message_passing_setup stale_load → ⊥
unfolding machine message_passing_setup stale_load
stale_load_refused h = apart 0 1 refl (h.value 4 (lt 4 5 refl) refl 0x40001003 refl)

-- Value: a load that does not read its own core's waiting store
unfoldable own_store_not_seen : Trace
unfolding own_store_updates_trace
own_store_not_seen = with_operation 1 (load 0 2 6 0x40001000 4 0x11223344 0) own_store_updates_trace

own_store_not_seen_text : report own_store_not_seen ≡ text_lines (with_line 18 "L 0 2 6 40001000 11223344 0" own_store_updates_lines)
unfolding machine own_store_not_seen own_store_updates_lines
own_store_not_seen_text = refl

own_store_not_seen_refused : IsTsoExecution own_store_updates_setup own_store_not_seen → ⊥
unfolding machine own_store_updates_setup own_store_not_seen
own_store_not_seen_refused h = apart 0x22 0x77 refl (h.value 1 (lt 1 3 refl) refl 0x40001001 refl)

-- Value: SWAP reads the word of before another core's SWAP
unfoldable atomic_reads_old : Trace
unfolding three_cores_swap_trace
atomic_reads_old = with_operation 1 (atomic 1 0 3 0x40001000 4 0x0000005A 0x00000002) three_cores_swap_trace

atomic_reads_old_text : report atomic_reads_old ≡ text_lines (with_line 37 "A 1 0 3 40001000 0000005A 00000002" three_cores_swap_lines)
unfolding machine atomic_reads_old three_cores_swap_lines
atomic_reads_old_text = refl

atomic_reads_old_refused : IsTsoExecution three_cores_swap_setup atomic_reads_old → ⊥
unfolding machine three_cores_swap_setup atomic_reads_old
atomic_reads_old_refused h = apart 0x5A 3 refl (h.value 1 (lt 1 3 refl) refl 0x40001003 refl)
