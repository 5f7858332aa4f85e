-- Traces that no report can show, or that have more than a report shows: fields out of their ranges, and fields that no line
-- shows and that are not 0.
use Rattle.std.specs.Prelude.{◌≡◌, refl, Some}
use Rattle.std.proofs.lemmas.Bool.{false≢true}
use Rattle.lf_model.specs.Promise.Regular.{IsRegular}
use Rattle.lf_model.specs.Report.{report}
use Rattle.lf_model.specs.declared.bus.TurnKind.TheVariants as kinds
use Rattle.lf_model.specs.declared.bus.Why.TheVariants as whys
use Rattle.lf_model.specs.declared.trace.Trace.{Trace}
use Rattle.lf_worked.specs.Edits.{with_core, with_transfer, with_operation, with_watched}
use Rattle.lf_worked.specs.Machine.{machine}
use Rattle.lf_worked.specs.Rows.{transfer, load, store, parity, word}
use Rattle.lf_worked.proofs.Items.{differ, first_number}
use Rattle.lf_worked.specs.ByteOfZero.{byte_of_zero_trace, byte_of_zero_text}
use Rattle.lf_worked.specs.ByteOut.{byte_out_trace, byte_out_text}
use Rattle.lf_worked.specs.CorrectedLoad.{corrected_load_trace, corrected_load_text}
use Rattle.lf_worked.specs.OwnStoreUpdates.{own_store_updates_trace, own_store_updates_text}
use Rattle.lf_worked.specs.ScrubbedWord.{scrubbed_word_trace}

-- a byte read as 100 hex: the report shows the digits 00, those of the right one
unfoldable byte_of_256 : Trace
unfolding byte_of_zero_trace
byte_of_256 = with_operation 0 (load 0 0 3 0x40001000 1 0x100 0) byte_of_zero_trace

byte_of_256_text : report byte_of_256 ≡ byte_of_zero_text
unfolding machine byte_of_256 byte_of_zero_text
byte_of_256_text = refl

byte_of_256_refused : IsRegular byte_of_256 → ⊥
unfolding machine byte_of_256
byte_of_256_refused h = false≢true h.operations

-- a load with a number stored, which no line shows
unfoldable load_that_stores : Trace
unfolding corrected_load_trace
load_that_stores = with_operation 0 (record (load 0 0 4 0x40001000 4 0x5A 0) { put = 1 }) corrected_load_trace

load_that_stores_text : report load_that_stores ≡ corrected_load_text
unfolding machine load_that_stores corrected_load_text
load_that_stores_text = refl

load_that_stores_refused : IsRegular load_that_stores → ⊥
unfolding machine load_that_stores
load_that_stores_refused h = false≢true h.operations

-- a store with a way
unfoldable store_with_a_way : Trace
unfolding own_store_updates_trace
store_with_a_way = with_operation 2 (record (store 0 1 5 0x40001001 1 0x77) { way = 1 }) own_store_updates_trace

store_with_a_way_text : report store_with_a_way ≡ own_store_updates_text
unfolding machine store_with_a_way own_store_updates_text
store_with_a_way_text = refl

store_with_a_way_refused : IsRegular store_with_a_way → ⊥
unfolding machine store_with_a_way
store_with_a_way_refused h = false≢true h.operations

-- a transfer with a length, which only the bus keeps
unfoldable transfer_with_a_length : Trace
unfolding own_store_updates_trace
transfer_with_a_length =
    with_transfer 2 (record (transfer 2 0 7 kinds.Store whys.End 0x40001001 0 1 0x0000000000000000) { len = 1 }) own_store_updates_trace

transfer_with_a_length_text : report transfer_with_a_length ≡ own_store_updates_text
unfolding machine transfer_with_a_length own_store_updates_text
transfer_with_a_length_text = refl

transfer_with_a_length_refused : IsRegular transfer_with_a_length → ⊥
unfolding machine transfer_with_a_length
transfer_with_a_length_refused h = false≢true h.transfers

-- syndromes below those of the words read
unfoldable syndromes_below : Trace
unfolding own_store_updates_trace
syndromes_below = with_transfer 2 (transfer 2 0 7 kinds.Store whys.End 0x40001001 0 1 0x0000000000000001) own_store_updates_trace

syndromes_below_text : report syndromes_below ≡ own_store_updates_text
unfolding machine syndromes_below own_store_updates_text
syndromes_below_text = refl

syndromes_below_refused : IsRegular syndromes_below → ⊥
unfolding machine syndromes_below
syndromes_below_refused h = false≢true h.transfers

-- a transfer with the number of another turn
unfoldable turn_of_another : Trace
unfolding corrected_load_trace
turn_of_another = with_transfer 0 (transfer 1 0 0 kinds.Fetch whys.Absent 0x40000000 0 8 0x0000000000000000) corrected_load_trace

turn_of_another_refused : IsRegular turn_of_another → ⊥
unfolding machine turn_of_another
turn_of_another_refused h = differ first_number 1 0 refl refl refl h.turns

-- a fetch by the cause of a drain
unfoldable fetch_by_end : Trace
unfolding corrected_load_trace
fetch_by_end = with_transfer 0 (transfer 0 0 0 kinds.Fetch whys.End 0x40000000 0 8 0x0000000000000000) corrected_load_trace

fetch_by_end_refused : IsRegular fetch_by_end → ⊥
unfolding machine fetch_by_end
fetch_by_end_refused h = false≢true h.transfers

-- a counter above 3, and a register above 32 bits
unfoldable counter_of_four : Trace
unfolding byte_out_trace
counter_of_four = with_core 0 (λ r. record r { parity = parity 4 0 0 0 }) byte_out_trace

counter_of_four_refused : IsRegular counter_of_four → ⊥
unfolding machine counter_of_four
counter_of_four_refused h = false≢true h.cores

unfoldable wide_register : Trace
unfolding byte_out_trace
wide_register = with_core 0 (λ r. record r { y = 0x100000000 }) byte_out_trace

wide_register_text : report wide_register ≡ byte_out_text
unfolding machine wide_register byte_out_text
wide_register_text = refl

wide_register_refused : IsRegular wide_register → ⊥
unfolding machine wide_register
wide_register_refused h = false≢true h.cores

-- a status register above 32 bits
unfoldable wide_status : Trace
unfolding corrected_load_trace
wide_status = record corrected_load_trace { ahb_status = 0x100000302 }

wide_status_text : report wide_status ≡ corrected_load_text
unfolding machine wide_status corrected_load_text
wide_status_text = refl

wide_status_refused : IsRegular wide_status → ⊥
unfolding machine wide_status
wide_status_refused h = false≢true h.status

-- a watched word above 32 bits
unfoldable wide_word : Trace
unfolding scrubbed_word_trace
wide_word = with_watched 0 (word 0x40001000 (Some 0x100000001)) scrubbed_word_trace

wide_word_refused : IsRegular wide_word → ⊥
unfolding machine wide_word
wide_word_refused h = false≢true h.words
