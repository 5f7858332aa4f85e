-- Wrong reports that the ledger refuses at a core: what it owes, its error traps, lost stores, counters and blank registers.
use Rattle.std.specs.Prelude.{◌≡◌, refl, ◌∷◌, [], Some, None}
use Rattle.lf_model.specs.Ledger.Rule.{KeepsLedger}
use Rattle.lf_model.specs.Report.{report}
use Rattle.lf_model.specs.declared.trace.CoreEnd.TheVariants.{Stop}
use Rattle.lf_model.specs.declared.trace.Trace.{Trace}
use Rattle.lf_worked.specs.Edits.{at, with_core, with_operation, with_line, without_line}
use Rattle.lf_worked.specs.Machine.{machine}
use Rattle.lf_worked.specs.Rows.{transfer, store, lost, parity, text_lines}
use Rattle.lf_worked.proofs.Items.{differ, owed_by, error_type, error_place, error_syndrome, lost_count, fetch_tag_errors, fetch_byte_errors, data_tag_errors, data_byte_errors, register_blank}
use Rattle.lf_model.specs.declared.bus.TurnKind.TheVariants as kinds
use Rattle.lf_model.specs.declared.bus.Why.TheVariants as whys
use Rattle.lf_worked.specs.BlankRegister.{blank_register_setup, blank_register_trace, blank_register_lines}
use Rattle.lf_worked.specs.ByteOut.{byte_out_setup, byte_out_trace, byte_out_lines}
use Rattle.lf_worked.specs.FetchAfterStruckByte.{fetch_after_struck_byte_setup, fetch_after_struck_byte_trace, fetch_after_struck_byte_lines}
use Rattle.lf_worked.specs.LostByteStore.{lost_byte_store_setup, lost_byte_store_trace, lost_byte_store_lines}
use Rattle.lf_worked.specs.OwnStoreUpdates.{own_store_updates_setup, own_store_updates_trace, own_store_updates_lines}
use Rattle.lf_worked.specs.StopAtLoad.{stop_at_load_setup, stop_at_load_trace, stop_at_load_lines}
use Rattle.lf_worked.specs.StopAtRegister.{stop_at_register_setup, stop_at_register_trace, stop_at_register_lines}
use Rattle.lf_worked.specs.StoreBuffering.{store_buffering_setup, store_buffering_trace, store_buffering_lines}
use Rattle.lf_worked.specs.StruckLine.{struck_line_setup, struck_line_trace, struck_line_lines}
use Rattle.lf_worked.specs.StruckTag.{struck_tag_setup, struck_tag_trace, struck_tag_lines}
use Rattle.lf_worked.specs.TagCounterStopsAtThree.{tag_counter_stops_at_three_setup, tag_counter_stops_at_three_trace, tag_counter_stops_at_three_lines}

-- no fill at all: the four steps owe a turn
unfoldable no_first_fetch : Trace
unfolding byte_out_trace
no_first_fetch = record (with_core 0 (λ r. record r { steps = 4 }) byte_out_trace) { transfers = [] }

no_first_fetch_text : report no_first_fetch ≡ text_lines (without_line 13 (with_line 12 "transfers 0" (with_line 3 "core 0 halt 80 4 4" byte_out_lines)))
unfolding machine no_first_fetch byte_out_lines
no_first_fetch_text = refl

no_first_fetch_refused : KeepsLedger byte_out_setup no_first_fetch → ⊥
unfolding machine byte_out_setup no_first_fetch
no_first_fetch_refused h = differ (owed_by 0) 4 0 refl refl refl h.same

-- no drain before error mode: the step of the trap owes it, and so does the store that still waits
unfoldable drain_left_out : Trace
unfolding own_store_updates_trace
drain_left_out = record (with_core 0 (λ r. record r { steps = 8 }) own_store_updates_trace) {
  transfers =
      transfer 0 0 0 kinds.Fetch whys.Absent 0x40000000 0 8 0x0000000000000000
      ∷ transfer 1 0 3 kinds.Load whys.Absent 0x40001000 0 8 0x0000000000000000 ∷ [];
}

drain_left_out_text : report drain_left_out ≡ text_lines (without_line 15 (with_line 12 "transfers 2" (with_line 3 "core 0 halt 80 6 8" own_store_updates_lines)))
unfolding machine drain_left_out own_store_updates_lines
drain_left_out_text = refl

drain_left_out_refused : KeepsLedger own_store_updates_setup drain_left_out → ⊥
unfolding machine own_store_updates_setup drain_left_out
drain_left_out_refused h = differ (owed_by 0) 2 0 refl refl refl h.same

-- another syndrome of the bad register
unfoldable syndrome_of_a_stop : Trace
unfolding stop_at_register_trace
syndrome_of_a_stop = with_core 0 (λ r. record r { end = Stop 0x20 1 0x13 }) stop_at_register_trace

syndrome_of_a_stop_text : report syndrome_of_a_stop ≡ text_lines (with_line 3 "core 0 stop 20 2 4 1 13" stop_at_register_lines)
unfolding machine syndrome_of_a_stop stop_at_register_lines
syndrome_of_a_stop_text = refl

syndrome_of_a_stop_refused : KeepsLedger stop_at_register_setup syndrome_of_a_stop → ⊥
unfolding machine stop_at_register_setup syndrome_of_a_stop
syndrome_of_a_stop_refused h = differ (error_syndrome 0) 0x05 0x13 refl refl refl h.same

-- another cell than the one that is bad
unfoldable cell_of_a_stop : Trace
unfolding stop_at_register_trace
cell_of_a_stop = with_core 0 (λ r. record r { end = Stop 0x20 8 0x05 }) stop_at_register_trace

cell_of_a_stop_text : report cell_of_a_stop ≡ text_lines (with_line 3 "core 0 stop 20 2 4 8 05" stop_at_register_lines)
unfolding machine cell_of_a_stop stop_at_register_lines
cell_of_a_stop_text = refl

cell_of_a_stop_refused : KeepsLedger stop_at_register_setup cell_of_a_stop → ⊥
unfolding machine stop_at_register_setup cell_of_a_stop
cell_of_a_stop_refused h = differ (error_place 0) 1 8 refl refl refl h.same

-- the turn of the fetch in place of the load's
unfoldable turn_of_a_stop : Trace
unfolding stop_at_load_trace
turn_of_a_stop = with_core 0 (λ r. record r { end = Stop 0x09 0 0x05 }) stop_at_load_trace

turn_of_a_stop_text : report turn_of_a_stop ≡ text_lines (with_line 3 "core 0 stop 09 2 4 0 05" stop_at_load_lines)
unfolding machine turn_of_a_stop stop_at_load_lines
turn_of_a_stop_text = refl

turn_of_a_stop_refused : KeepsLedger stop_at_load_setup turn_of_a_stop → ⊥
unfolding machine stop_at_load_setup turn_of_a_stop
turn_of_a_stop_refused h = differ (error_place 0) 1 0 refl refl refl h.same

-- a load's bad word reported as that of a fetch
unfoldable type_of_a_stop : Trace
unfolding stop_at_load_trace
type_of_a_stop = with_core 0 (λ r. record r { end = Stop 0x01 1 0x05 }) stop_at_load_trace

type_of_a_stop_text : report type_of_a_stop ≡ text_lines (with_line 3 "core 0 stop 01 2 4 1 05" stop_at_load_lines)
unfolding machine type_of_a_stop stop_at_load_lines
type_of_a_stop_text = refl

type_of_a_stop_refused : KeepsLedger stop_at_load_setup type_of_a_stop → ⊥
unfolding machine stop_at_load_setup type_of_a_stop
type_of_a_stop_refused h = differ (error_type 0) 0x09 0x01 refl refl refl h.same

-- a lost store reported as one that reached memory
unfoldable lost_shown_as_stored : Trace
unfolding lost_byte_store_trace
lost_shown_as_stored = with_operation 2 (store 0 1 6 0x40001000 1 0x77) lost_byte_store_trace

lost_shown_as_stored_text : report lost_shown_as_stored ≡ text_lines (with_line 19 "S 0 1 6 40001000 77" lost_byte_store_lines)
unfolding machine lost_shown_as_stored lost_byte_store_lines
lost_shown_as_stored_text = refl

lost_shown_as_stored_refused : KeepsLedger lost_byte_store_setup lost_shown_as_stored → ⊥
unfolding machine lost_byte_store_setup lost_shown_as_stored
lost_shown_as_stored_refused h = differ (lost_count 0) 1 0 refl refl refl h.same

-- a store that reached memory reported as lost
unfoldable stored_shown_as_lost : Trace
unfolding store_buffering_trace
stored_shown_as_lost = with_operation 4 (lost 0 1 7 0x40001000 4 0x00000001) store_buffering_trace

stored_shown_as_lost_text : report stored_shown_as_lost ≡ text_lines (with_line 32 "X 0 1 7 40001000 00000001" store_buffering_lines)
unfolding machine stored_shown_as_lost store_buffering_lines
stored_shown_as_lost_text = refl

stored_shown_as_lost_refused : KeepsLedger store_buffering_setup stored_shown_as_lost → ⊥
unfolding machine store_buffering_setup stored_shown_as_lost
stored_shown_as_lost_refused h = differ (lost_count 0) 0 1 refl refl refl h.same

-- the counter of data tags
unfoldable tag_counter : Trace
unfolding struck_tag_trace
tag_counter = with_core 0 (λ r. record r { parity = parity 0 0 2 0 }) struck_tag_trace

tag_counter_text : report tag_counter ≡ text_lines (with_line 10 "parity 0 0 0 2 0" struck_tag_lines)
unfolding machine tag_counter struck_tag_lines
tag_counter_text = refl

tag_counter_refused : KeepsLedger struck_tag_setup tag_counter → ⊥
unfolding machine struck_tag_setup tag_counter
tag_counter_refused h = differ (data_tag_errors 0) 1 2 refl refl refl h.same

-- a counter that stops before 3
unfoldable tag_counter_of_four : Trace
unfolding tag_counter_stops_at_three_trace
tag_counter_of_four = with_core 0 (λ r. record r { parity = parity 2 0 0 0 }) tag_counter_stops_at_three_trace

tag_counter_of_four_text : report tag_counter_of_four ≡ text_lines (with_line 10 "parity 0 2 0 0 0" tag_counter_stops_at_three_lines)
unfolding machine tag_counter_of_four tag_counter_stops_at_three_lines
tag_counter_of_four_text = refl

tag_counter_of_four_refused : KeepsLedger tag_counter_stops_at_three_setup tag_counter_of_four → ⊥
unfolding machine tag_counter_stops_at_three_setup tag_counter_of_four
tag_counter_of_four_refused h = differ (fetch_tag_errors 0) 3 2 refl refl refl h.same

-- the counter of fetch bytes
unfoldable fetch_byte_counter : Trace
unfolding fetch_after_struck_byte_trace
fetch_byte_counter = with_core 0 (λ r. record r { parity = parity 0 0 0 0 }) fetch_after_struck_byte_trace

fetch_byte_counter_text : report fetch_byte_counter ≡ text_lines (with_line 10 "parity 0 0 0 0 0" fetch_after_struck_byte_lines)
unfolding machine fetch_byte_counter fetch_after_struck_byte_lines
fetch_byte_counter_text = refl

fetch_byte_counter_refused : KeepsLedger fetch_after_struck_byte_setup fetch_byte_counter → ⊥
unfolding machine fetch_after_struck_byte_setup fetch_byte_counter
fetch_byte_counter_refused h = differ (fetch_byte_errors 0) 2 0 refl refl refl h.same

-- a struck line counted by its bytes
unfoldable data_byte_counter : Trace
unfolding struck_line_trace
data_byte_counter = with_core 0 (λ r. record r { parity = parity 0 0 0 4 }) struck_line_trace

data_byte_counter_text : report data_byte_counter ≡ text_lines (with_line 10 "parity 0 0 0 0 4" struck_line_lines)
unfolding machine data_byte_counter struck_line_lines
data_byte_counter_text = refl

data_byte_counter_refused : KeepsLedger struck_line_setup data_byte_counter → ⊥
unfolding machine struck_line_setup data_byte_counter
data_byte_counter_refused h = differ (data_byte_errors 0) 1 4 refl refl refl h.same

-- a register without a value whose cell is good
unfoldable blank_without_cause : Trace
unfolding byte_out_trace
blank_without_cause = with_core 0 (λ r. record r { regs = at 8 None r.regs }) byte_out_trace

blank_without_cause_text : report blank_without_cause ≡ text_lines (with_line 6 "o 0 -------- 00000000 00000000 00000000 00000000 00000000 00000000 00000000" byte_out_lines)
unfolding machine blank_without_cause byte_out_lines
blank_without_cause_text = refl

blank_without_cause_refused : KeepsLedger byte_out_setup blank_without_cause → ⊥
unfolding machine byte_out_setup blank_without_cause
blank_without_cause_refused h = differ (register_blank 8 0) 0 1 refl refl refl h.same

-- a value of a register whose cell is bad
unfoldable value_of_a_bad_register : Trace
unfolding blank_register_trace
value_of_a_bad_register = with_core 0 (λ r. record r { regs = at 5 (Some 0x00000000) r.regs }) blank_register_trace

value_of_a_bad_register_text : report value_of_a_bad_register ≡ text_lines (with_line 5 "g 0 00000000 80000000 00000000 00000000 00000000 00000000 00000000 00000000" blank_register_lines)
unfolding machine value_of_a_bad_register blank_register_lines
value_of_a_bad_register_text = refl

value_of_a_bad_register_refused : KeepsLedger blank_register_setup value_of_a_bad_register → ⊥
unfolding machine blank_register_setup value_of_a_bad_register
value_of_a_bad_register_refused h = differ (register_blank 5 0) 1 0 refl refl refl h.same
