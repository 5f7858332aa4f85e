-- Wrong reports that the ledger refuses at a place of the order: entries of the log, steps, ways, and where loads come.
use Rattle.std.specs.Prelude.{◌≡◌, refl, ◌∷◌, []}
use Rattle.lf_model.specs.Ledger.Rule.{KeepsLedger}
use Rattle.lf_model.specs.Report.{report}
use Rattle.lf_model.specs.declared.trace.Trace.{Trace}
use Rattle.lf_worked.specs.Edits.{with_operation, with_line}
use Rattle.lf_worked.specs.Machine.{machine}
use Rattle.lf_worked.specs.Rows.{load, store, atomic, lost, text_lines}
use Rattle.lf_worked.proofs.Items.{differ, entry_core, retired_in, way_hit, entries_seen, is_sorted}
use Rattle.lf_worked.specs.AtomicDrains.{atomic_drains_setup, atomic_drains_trace, atomic_drains_lines}
use Rattle.lf_worked.specs.CorrectedLoad.{corrected_load_setup, corrected_load_trace, corrected_load_lines}
use Rattle.lf_worked.specs.LostByteStore.{lost_byte_store_setup, lost_byte_store_trace, lost_byte_store_lines}
use Rattle.lf_worked.specs.LostStoresOfTwoCores.{lost_stores_of_two_cores_setup, lost_stores_of_two_cores_trace, lost_stores_of_two_cores_lines}
use Rattle.lf_worked.specs.OwnStoreUpdates.{own_store_updates_setup, own_store_updates_trace, own_store_updates_lines}
use Rattle.lf_worked.specs.StoreBuffering.{store_buffering_setup, store_buffering_trace, store_buffering_lines}
use Rattle.lf_worked.specs.ThreeLinesInTwoWays.{three_lines_in_two_ways_setup, three_lines_in_two_ways_trace, three_lines_in_two_ways_lines}

-- two stores in another order than that of their transfers
unfoldable stores_exchanged : Trace
unfolding store_buffering_trace
stores_exchanged = with_operation 5 (store 0 1 7 0x40001000 4 0x00000001) (with_operation 4 (store 1 1 7 0x40001020 4 0x00000001) store_buffering_trace)

stores_exchanged_text : report stores_exchanged ≡ text_lines (with_line 33 "S 0 1 7 40001000 00000001" (with_line 32 "S 1 1 7 40001020 00000001" store_buffering_lines))
unfolding machine stores_exchanged store_buffering_lines
stores_exchanged_text = refl

stores_exchanged_refused : KeepsLedger store_buffering_setup stores_exchanged → ⊥
unfolding machine store_buffering_setup stores_exchanged
stores_exchanged_refused h = differ (entry_core 4) 1 2 refl refl refl h.same

-- a load that comes after an entry that its core had not seen
unfoldable load_behind_a_store : Trace
unfolding store_buffering_trace
load_behind_a_store = record store_buffering_trace {
  order =
      load 0 0 5 0x40001020 4 0x00000000 0
      ∷ load 1 0 5 0x40001000 4 0x00000000 0
      ∷ load 1 2 8 0x40001000 4 0x00000000 0
      ∷ store 0 1 7 0x40001000 4 0x00000001
      ∷ load 0 2 8 0x40001020 4 0x00000000 0
      ∷ store 1 1 7 0x40001020 4 0x00000001 ∷ [];
}

load_behind_a_store_text : report load_behind_a_store ≡ text_lines (with_line 32 "L 0 2 8 40001020 00000000 0" (with_line 31 "S 0 1 7 40001000 00000001" (with_line 30 "L 1 2 8 40001000 00000000 0" (with_line 29 "L 1 0 5 40001000 00000000 0" store_buffering_lines))))
unfolding machine load_behind_a_store store_buffering_lines
load_behind_a_store_text = refl

load_behind_a_store_refused : KeepsLedger store_buffering_setup load_behind_a_store → ⊥
unfolding machine store_buffering_setup load_behind_a_store
load_behind_a_store_refused h = differ (entries_seen 4) 0 1 refl refl refl h.same

-- two loads at one place, not sorted by core
unfoldable loads_exchanged : Trace
unfolding store_buffering_trace
loads_exchanged = with_operation 2 (load 0 2 8 0x40001020 4 0x00000000 0) (with_operation 1 (load 1 0 5 0x40001000 4 0x00000000 0) store_buffering_trace)

loads_exchanged_text : report loads_exchanged ≡ text_lines (with_line 30 "L 0 2 8 40001020 00000000 0" (with_line 29 "L 1 0 5 40001000 00000000 0" store_buffering_lines))
unfolding machine loads_exchanged store_buffering_lines
loads_exchanged_text = refl

loads_exchanged_refused : KeepsLedger store_buffering_setup loads_exchanged → ⊥
unfolding machine store_buffering_setup loads_exchanged
loads_exchanged_refused h = differ (is_sorted 2) 1 0 refl refl refl h.same

-- a lost store that does not come last
unfoldable lost_before_a_load : Trace
unfolding lost_byte_store_trace
lost_before_a_load = with_operation 2 (load 0 2 7 0x40001000 1 0x77 0) (with_operation 1 (lost 0 1 6 0x40001000 1 0x77) lost_byte_store_trace)

lost_before_a_load_text : report lost_before_a_load ≡ text_lines (with_line 19 "L 0 2 7 40001000 77 0" (with_line 18 "X 0 1 6 40001000 77" lost_byte_store_lines))
unfolding machine lost_before_a_load lost_byte_store_lines
lost_before_a_load_text = refl

lost_before_a_load_refused : KeepsLedger lost_byte_store_setup lost_before_a_load → ⊥
unfolding machine lost_byte_store_setup lost_before_a_load
lost_before_a_load_refused h = differ (is_sorted 1) 1 0 refl refl refl h.same

-- lost stores not sorted by core
unfoldable lost_exchanged : Trace
unfolding lost_stores_of_two_cores_trace
lost_exchanged = with_operation 2 (lost 0 0 2 0x40001000 1 0x00) (with_operation 0 (lost 1 0 2 0x40001000 1 0x00) lost_stores_of_two_cores_trace)

lost_exchanged_text : report lost_exchanged ≡ text_lines (with_line 28 "X 0 0 2 40001000 00" (with_line 27 "X 0 1 3 40001004 00000000" (with_line 26 "X 1 0 2 40001000 00" lost_stores_of_two_cores_lines)))
unfolding machine lost_exchanged lost_stores_of_two_cores_lines
lost_exchanged_text = refl

lost_exchanged_refused : KeepsLedger lost_stores_of_two_cores_setup lost_exchanged → ⊥
unfolding machine lost_stores_of_two_cores_setup lost_exchanged
lost_exchanged_refused h = differ (is_sorted 1) 1 0 refl refl refl h.same

-- a load reported in the step of its fill
unfoldable step_of_a_load : Trace
unfolding corrected_load_trace
step_of_a_load = with_operation 0 (load 0 0 3 0x40001000 4 0x0000005A 0) corrected_load_trace

step_of_a_load_text : report step_of_a_load ≡ text_lines (with_line 16 "L 0 0 3 40001000 0000005A 0" corrected_load_lines)
unfolding machine step_of_a_load corrected_load_lines
step_of_a_load_text = refl

step_of_a_load_refused : KeepsLedger corrected_load_setup step_of_a_load → ⊥
unfolding machine corrected_load_setup step_of_a_load
step_of_a_load_refused h = differ (retired_in 0) 4 3 refl refl refl h.same

-- a store reported in the step of its drain
unfoldable step_of_a_store : Trace
unfolding own_store_updates_trace
step_of_a_store = with_operation 2 (store 0 1 7 0x40001001 1 0x77) own_store_updates_trace

step_of_a_store_text : report step_of_a_store ≡ text_lines (with_line 19 "S 0 1 7 40001001 77" own_store_updates_lines)
unfolding machine step_of_a_store own_store_updates_lines
step_of_a_store_text = refl

step_of_a_store_refused : KeepsLedger own_store_updates_setup step_of_a_store → ⊥
unfolding machine own_store_updates_setup step_of_a_store
step_of_a_store_refused h = differ (retired_in 2) 5 7 refl refl refl h.same

-- an atomic reported in the step of the drain before it
unfoldable step_of_an_atomic : Trace
unfolding atomic_drains_trace
step_of_an_atomic = with_operation 1 (atomic 0 1 3 0x40001000 1 0x40 0xFF) atomic_drains_trace

step_of_an_atomic_text : report step_of_an_atomic ≡ text_lines (with_line 19 "A 0 1 3 40001000 40 FF" atomic_drains_lines)
unfolding machine step_of_an_atomic atomic_drains_lines
step_of_an_atomic_text = refl

step_of_an_atomic_refused : KeepsLedger atomic_drains_setup step_of_an_atomic → ⊥
unfolding machine atomic_drains_setup step_of_an_atomic
step_of_an_atomic_refused h = differ (retired_in 1) 4 3 refl refl refl h.same

-- the other way
unfoldable way_of_a_load : Trace
unfolding three_lines_in_two_ways_trace
way_of_a_load = with_operation 4 (load 0 4 9 0x40001000 4 0x00000001 1) three_lines_in_two_ways_trace

way_of_a_load_text : report way_of_a_load ≡ text_lines (with_line 23 "L 0 4 9 40001000 00000001 1" three_lines_in_two_ways_lines)
unfolding machine way_of_a_load three_lines_in_two_ways_lines
way_of_a_load_text = refl

way_of_a_load_refused : KeepsLedger three_lines_in_two_ways_setup way_of_a_load → ⊥
unfolding machine three_lines_in_two_ways_setup way_of_a_load
way_of_a_load_refused h = differ (way_hit 4) 1 2 refl refl refl h.same
