-- Wrong reports that the steps of a core and its transfers refuse: each transfer in a step of its own, the last drains after
-- all steps, and as many steps that retire an instruction as were counted.
use Rattle.std.specs.Prelude.{◌≡◌, refl, ◌∷◌, []}
use Rattle.std.proofs.lemmas.Bool.{false≢true}
use Rattle.lf_model.specs.Ledger.Rule.{KeepsLedger}
use Rattle.lf_model.specs.Report.{report}
use Rattle.lf_model.specs.declared.trace.Trace.{Trace}
use Rattle.lf_worked.specs.Edits.{with_core, with_transfer, with_line, with_new_line}
use Rattle.lf_worked.specs.Machine.{machine}
use Rattle.lf_worked.specs.Rows.{transfer, text_lines}
use Rattle.lf_worked.proofs.Numerals.{apart, lt}
use Rattle.lf_worked.proofs.Items.{differ, first_turn}
use Rattle.lf_model.specs.declared.bus.TurnKind.TheVariants as kinds
use Rattle.lf_model.specs.declared.bus.Why.TheVariants as whys
use Rattle.lf_worked.specs.CorrectedLoad.{corrected_load_setup, corrected_load_trace, corrected_load_lines}
use Rattle.lf_worked.specs.LimitWithLastDrains.{limit_with_last_drains_setup, limit_with_last_drains_trace, limit_with_last_drains_lines}
use Rattle.lf_worked.specs.OwnStoreUpdates.{own_store_updates_setup, own_store_updates_trace, own_store_updates_lines}
use Rattle.lf_worked.specs.ThreeSteps.{three_steps_setup, three_steps_trace, three_steps_lines}

-- two transfers reported in one step
unfoldable two_in_one_step : Trace
unfolding corrected_load_trace
two_in_one_step = with_transfer 1 (transfer 1 0 0 kinds.Load whys.Absent 0x40001000 0 8 0x4F00000000000000) corrected_load_trace

two_in_one_step_text : report two_in_one_step ≡ text_lines (with_line 14 "t 1 0 0 load absent 40001000 0 4F00000000000000" corrected_load_lines)
unfolding machine two_in_one_step corrected_load_lines
two_in_one_step_text = refl

two_in_one_step_refused : KeepsLedger corrected_load_setup two_in_one_step → ⊥
unfolding machine corrected_load_setup two_in_one_step
two_in_one_step_refused h = false≢true (h.steps 0 (lt 0 1 refl)).ascending

-- a second fill, so that one step of three retires and not two
unfoldable fill_nobody_made : Trace
unfolding three_steps_trace
fill_nobody_made = record three_steps_trace {
  transfers =
      transfer 0 0 0 kinds.Fetch whys.Absent 0x40000000 0 8 0x0000000000000000
      ∷ transfer 1 0 2 kinds.Fetch whys.Absent 0x40000000 0 8 0x0000000000000000 ∷ [];
}

fill_nobody_made_text : report fill_nobody_made ≡ text_lines (with_new_line 14 "t 1 0 2 fetch absent 40000000 0 0000000000000000" (with_line 12 "transfers 2" three_steps_lines))
unfolding machine fill_nobody_made three_steps_lines
fill_nobody_made_text = refl

fill_nobody_made_refused : KeepsLedger three_steps_setup fill_nobody_made → ⊥
unfolding machine three_steps_setup fill_nobody_made
fill_nobody_made_refused h = apart 1 2 refl (h.steps 0 (lt 0 1 refl)).retired

-- a last drain reported by another cause than `end`
unfoldable last_drain_by_window : Trace
unfolding limit_with_last_drains_trace
last_drain_by_window = with_transfer 1 (transfer 1 0 4 kinds.Store whys.Window 0x40001000 0 0 0) limit_with_last_drains_trace

last_drain_by_window_text : report last_drain_by_window ≡ text_lines (with_line 14 "t 1 0 4 store window 40001000 - --" limit_with_last_drains_lines)
unfolding machine last_drain_by_window limit_with_last_drains_lines
last_drain_by_window_text = refl

last_drain_by_window_refused : KeepsLedger limit_with_last_drains_setup last_drain_by_window → ⊥
unfolding machine limit_with_last_drains_setup last_drain_by_window
last_drain_by_window_refused h = false≢true (h.steps 0 (lt 0 1 refl)).drains

-- a last drain of a core that halted before its last step
unfoldable drain_behind_a_halt : Trace
unfolding own_store_updates_trace
drain_behind_a_halt = with_transfer 2 (transfer 2 0 100000 kinds.Store whys.End 0x40001001 0 1 0x0000000000000000) (with_core 0 (λ r. record r { steps = 8 }) own_store_updates_trace)

drain_behind_a_halt_text : report drain_behind_a_halt ≡ text_lines (with_line 3 "core 0 halt 80 6 8" (with_line 15 "t 2 0 100000 store end 40001001 - 00" own_store_updates_lines))
unfolding machine drain_behind_a_halt own_store_updates_lines
drain_behind_a_halt_text = refl

drain_behind_a_halt_refused : KeepsLedger own_store_updates_setup drain_behind_a_halt → ⊥
unfolding machine own_store_updates_setup drain_behind_a_halt
drain_behind_a_halt_refused h = false≢true (h.steps 0 (lt 0 1 refl)).all_made

-- a core that halts in the step of a drain, which retires nothing
unfoldable halts_in_a_drain : Trace
unfolding own_store_updates_trace
halts_in_a_drain = with_transfer 2 (transfer 2 0 8 kinds.Store whys.End 0x40001001 0 1 0x0000000000000000) own_store_updates_trace

halts_in_a_drain_text : report halts_in_a_drain ≡ text_lines (with_line 15 "t 2 0 8 store end 40001001 - 00" own_store_updates_lines)
unfolding machine halts_in_a_drain own_store_updates_lines
halts_in_a_drain_text = refl

halts_in_a_drain_refused : KeepsLedger own_store_updates_setup halts_in_a_drain → ⊥
unfolding machine own_store_updates_setup halts_in_a_drain
halts_in_a_drain_refused h = false≢true (h.steps 0 (lt 0 1 refl)).halting

-- a last drain reported before the first step's fill
unfoldable drains_out_of_order : Trace
unfolding limit_with_last_drains_trace
drains_out_of_order = with_transfer 1 (transfer 1 0 0 kinds.Fetch whys.Absent 0x40000000 0 8 0x0000000000000000) (with_transfer 0 (transfer 0 0 4 kinds.Store whys.End 0x40001000 0 0 0) limit_with_last_drains_trace)

drains_out_of_order_text : report drains_out_of_order ≡ text_lines (with_line 14 "t 1 0 0 fetch absent 40000000 0 0000000000000000" (with_line 13 "t 0 0 4 store end 40001000 - --" limit_with_last_drains_lines))
unfolding machine drains_out_of_order limit_with_last_drains_lines
drains_out_of_order_text = refl

drains_out_of_order_refused : KeepsLedger limit_with_last_drains_setup drains_out_of_order → ⊥
unfolding machine limit_with_last_drains_setup drains_out_of_order
drains_out_of_order_refused h = differ first_turn 0 1 refl refl refl (h.steps 0 (lt 0 1 refl)).order
