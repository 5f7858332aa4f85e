-- Reports of a run by another schedule. But for their schedule they are right.
use Rattle.std.specs.Prelude.{◌≡◌, refl, ◌∷◌, []}
use Rattle.lf_model.specs.Ledger.Rule.{KeepsLedger}
use Rattle.lf_model.specs.Promise.Follows.{Follows}
use Rattle.lf_model.specs.Report.{report}
use Rattle.lf_model.specs.declared.bus.TurnKind.TheVariants as kinds
use Rattle.lf_model.specs.declared.bus.Why.TheVariants as whys
use Rattle.lf_model.specs.declared.trace.Trace.{Trace}
use Rattle.lf_worked.specs.Edits.{with_transfer, with_line}
use Rattle.lf_worked.specs.Machine.{machine}
use Rattle.lf_worked.specs.Rows.{transfer, steps_of, drains_of, scrubs, text_lines}
use Rattle.lf_worked.proofs.Items.{differ, master_at, scheduled_at}
use Rattle.lf_worked.proofs.LedgerTest.{ledger}
use Rattle.lf_worked.specs.CleanFix.{clean_fix_setup, clean_fix_trace}
use Rattle.lf_worked.specs.DrainBySchedule.{drain_by_schedule_setup, drain_by_schedule_trace}
use Rattle.lf_worked.specs.MessagePassing.{message_passing_setup, message_passing_trace}
use Rattle.lf_worked.specs.ScrubbedWord.{scrubbed_word_setup, scrubbed_word_trace}
use Rattle.lf_worked.specs.SnoopedLine.{snooped_line_setup, snooped_line_events, snooped_line_trace, snooped_line_lines}
use Rattle.lf_worked.specs.ThreeCoresSwap.{three_cores_swap_setup, three_cores_swap_trace}

-- with no schedule core 0 makes the first turn, and not core 1
passes_over_the_schedule : Follows message_passing_setup [] message_passing_trace → ⊥
unfolding machine message_passing_setup message_passing_trace
passes_over_the_schedule h = differ (master_at 0) 0 1 refl refl refl h.turns

-- one step of core 1 more, and its load of the flag comes before the drains of core 0
one_step_more : Follows message_passing_setup (steps_of 1 10 ∷ steps_of 0 11 ∷ []) message_passing_trace → ⊥
unfolding machine message_passing_setup message_passing_trace
one_step_more h = differ (master_at 3) 1 0 refl refl refl h.turns

-- the schedule asks for no drain
drains_unasked : Follows drain_by_schedule_setup (steps_of 0 6 ∷ []) drain_by_schedule_trace → ⊥
unfolding machine drain_by_schedule_setup drain_by_schedule_trace
drains_unasked h = differ (scheduled_at 1) 0 1 refl refl refl h.turns

-- the schedule asks for a drain, which is reported by another cause
drain_asked : Follows snooped_line_setup (steps_of 1 8 ∷ steps_of 0 8 ∷ drains_of 0 1 ∷ steps_of 0 1 ∷ []) snooped_line_trace → ⊥
unfolding machine snooped_line_setup snooped_line_trace
drain_asked h = differ (scheduled_at 6) 1 0 refl refl refl h.turns

-- the scrubber comes last in a round, and not first
scrubber_first : Follows scrubbed_word_setup [] scrubbed_word_trace → ⊥
unfolding machine scrubbed_word_setup scrubbed_word_trace
scrubber_first h = differ (master_at 0) 0 8 refl refl refl h.turns

-- a scrub too early
scrub_too_early : Follows clean_fix_setup (scrubs 2 ∷ steps_of 0 3 ∷ drains_of 0 1 ∷ []) clean_fix_trace → ⊥
unfolding machine clean_fix_setup clean_fix_trace
scrub_too_early h = differ (master_at 1) 8 0 refl refl refl h.turns

-- two cores exchanged
cores_exchanged : Follows three_cores_swap_setup (steps_of 1 4 ∷ steps_of 0 2 ∷ steps_of 2 4 ∷ []) three_cores_swap_trace → ⊥
unfolding machine three_cores_swap_setup three_cores_swap_trace
cores_exchanged h = differ (master_at 0) 1 2 refl refl refl h.turns

-- a drain at the end of a window reported as one by the schedule: it keeps the ledger, as the schedule may have asked for it
unfoldable window_as_scheduled : Trace
unfolding snooped_line_trace
window_as_scheduled = with_transfer 6 (transfer 6 0 8 kinds.Store whys.Sched 0x40001000 0 0 0) snooped_line_trace

window_as_scheduled_text : report window_as_scheduled ≡ text_lines (with_line 27 "t 6 0 8 store sched 40001000 - --" snooped_line_lines)
unfolding machine window_as_scheduled snooped_line_lines
window_as_scheduled_text = refl

window_as_scheduled_ledger : KeepsLedger snooped_line_setup window_as_scheduled
unfolding machine snooped_line_setup window_as_scheduled
window_as_scheduled_ledger = ledger snooped_line_setup window_as_scheduled refl

-- but this schedule did not
window_as_scheduled_refused : Follows snooped_line_setup snooped_line_events window_as_scheduled → ⊥
unfolding machine snooped_line_setup snooped_line_events window_as_scheduled
window_as_scheduled_refused h = differ (scheduled_at 6) 0 1 refl refl refl h.turns
