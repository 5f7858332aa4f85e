-- Wrong reports with the first place at which their ledger fails, one for each kind of place.
use Rattle.std.specs.Prelude.{◌≡◌, refl, ◌∷◌, ◌++◌, [], Some}
use Rattle.std.proofs.lemmas.Bool.{false≢true}
use Rattle.lf_model.specs.Ledger.Rule.{LedgerFailsFirst}
use Rattle.lf_model.specs.Report.{report}
use Rattle.lf_model.specs.declared.bus.TurnKind.TheVariants as kinds
use Rattle.lf_model.specs.declared.bus.Why.TheVariants as whys
use Rattle.lf_model.specs.declared.place.Place.TheVariants.{Core, Order, Transfer, Flip, Final}
use Rattle.lf_model.specs.declared.setup.Setup.{Setup}
use Rattle.lf_model.specs.declared.trace.Fate.TheVariants as fates
use Rattle.lf_model.specs.declared.trace.Trace.{Trace}
use Rattle.lf_worked.specs.Edits.{with_operation, with_fate, with_line, with_new_line, without_line}
use Rattle.lf_worked.specs.Machine.{machine}
use Rattle.lf_worked.specs.Rows.{transfer, load, lost, text_lines}
use Rattle.lf_worked.proofs.FirstPlaces.{fails_at_steps, fails_at_core, fails_at_order, fails_at_transfer, fails_at_flip, fails_at_end}
use Rattle.lf_worked.proofs.Items.{differ, owed_there, lost_there, way_there, need_there, fate_there, status_there}
use Rattle.lf_worked.specs.CorrectedLoad.{corrected_load_setup, corrected_load_trace, corrected_load_lines}
use Rattle.lf_worked.specs.LimitWithLastDrains.{limit_with_last_drains_setup, limit_with_last_drains_trace, limit_with_last_drains_lines}
use Rattle.lf_worked.specs.ScrubbedWord.{scrubbed_word_setup, scrubbed_word_trace, scrubbed_word_lines}
use Rattle.lf_worked.specs.StopAtRegister.{stop_at_register_setup, stop_at_register_trace, stop_at_register_lines}
use Rattle.lf_worked.specs.Window.{window_setup, window_trace, window_lines}

-- a snoop turn after the halt
unfoldable pub snoop_after_the_halt : Trace
unfolding window_trace
snoop_after_the_halt = record window_trace { transfers = window_trace.transfers ++ transfer 4 0 10 kinds.Snoop whys.Window 0x00000000 0 0 0 ∷ [] }

snoop_after_the_halt_text : report snoop_after_the_halt ≡ text_lines (with_new_line 17 "t 4 0 10 snoop window 00000000 - -" (with_line 12 "transfers 5" window_lines))
unfolding machine snoop_after_the_halt window_lines
snoop_after_the_halt_text = refl

snoop_after_the_halt_place : LedgerFailsFirst window_setup snoop_after_the_halt (Some (Core 0))
unfolding machine window_setup snoop_after_the_halt
snoop_after_the_halt_place = fails_at_steps window_setup snoop_after_the_halt 0 refl refl (λ h. false≢true h.drains)

-- a last drain left out, and its store reported as one that reached memory: the core owes the drain
unfoldable pub last_drain_left_out : Trace
unfolding limit_with_last_drains_trace
last_drain_left_out = record limit_with_last_drains_trace {
  transfers =
      transfer 0 0 0 kinds.Fetch whys.Absent 0x40000000 0 8 0x0000000000000000
      ∷ transfer 1 0 4 kinds.Store whys.End 0x40001000 0 0 0 ∷ [];
}

last_drain_left_out_text : report last_drain_left_out ≡ text_lines (without_line 15 (with_line 12 "transfers 2" limit_with_last_drains_lines))
unfolding machine last_drain_left_out limit_with_last_drains_lines
last_drain_left_out_text = refl

last_drain_left_out_place : LedgerFailsFirst limit_with_last_drains_setup last_drain_left_out (Some (Core 0))
unfolding machine limit_with_last_drains_setup last_drain_left_out
last_drain_left_out_place = fails_at_core limit_with_last_drains_setup last_drain_left_out 0 refl refl (λ h. differ owed_there 1 0 refl refl refl h)

-- a last drain left out, and its store reported as lost: only an error trap that met a store loses it and those behind it
unfoldable pub waiting_store_as_lost : Trace
unfolding last_drain_left_out
waiting_store_as_lost = with_operation 1 (lost 0 1 3 0x40001004 4 0x40001000) last_drain_left_out

waiting_store_as_lost_text : report waiting_store_as_lost
    ≡ text_lines (without_line 15 (with_line 18 "X 0 1 3 40001004 40001000" (with_line 12 "transfers 2" limit_with_last_drains_lines)))
unfolding machine waiting_store_as_lost limit_with_last_drains_lines
waiting_store_as_lost_text = refl

waiting_store_as_lost_place : LedgerFailsFirst limit_with_last_drains_setup waiting_store_as_lost (Some (Core 0))
unfolding machine limit_with_last_drains_setup waiting_store_as_lost
waiting_store_as_lost_place = fails_at_core limit_with_last_drains_setup waiting_store_as_lost 0 refl refl (λ h. differ lost_there 0 1 refl refl refl h)

-- a way that the cache does not have
unfoldable way_of_no_line : Trace
unfolding corrected_load_trace
way_of_no_line = with_operation 0 (load 0 0 4 0x40001000 4 0x0000005A 7) corrected_load_trace

way_of_no_line_text : report way_of_no_line ≡ text_lines (with_line 16 "L 0 0 4 40001000 0000005A 7" corrected_load_lines)
unfolding machine way_of_no_line corrected_load_lines
way_of_no_line_text = refl

way_of_no_line_place : LedgerFailsFirst corrected_load_setup way_of_no_line (Some (Order 0))
unfolding machine corrected_load_setup way_of_no_line
way_of_no_line_place = fails_at_order corrected_load_setup way_of_no_line 0 refl refl (λ h. differ way_there 1 8 refl refl refl h)

-- the scrubber looks once more than it has turns: at that transfer, and not only by its count at the end
unfoldable one_look_too_many : Trace
unfolding scrubbed_word_trace
one_look_too_many = record scrubbed_word_trace {
  transfers = scrubbed_word_trace.transfers ++ transfer 4 8 2 kinds.Look whys.None 0x40001000 0 8 0x0000000000000000 ∷ [];
}

one_look_too_many_text : report one_look_too_many
    ≡ text_lines (with_new_line 17 "t 4 8 2 look - 40001000 - 0000000000000000" (with_line 12 "transfers 5" scrubbed_word_lines))
unfolding machine one_look_too_many scrubbed_word_lines
one_look_too_many_text = refl

one_look_too_many_place : LedgerFailsFirst scrubbed_word_setup one_look_too_many (Some (Transfer 4))
unfolding machine scrubbed_word_setup one_look_too_many
one_look_too_many_place = fails_at_transfer scrubbed_word_setup one_look_too_many 4 refl refl (λ h. differ need_there 0 6 refl refl refl h)

-- a stop by a register cell in the last step that is allowed, and a last drain of no store after it: the stop is right, and the
-- drain is not
unfoldable four_steps_allowed : Setup
unfolding stop_at_register_setup
four_steps_allowed = record stop_at_register_setup { config = record stop_at_register_setup.config { steps = 4 } }

unfoldable drain_after_a_register_stop : Trace
unfolding stop_at_register_trace
drain_after_a_register_stop = record stop_at_register_trace {
  transfers = stop_at_register_trace.transfers ++ transfer 1 0 4 kinds.Store whys.End 0x00000000 0 0 0 ∷ [];
}

drain_after_a_register_stop_text : report drain_after_a_register_stop
    ≡ text_lines (with_new_line 14 "t 1 0 4 store end 00000000 - --" (with_line 12 "transfers 2" stop_at_register_lines))
unfolding machine drain_after_a_register_stop stop_at_register_lines
drain_after_a_register_stop_text = refl

drain_after_a_register_stop_place : LedgerFailsFirst four_steps_allowed drain_after_a_register_stop (Some (Transfer 1))
unfolding machine stop_at_register_setup four_steps_allowed drain_after_a_register_stop
drain_after_a_register_stop_place =
    fails_at_transfer four_steps_allowed drain_after_a_register_stop 1 refl refl (λ h. differ need_there 0 3 refl refl refl h)

-- a read does not write memory
unfoldable repaired_by_a_read : Trace
unfolding corrected_load_trace
repaired_by_a_read = with_fate 0 fates.Repaired corrected_load_trace

repaired_by_a_read_text : report repaired_by_a_read ≡ text_lines (with_line 18 "f 0 repaired" corrected_load_lines)
unfolding machine repaired_by_a_read corrected_load_lines
repaired_by_a_read_text = refl

repaired_by_a_read_place : LedgerFailsFirst corrected_load_setup repaired_by_a_read (Some (Flip 0))
unfolding machine corrected_load_setup repaired_by_a_read
repaired_by_a_read_place = fails_at_flip corrected_load_setup repaired_by_a_read 0 refl refl (λ h. differ fate_there 7 3 refl refl refl h)

-- a note of AHBSTAT that the clean fix cleared
unfoldable note_that_stays : Trace
unfolding scrubbed_word_trace
note_that_stays = record scrubbed_word_trace { ahb_addr = 0x40001000; ahb_status = 0x00000342 }

note_that_stays_text : report note_that_stays ≡ text_lines (with_line 11 "ahb 40001000 00000342" scrubbed_word_lines)
unfolding machine note_that_stays scrubbed_word_lines
note_that_stays_text = refl

note_that_stays_place : LedgerFailsFirst scrubbed_word_setup note_that_stays (Some Final)
unfolding machine scrubbed_word_setup note_that_stays
note_that_stays_place = fails_at_end scrubbed_word_setup note_that_stays refl (λ h. differ status_there 0 0x342 refl refl refl h)
