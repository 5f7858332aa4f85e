-- Wrong reports that one part of the promise refuses, while all its other parts hold of them.
use Rattle.std.specs.Prelude.{◌≡◌, ◌&&◌, refl, ◌∷◌, [], true}
use Rattle.std.proofs.lemmas.Bool.{false≢true}
use Rattle.lf_model.specs.Ledger.Rule.{KeepsLedger}
use Rattle.lf_model.specs.Promise.Headline.{Headline}
use Rattle.lf_model.specs.Promise.Played.{IsRunOnThreads}
use Rattle.lf_model.specs.Promise.Regular.{IsRegular}
use Rattle.lf_model.specs.Report.{report}
use Rattle.lf_model.specs.declared.bus.TurnKind.TheVariants as kinds
use Rattle.lf_model.specs.declared.bus.Why.TheVariants as whys
use Rattle.lf_model.specs.declared.setup.Setup.{Setup}
use Rattle.lf_model.specs.declared.trace.Trace.{Trace}
use Rattle.lf_worked.specs.Edits.{with_transfer, with_operation, with_line}
use Rattle.lf_worked.specs.Machine.{machine}
use Rattle.lf_worked.specs.Rows.{code_at, data_at, transfer, load, lost, text_lines}
use Rattle.lf_worked.proofs.ExecutionTest.{is_execution}
use Rattle.lf_worked.proofs.Items.{differ, lost_count}
use Rattle.lf_worked.proofs.LedgerTest.{keeps_ledger}
use Rattle.lf_worked.proofs.Numerals.{lt}
use Rattle.lf_worked.proofs.PromiseTest.{is_headline, does_follow, is_regular}
use Rattle.lf_worked.proofs.WrongFirst.{snoop_after_the_halt}
use Rattle.lf_worked.specs.LimitWithLastDrains.{limit_with_last_drains_setup, limit_with_last_drains_events, limit_with_last_drains_trace, limit_with_last_drains_lines}
use Rattle.lf_worked.specs.ByteOfZero.{byte_of_zero_setup, byte_of_zero_trace, byte_of_zero_text}
use Rattle.lf_worked.specs.Window.{window_setup, window_events, window_trace, window_lines}

-- a snoop turn after the halt: the ledger
snoop_after_the_halt_refused : KeepsLedger window_setup snoop_after_the_halt → ⊥
unfolding machine window_setup snoop_after_the_halt
snoop_after_the_halt_refused h = false≢true (h.steps 0 (lt 0 1 refl)).drains

snoop_after_the_halt_passes : (is_headline window_setup snoop_after_the_halt
    && (does_follow window_setup window_events snoop_after_the_halt && is_regular snoop_after_the_halt)) ≡ true
unfolding machine window_setup window_events snoop_after_the_halt
snoop_after_the_halt_passes = refl

-- the drain at the end of a window reported as one by the schedule: a run on threads has no schedule
unfoldable window_by_schedule : Trace
unfolding window_trace
window_by_schedule = with_transfer 1 (transfer 1 0 3 kinds.Store whys.Sched 0x40001000 0 0 0) window_trace

window_by_schedule_text : report window_by_schedule ≡ text_lines (with_line 14 "t 1 0 3 store sched 40001000 - --" window_lines)
unfolding machine window_by_schedule window_lines
window_by_schedule_text = refl

window_by_schedule_refused : IsRunOnThreads window_setup window_by_schedule → ⊥
unfolding machine window_by_schedule
window_by_schedule_refused h = false≢true h.unscheduled

window_by_schedule_passes : (is_headline window_setup window_by_schedule
    && (keeps_ledger window_setup window_by_schedule && is_regular window_by_schedule)) ≡ true
unfolding machine window_setup window_by_schedule
window_by_schedule_passes = refl

-- a byte load's number 256 too high, of which the report shows the low byte: regular traces. The load is to %g0, so that no
-- register shows it.
unfoldable byte_to_no_register : Setup
unfolding byte_of_zero_setup
byte_to_no_register = record byte_of_zero_setup {
  image = record byte_of_zero_setup.image {
    segments =
        code_at 0x40000000 (
        0x03100004  -- sethi %hi(0x40001000), %g1
        ∷ 0xC0084000  -- ldub [%g1], %g0
        ∷ 0x91D02000  -- ta 0x0
        ∷ [])
        ∷ data_at 0x40001000 (0x00000000 ∷ []) ∷ [];
  };
}

unfoldable byte_256_too_high : Trace
unfolding byte_of_zero_trace
byte_256_too_high = with_operation 0 (load 0 0 3 0x40001000 1 0x100 0) byte_of_zero_trace

byte_256_too_high_text : report byte_256_too_high ≡ byte_of_zero_text
unfolding machine byte_256_too_high byte_of_zero_text
byte_256_too_high_text = refl

byte_256_too_high_refused : IsRegular byte_256_too_high → ⊥
unfolding machine byte_256_too_high
byte_256_too_high_refused h = false≢true h.operations

byte_256_too_high_passes : (is_headline byte_to_no_register byte_256_too_high
    && (keeps_ledger byte_to_no_register byte_256_too_high && does_follow byte_to_no_register [] byte_256_too_high)) ≡ true
unfolding machine byte_of_zero_setup byte_to_no_register byte_256_too_high
byte_256_too_high_passes = refl

-- a store that drained last, reported as lost: Result, since the core's end isn't that of a store's error trap, and the ledger,
-- since the store isn't lost
unfoldable last_drain_as_lost : Trace
unfolding limit_with_last_drains_trace
last_drain_as_lost = with_operation 1 (lost 0 1 3 0x40001004 4 0x40001000) limit_with_last_drains_trace

last_drain_as_lost_text : report last_drain_as_lost ≡ text_lines (with_line 18 "X 0 1 3 40001004 40001000" limit_with_last_drains_lines)
unfolding machine last_drain_as_lost limit_with_last_drains_lines
last_drain_as_lost_text = refl

last_drain_as_lost_refused : Headline limit_with_last_drains_setup last_drain_as_lost → ⊥
unfolding machine limit_with_last_drains_setup last_drain_as_lost
last_drain_as_lost_refused h = (h.results 0 (lt 0 1 refl)).lost (lt 0 1 refl)

last_drain_as_lost_refused_2 : KeepsLedger limit_with_last_drains_setup last_drain_as_lost → ⊥
unfolding machine limit_with_last_drains_setup last_drain_as_lost
last_drain_as_lost_refused_2 h = differ (lost_count 0) 0 1 refl refl refl h.same

last_drain_as_lost_passes : (is_execution limit_with_last_drains_setup last_drain_as_lost
    && (does_follow limit_with_last_drains_setup limit_with_last_drains_events last_drain_as_lost && is_regular last_drain_as_lost)) ≡ true
unfolding machine limit_with_last_drains_setup limit_with_last_drains_events last_drain_as_lost
last_drain_as_lost_passes = refl
