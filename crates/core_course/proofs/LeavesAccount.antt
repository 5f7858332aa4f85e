-- What there is to account for of an ended core is what its record reports.
use Rattle.std.proofs.Common.{◌≡◌, ◌∙◌, ◌+◌, ◌-◌, ◌==◌, ◌&&◌, ℕ, Bool, true, false, not, List, [], ◌∷◌, Some, None, is_none, length, map, filter, slice_index, refl, ap, sym, arith, inl, inr, if◌then◌else◌}
use Rattle.std.proofs.lemmas.Bool.{cases_Bool}
use Rattle.std.specs.List.{range_with_len}
use Rattle.core_laws.proofs.TurnCount.{turns_counted}
use Rattle.core_parts.specs.CoreValue.{CoreValue}
use Rattle.core_parts.specs.Phases.{state_of_core}
use Rattle.core_parts.specs.PortState.{arrays_in}
use Rattle.core_parts.specs.declared.phase.CoreState.TheVariants as states
use Rattle.core_course.proofs.Ended.{ground_ended, EndsOn}
use Rattle.core_course.proofs.Finishes.{phase_shown}
use Rattle.core_course.proofs.TurnReach.{is_at}
use Rattle.core_course.specs.Result.{register_shown, result_of}
use Rattle.lf_model.specs.Caches.Slot.{history_at}
use Rattle.lf_model.specs.Course.Arrays.{Arrays}
use Rattle.lf_model.specs.Course.Core.{is_store, is_store_stop}
use Rattle.lf_model.specs.Course.Course.{course}
use Rattle.lf_model.specs.Course.Progress.{Progress, ErrorTrap}
use Rattle.lf_model.specs.Flips.{is_bad_word}
use Rattle.lf_model.specs.Ledger.CoreAccount.{CoreAccount, drains_owed, lost_reported, parity_errors, is_blank, blank_registers, errors_reported, core_by_course, core_as_reported}
use Rattle.lf_model.specs.Ledger.Steps.{own_transfers}
use Rattle.lf_model.specs.Run.{Run}
use Rattle.lf_model.specs.State.{cell}
use Rattle.lf_model.specs.declared.bus.Entry.{Entry}
use Rattle.lf_model.specs.declared.bus.Transfer.{Transfer}
use Rattle.lf_model.specs.declared.trace.CoreEnd.{CoreEnd}
use Rattle.lf_model.specs.declared.trace.Four.{Four}

same_account : (owed owed' : ℕ) (errors errors' : List ErrorTrap) (lost lost' : List ℕ) (parity parity' : Four) (blank blank' : List Bool)
    → owed ≡ owed' → errors ≡ errors' → lost ≡ lost' → parity ≡ parity' → blank ≡ blank'
    → ◌≡◌ {A = CoreAccount} (record { owed = owed; errors = errors; lost = lost; parity = parity; blank = blank }) (record { owed = owed'; errors = errors'; lost = lost'; parity = parity'; blank = blank' })
same_account owed owed' errors errors' lost lost' parity parity' blank blank' a b c d e = rw (a, b, c, d, e) refl

-- ---- blanks

blank_if : (zero_ bad : Bool) (value : ℕ) → (not zero_ && bad) ≡ is_none (if zero_ then Some 0 else if bad then None else Some value)
blank_if true bad value = refl
blank_if false true value = refl
blank_if false false value = refl

blank_by : (v : CoreValue) (n : ℕ) → is_blank v.ports.cells v.arch.ctl.cwp n ≡ is_none (register_shown v n)
blank_by v n = blank_if (n == 0) (is_bad_word (history_at (cell v.arch.ctl.cwp n) v.ports.cells)) (slice_index v.values (cell v.arch.ctl.cwp n))

blanks : (v : CoreValue) (ns : List ℕ) → map (is_blank v.ports.cells v.arch.ctl.cwp) ns ≡ map is_none (map (register_shown v) ns)
blanks v [] = refl
blanks v (n ∷ ns) =
    let first = blank_by v n in
    let later = blanks v ns in cc

module _ (v : CoreValue) (end : CoreEnd) (log : List Entry) (ts : List Transfer) (k : Progress) (h : EndsOn v end log ts k) (shown : state_of_core v ≡ states.Ended end) where
  -- ---- what its seat says at the end

  pub arrays : arrays_in v.ports ≡ k.arrays
  arrays = elim (phase_shown v end shown) [
    | inl ended ↦ rw ended at h.is_seat.arrays
    | inr limit ↦ rw limit.0 at h.is_seat.arrays
  ]

  errors : k.errors ≡ errors_reported end v.steps k.turns
  errors = elim (phase_shown v end shown) [
    | inl ended ↦ h.is_seat.errors ∙ rw ended refl
    | inr limit ↦ h.is_seat.errors ∙ rw (limit.0, limit.1) refl
  ]

  waits : is_store_stop end ≡ false → k.drained + length v.ports.waiting ≡ k.stored
  waits no_store = elim (phase_shown v end shown) [
    | inl ended ↦ (rw ended at h.is_seat.waits) no_store
    | inr limit ↦ rw limit.0 at h.is_seat.waits
  ]

  -- ---- its account

  owes_none : k.owed + drains_owed (ground_ended v end) k ≡ 0
  owes_none = elim (cases_Bool (is_store_stop end)) [
    | inl so ↦ rw so (omega (arith, h.is_seat.owed))
    | inr not_so ↦ rw not_so (omega (arith, h.is_seat.owed, waits not_so, ap length h.none_wait))
  ]

  turns : k.turns ≡ length (own_transfers v.arch.core ts)
  turns = turns_counted (ground_ended v end) ts (v.steps - (course (ground_ended v end) ts).steps) k (is_at (ground_ended v end) ts v.steps k h.reaches)

  blank : blank_registers k ≡ map is_none (result_of v end).regs
  blank =
      ap (λ cells. map (is_blank cells k.run.state.ctl.cwp) (range_with_len 0 32)) (sym (ap (λ (a : Arrays). a.cells) arrays))
      ∙ (ap (λ (r : Run). map (is_blank v.ports.cells r.state.ctl.cwp) (range_with_len 0 32)) h.is_seat.run ∙ blanks v (range_with_len 0 32))

  pub account : (transfers : List Transfer) → own_transfers v.arch.core transfers ≡ own_transfers v.arch.core ts
      → core_by_course (ground_ended v end) k ≡ core_as_reported v.arch.core (result_of v end) v.ops transfers
  account transfers same = same_account _ 0 _ (errors_reported end v.steps (length (own_transfers v.arch.core transfers))) _ (lost_reported (filter is_store v.ops)) _ (parity_errors (arrays_in v.ports)) _
      (map is_none (result_of v end).regs)
      owes_none (errors ∙ ap (errors_reported end v.steps) (turns ∙ ap length (sym same))) h.lost (ap parity_errors (sym arrays)) blank
