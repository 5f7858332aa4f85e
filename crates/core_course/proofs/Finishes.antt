-- What an ended core leaves is right beside the log and all transfers: its thread and its result.
use Rattle.std.proofs.Common.{◌≡◌, ◌∙◌, ◌+◌, ◌<◌, ◌≤◌, ◌==◌, ℕ, zero, suc, Bool, true, false, nat_lt, List, [], ◌∷◌, Some, None, IfSome, length, map, count_by, slice_get, slice_index, refl, ap, arith, inl, inr, ◌⊎◌, if◌then◌else◌}
use Rattle.std.proofs.lemmas.Bool.{cases_Bool, ltb-true, eqb-true}
use Rattle.std.proofs.lemmas.List.Sums.{count_by-le-length}
use Rattle.std.proofs.lemmas.Option.{slice_get-map}
use Rattle.std.specs.List.{AllByRecursion as Each, range_with_len}
use Rattle.core_laws.proofs.ListLemmas.{count_append, each_passes}
use Rattle.core_laws.proofs.Runs.{shows}
use Rattle.core_laws.proofs.Steps.{ascends_few}
use Rattle.core_parts.specs.CoreValue.{CoreValue}
use Rattle.core_parts.specs.Phases.{halt_by, state_by, state_of_core}
use Rattle.core_parts.specs.declared.phase.CoreState.TheVariants as states
use Rattle.core_parts.specs.declared.phase.Phase.{Phase}
use Rattle.core_parts.specs.declared.phase.Phase.TheVariants.{Between, Begun, Needs, Ended}
use Rattle.core_course.specs.Result.{register_shown, result_of}
use Rattle.lf_model.proofs.EachLemmas.{each_weaker}
use Rattle.lf_model.specs.Caches.Slot.{history_at}
use Rattle.lf_model.specs.Course.Core.{is_store_stop}
use Rattle.lf_model.specs.Flips.{is_bad_word}
use Rattle.lf_model.specs.Ledger.Steps.{in_steps, retires_instruction, HasSteps}
use Rattle.lf_model.specs.Operation.{is_lost}
use Rattle.lf_model.specs.Records.CoreRules.{EndedCore}
use Rattle.lf_model.specs.Results.{halt_of, LosesStores, ShowsRegisters}
use Rattle.lf_model.specs.State.{State, cell, register}
use Rattle.lf_model.specs.declared.bus.Transfer.{Transfer}
use Rattle.lf_model.specs.declared.trace.CoreEnd.{CoreEnd}
use Rattle.lf_model.specs.declared.trace.CoreEnd.TheVariants.{Halt, Stop, Limit}
use Rattle.lf_model.specs.declared.trace.Op.{Op}

-- ---- the ended core

-- with all transfers
abbrev pub ended_core : CoreValue → CoreEnd → List Transfer → EndedCore
ended_core v end transfers = record { core = v.arch.core; result = result_of v end; ops = v.ops; transfers = transfers }

-- no more instructions than steps
pub few_retired : (v : CoreValue) (end : CoreEnd) (own : List Transfer) → HasSteps v.setup (result_of v end) own → v.arch.n ≤ v.steps
few_retired v end own h =
    let below : Each (λ (t : Transfer). t.step < v.steps) (in_steps v.steps own) =
    each_weaker (λ (t : Transfer). nat_lt t.step v.steps ≡ true) (λ (t : Transfer). t.step < v.steps) (in_steps v.steps own) (λ t is. ltb-true t.step v.steps is)
    (each_passes (λ (t : Transfer). nat_lt t.step v.steps) own) in
    omega (arith, h.retired, ascends_few 0 v.steps (in_steps v.steps own) (omega arith) h.ascending below, count_by-le-length (retires_instruction end) (in_steps v.steps own))

-- ---- its registers

range_at : (from len n : ℕ) → n < len → slice_get (range_with_len from len) n ≡ Some (from + n)
range_at from zero n within = absurd (omega (arith, within))
range_at from (suc len) zero within = ap Some (omega arith)
range_at from (suc len) (suc n) within = range_at (from + 1) len n (omega (arith, within)) ∙ ap Some (omega arith)

from_zero : (n : ℕ) → 0 + n ≡ n
from_zero n = omega arith

shown_cell : (bad : Bool) (value : ℕ) → IfSome (if bad then None else Some value) (λ shown. shown ≡ value)
shown_cell true value = tt
shown_cell false value = refl

module _ (v : CoreValue) (s : State) (cells : s.cells ≡ v.values) (window : s.ctl.cwp ≡ v.arch.ctl.cwp) where
  shown_by : (n : ℕ) (zero_ : Bool) → (n == 0) ≡ zero_ → IfSome (register_shown v n) (λ value. value ≡ register s n)
  shown_by n true is = rw is refl
  shown_by n false is = rw (is, cells, window) (shown_cell (is_bad_word (history_at (cell v.arch.ctl.cwp n) v.ports.cells)) (slice_index v.values (cell v.arch.ctl.cwp n)))

  pub shows_registers : ShowsRegisters s (map (register_shown v) (range_with_len 0 32))
  shows_registers n within = rw (slice_get-map (register_shown v) (range_with_len 0 32) n, range_at 0 32 n within ∙ ap Some (from_zero n)) (shown_by n (n == 0) refl)

-- ---- its end

halt_shown : (end : CoreEnd) → halt_by (Ended end) ≡ halt_of end
halt_shown (Halt tt_) = refl
halt_shown (Stop tt_ place syn) = refl
halt_shown Limit = refl

loses_by : (end : CoreEnd) → is_store_stop end ≡ true → LosesStores end
loses_by (Stop tt_ place syn) so = eqb-true tt_ 0x2B so
loses_by (Halt tt_) so = absurd (cc)
loses_by Limit so = absurd (cc)

none_counted : (ops : List Op) → Each (λ o. is_lost o ≡ false) ops → count_by is_lost ops ≡ 0
none_counted [] h = refl
none_counted (o ∷ ops) h =
    let none : count_by is_lost (o ∷ []) ≡ 0 = rw h.0 refl in
    omega (arith, none, none_counted ops h.1, count_append is_lost (o ∷ []) ops)

-- stores are lost just where the end says so
pub loses : (end : CoreEnd) (ops : List Op) → (is_store_stop end ≡ false → Each (λ o. is_lost o ≡ false) ops) → 0 < count_by is_lost ops → LosesStores end
loses end ops none some = elim (cases_Bool (is_store_stop end)) [
  | inl so ↦ loses_by end so
  | inr not_so ↦ absurd (omega (arith, some, none_counted ops (none not_so)))
]

-- its phase says its end, or it is between steps and shows the limit
module _ (v : CoreValue) (end : CoreEnd) where
  limit_by : (left none : Bool) → nat_lt v.steps v.setup.config.steps ≡ left → (length v.ports.waiting == 0) ≡ none → state_by v Between ≡ states.Ended end → end ≡ Limit
  limit_by true none is is' shows = let no : states.Running ≡ states.Ended end = rw is at shows in absurd (cc)
  limit_by false false is is' shows = let no : states.Draining ≡ states.Ended end = rw (is, is') at shows in absurd (cc)
  limit_by false true is is' shows = let limit : states.Ended Limit ≡ states.Ended end = rw (is, is') at shows in cc

  shown_by_phase : (phase : Phase) → state_by v phase ≡ states.Ended end → (phase ≡ Ended end) ⊎ ((phase ≡ Between) × (end ≡ Limit))
  shown_by_phase Between shows = inr (refl, limit_by (nat_lt v.steps v.setup.config.steps) (length v.ports.waiting == 0) refl refl shows)
  shown_by_phase Begun shows = absurd (cc)
  shown_by_phase (Needs turn) shows = absurd (cc)
  shown_by_phase (Ended e) shows = let same : e ≡ end = cc in inl (ap Ended same)

  pub phase_shown : state_of_core v ≡ states.Ended end → (v.phase ≡ Ended end) ⊎ ((v.phase ≡ Between) × (end ≡ Limit))
  phase_shown shows = shown_by_phase v.phase shows

  pub halt_is : state_of_core v ≡ states.Ended end → halt_by v.phase ≡ halt_of end
  halt_is shows = elim (phase_shown shows) [
    | inl ended ↦ rw ended (halt_shown end)
    | inr limit ↦ rw (limit.0, limit.1) refl
  ]
