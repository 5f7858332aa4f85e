-- The steps of a running core and its transfers, step by step.
use Rattle.std.proofs.Common.{◌≡◌, ◌+◌, ◌<◌, ◌≤◌, ◌==◌, ◌++◌, ℕ, Bool, true, false, nat_le, List, [], ◌∷◌, length, refl, ap, sym, subst, arith, inl, inr}
use Rattle.std.proofs.lemmas.Bool.{leb-true, le-leb, eqb-true, eq-eqb, or_cases, or_left, or_right, and_parts, and_from}
use Rattle.std.proofs.lemmas.List.{length_push, nil_from_length}
use Rattle.std.specs.Int.{from_bool}
use Rattle.std.specs.List.{count_by}
use Rattle.std.specs.List.{AllByRecursion as Each}
use Rattle.core_laws.proofs.ListLemmas.{count_append}
use Rattle.core_laws.specs.StepsSoFar.{HasStepsSoFar}
use Rattle.lf_model.proofs.EachLemmas.{each_append, each_weaker}
use Rattle.lf_model.specs.Ledger.Steps.{ascends_from, is_last_drain, retires_instruction}
use Rattle.lf_model.specs.Names.{same_kind}
use Rattle.lf_model.specs.declared.bus.Transfer.{Transfer}
use Rattle.lf_model.specs.declared.bus.TurnKind.TheVariants.{Atomic}
use Rattle.lf_model.specs.declared.trace.CoreEnd.TheVariants.{Limit}

-- ---- steps that ascend

pub ascends_more : (from : ℕ) (ts : List Transfer) (t : Transfer) → from ≤ t.step → ascends_from from ts ≡ true → Each (λ (u : Transfer). u.step < t.step) ts
    → ascends_from from (ts ++ t ∷ []) ≡ true
ascends_more from [] t le up below = and_from (nat_le from t.step) true (le-leb from t.step le) refl
ascends_more from (u ∷ ts) t le up below =
    let parts = and_parts (nat_le from u.step) (ascends_from (u.step + 1) ts) up in
    and_from (nat_le from u.step) (ascends_from (u.step + 1) (ts ++ t ∷ [])) parts.0 (ascends_more (u.step + 1) ts t (omega (arith, below.0)) parts.1 below.1)

-- there are no more of them than steps
pub ascends_few : (from steps : ℕ) (ts : List Transfer) → from ≤ steps → ascends_from from ts ≡ true → Each (λ (t : Transfer). t.step < steps) ts → from + length ts ≤ steps
ascends_few from steps [] le up below = omega arith
ascends_few from steps (t ∷ ts) le up below =
    let parts = and_parts (nat_le from t.step) (ascends_from (t.step + 1) ts) up in
    omega (arith, leb-true from t.step parts.0, below.0, ascends_few (t.step + 1) steps ts (omega (arith, below.0)) parts.1 below.1)

-- ---- step by step

pub steps_start : (limit waiting : ℕ) → waiting ≤ 8 → HasStepsSoFar limit 0 0 waiting [] []
steps_start limit waiting few = record {
  allowed = omega arith;
  in_steps = tt;
  ascending = refl;
  drains = tt;
  all_made = refl;
  few = omega arith;
  retired = refl;
}

atomic_counts : (atomic : Bool) (t : Transfer) → same_kind t.kind Atomic ≡ atomic → count_by (retires_instruction Limit) (t ∷ []) ≡ from_bool (same_kind t.kind Atomic)
atomic_counts true t e = rw e refl
atomic_counts false t e = rw e refl

module _ (limit steps n waiting : ℕ) (within past : List Transfer) (h : HasStepsSoFar limit steps n waiting within past) where
  -- before the last step none drained after it
  pub none_past : steps < limit → past ≡ []
  none_past below = elim (or_cases (length past == 0) (steps == limit) h.all_made) [
    | inl none ↦ nil_from_length past (eqb-true (length past) 0 none)
    | inr last ↦ let same = eqb-true steps limit last in absurd (omega arith)
  ]

  in_later : Each (λ (t : Transfer). t.step < steps + 1) within
  in_later = each_weaker (λ (t : Transfer). t.step < steps) (λ (t : Transfer). t.step < steps + 1) within (λ t below. omega (arith, below)) h.in_steps

  -- a step without a turn retires an instruction
  pub steps_local : (waiting' : ℕ) → steps < limit → waiting' ≤ 8 → HasStepsSoFar limit (steps + 1) (n + 1) waiting' within past
  steps_local waiting' below few = record {
    allowed = omega arith;
    in_steps = in_later;
    ascending = h.ascending;
    drains = h.drains;
    all_made = or_left (length past == 0) (steps + 1 == limit) (eq-eqb (length past) 0 (ap length (none_past below)));
    few = omega (arith, few, ap length (none_past below));
    retired = omega (arith, h.retired);
  }

  -- a step with a turn retires one if it is an atomic's
  pub steps_turn : (t : Transfer) (waiting' : ℕ) → t.step ≡ steps → steps < limit → waiting' ≤ 8
      → HasStepsSoFar limit (steps + 1) (n + from_bool (same_kind t.kind Atomic)) waiting' (within ++ t ∷ []) past
  steps_turn t waiting' step below few = record {
    allowed = omega arith;
    in_steps = each_append (λ (u : Transfer). u.step < steps + 1) within (t ∷ []) in_later (omega (arith, step), tt);
    ascending = ascends_more 0 within t (omega arith) h.ascending (subst (λ s. Each (λ (u : Transfer). u.step < s) within) (sym step) h.in_steps);
    drains = h.drains;
    all_made = or_left (length past == 0) (steps + 1 == limit) (eq-eqb (length past) 0 (ap length (none_past below)));
    few = omega (arith, few, ap length (none_past below));
    retired = omega (arith, h.retired, length_push within t, count_append (retires_instruction Limit) within (t ∷ []), atomic_counts (same_kind t.kind Atomic) t refl);
  }

  -- after the last step a store drains
  pub steps_drain : (t : Transfer) (waiting' : ℕ) → steps ≡ limit → is_last_drain limit t ≡ true → waiting ≡ waiting' + 1
      → HasStepsSoFar limit steps n waiting' within (past ++ t ∷ [])
  steps_drain t waiting' last drain one = record {
    allowed = h.allowed;
    in_steps = h.in_steps;
    ascending = h.ascending;
    drains = each_append (λ (u : Transfer). is_last_drain limit u ≡ true) past (t ∷ []) h.drains (drain, tt);
    all_made = or_right (length (past ++ t ∷ []) == 0) (steps == limit) (eq-eqb steps limit last);
    few = omega (arith, h.few, one, length_push past t);
    retired = h.retired;
  }
