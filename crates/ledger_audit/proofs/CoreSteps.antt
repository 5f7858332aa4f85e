-- The steps of a core are as they should be where five tests pass.
use Rattle.std.proofs.Common.{◌≡◌, ◌∙◌, ◌+◌, ◌-◌, ◌==◌, ◌&&◌, ◌||◌, ◌++◌, ℕ, Bool, true, List, count_by, ap, ap₂, sym}
use Rattle.std.specs.Int.{from_bool}
use Rattle.std.specs.List.{list_all, list_any}
use Rattle.std.specs.Prelude.{nat_lt, nat_le, not, length}
use Rattle.std.proofs.lemmas.Bool.{and_parts, eqb-true, eq-eqb}
use Rattle.lf_model.specs.Course.Core.{is_register_stop}
use Rattle.lf_model.specs.Ledger.Steps.{own_transfers, in_steps, past_steps, ascends_from, is_last_drain, is_of_last_step, retires_instruction, retiring_steps, is_halt, last_retires, HasSteps}
use Rattle.lf_model.specs.declared.bus.Transfer.{Transfer}
use Rattle.lf_model.specs.declared.setup.Setup.{Setup}
use Rattle.lf_model.specs.declared.trace.CoreEnd.{CoreEnd}
use Rattle.lf_model.specs.declared.trace.CoreResult.{CoreResult}
use Rattle.ledger_audit.proofs.Filters.{length_both, count_both, all_both, any_both}

-- a transfer of the core in its steps, and one after them
abbrev in_own : ℕ → ℕ → Transfer → Bool
in_own core steps t = t.master == core && nat_lt t.step steps

abbrev past_own : ℕ → ℕ → Transfer → Bool
past_own core steps t = t.master == core && nat_le steps t.step

both : (a b : Bool) → a ≡ true → b ≡ true → (a && b) ≡ true
both a b x y = ap₂ (λ (c d : Bool). c && d) x y

module _ (core : ℕ) (ts : List Transfer) where
  abbrev is_own : Transfer → Bool
  is_own t = t.master == core

  module _ (end : CoreEnd) (steps : ℕ) where
    abbrev in_steps_of : Transfer → Bool
    in_steps_of t = nat_lt t.step steps

    pub same_retiring : steps - count_by (in_own core steps) ts
        - from_bool (is_register_stop end && not (list_any (λ t. in_own core steps t && is_of_last_step steps t) ts))
        + count_by (λ t. in_own core steps t && retires_instruction end t) ts ≡ retiring_steps end steps (in_steps steps (own_transfers core ts))
    same_retiring = ap₂ (λ (a b : ℕ). a + b)
        (ap₂ (λ (m : ℕ) (b : Bool). steps - m - from_bool (is_register_stop end && not b)) (sym (length_both in_steps_of is_own ts)) (sym (any_both (is_of_last_step steps) in_steps_of is_own ts)))
        (sym (count_both (retires_instruction end) in_steps_of is_own ts))

  module _ (setup : Setup) (r : CoreResult) (ordered drained allowed counted halted : Bool)
      (order : ordered ≡ true → own_transfers core ts ≡ in_steps r.steps (own_transfers core ts) ++ past_steps r.steps (own_transfers core ts))
      (ascends : ordered ≡ true → ascends_from 0 (in_steps r.steps (own_transfers core ts)) ≡ true)
      (found : own_transfers core ts ≡ in_steps r.steps (own_transfers core ts) ++ past_steps r.steps (own_transfers core ts)
      → ascends_from 0 (in_steps r.steps (own_transfers core ts)) ≡ true → ordered ≡ true)
      (drained_is : drained ≡ list_all (λ t. not (past_own core r.steps t) || is_last_drain setup.config.steps t) ts)
      (allowed_is : allowed ≡ (nat_le (count_by (past_own core r.steps) ts) 8 && (count_by (past_own core r.steps) ts == 0 || r.steps == setup.config.steps)))
      (counted_is : counted ≡ (retiring_steps r.end r.steps (in_steps r.steps (own_transfers core ts)) == r.n))
      (halted_is : halted ≡ (not (is_halt r.end) || list_all (λ t. not (in_own core r.steps t) || (not (is_of_last_step r.steps t) || retires_instruction r.end t)) ts)) where
    abbrev past : Transfer → Bool
    past t = nat_le r.steps t.step

    abbrev within : Transfer → Bool
    within t = nat_lt t.step r.steps

    abbrev lets_retire : Transfer → Bool
    lets_retire t = not (is_of_last_step r.steps t) || retires_instruction r.end t

    abbrev limit : ℕ
    limit = setup.config.steps

    few_same : nat_le (length (past_steps r.steps (own_transfers core ts))) 8 ≡ nat_le (count_by (past_own core r.steps) ts) 8
    few_same = ap (λ (n : ℕ). nat_le n 8) (length_both past is_own ts)

    made_same : (length (past_steps r.steps (own_transfers core ts)) == 0 || r.steps == limit) ≡ (count_by (past_own core r.steps) ts == 0 || r.steps == limit)
    made_same = ap (λ (n : ℕ). n == 0 || r.steps == limit) (length_both past is_own ts)

    drains_same : list_all (is_last_drain limit) (past_steps r.steps (own_transfers core ts)) ≡ list_all (λ t. not (past_own core r.steps t) || is_last_drain limit t) ts
    drains_same = all_both (is_last_drain limit) past is_own ts

    halting_same : (not (is_halt r.end) || last_retires r.end r.steps (in_steps r.steps (own_transfers core ts)))
        ≡ (not (is_halt r.end) || list_all (λ t. not (in_own core r.steps t) || lets_retire t) ts)
    halting_same = ap (λ (b : Bool). not (is_halt r.end) || b) (all_both lets_retire within is_own ts)

    pub all_pass : (ordered && (drained && (allowed && (counted && halted)))) ≡ true → HasSteps setup r (own_transfers core ts)
    all_pass passes =
        let one = and_parts ordered (drained && (allowed && (counted && halted))) passes in
        let two = and_parts drained (allowed && (counted && halted)) one.1 in
        let three = and_parts allowed (counted && halted) two.1 in
        let four = and_parts counted halted three.1 in
        let drains = and_parts (nat_le (count_by (past_own core r.steps) ts) 8) (count_by (past_own core r.steps) ts == 0 || r.steps == limit) (sym allowed_is ∙ three.0) in
        record {
          order = order one.0;
          ascending = ascends one.0;
          drains = drains_same ∙ (sym drained_is ∙ two.0);
          few = few_same ∙ drains.0;
          all_made = made_same ∙ drains.1;
          retired = eqb-true (retiring_steps r.end r.steps (in_steps r.steps (own_transfers core ts))) r.n (sym counted_is ∙ four.0);
          halting = halting_same ∙ (sym halted_is ∙ four.1);
        }

    pub passes_all : HasSteps setup r (own_transfers core ts) → (ordered && (drained && (allowed && (counted && halted)))) ≡ true
    passes_all h =
        both ordered (drained && (allowed && (counted && halted))) (found h.order h.ascending)
        (both drained (allowed && (counted && halted)) (drained_is ∙ (sym drains_same ∙ h.drains))
        (both allowed (counted && halted)
        (allowed_is ∙ both (nat_le (count_by (past_own core r.steps) ts) 8) (count_by (past_own core r.steps) ts == 0 || r.steps == limit) (sym few_same ∙ h.few) (sym made_same ∙ h.all_made))
        (both counted halted (counted_is ∙ eq-eqb (retiring_steps r.end r.steps (in_steps r.steps (own_transfers core ts))) r.n h.retired) (halted_is ∙ (sym halting_same ∙ h.halting)))))
