-- The steps of a core are right by its transfers as a trace has them, without their lengths.
use Rattle.std.proofs.Common.{◌≡◌, ◌∙◌, ◌+◌, ◌==◌, ◌&&◌, ◌||◌, ◌++◌, ℕ, Bool, not, nat_lt, nat_le, List, [], ◌∷◌, length, filter, map, count_by, refl, ap, sym}
use Rattle.std.proofs.lemmas.List.{length-map, map-append}
use Rattle.std.proofs.lemmas.List.Sums.{length-filter}
use Rattle.std.specs.List.{list_all, list_any}
use Rattle.lf_model.proofs.EachLemmas.{filter_map_same}
use Rattle.lf_model.specs.Ledger.Account.{without_length}
use Rattle.lf_model.specs.Ledger.Steps.{HasSteps, in_steps, past_steps, ascends_from, is_last_drain, is_of_last_step, retires_instruction, retiring_steps, is_halt, last_retires}
use Rattle.lf_model.specs.declared.bus.Transfer.{Transfer}
use Rattle.lf_model.specs.declared.setup.Setup.{Setup}
use Rattle.lf_model.specs.declared.trace.CoreEnd.{CoreEnd}
use Rattle.lf_model.specs.declared.trace.CoreResult.{CoreResult}
use Rattle.run_trace.proofs.Lists.{each_all}

-- a test doesn't look at lengths
module _ (p : Transfer → Bool) (blind : (t : Transfer) → p t ≡ p (without_length t)) where
  filter_blind : (ts : List Transfer) → filter p (map without_length ts) ≡ map without_length (filter p ts)
  filter_blind ts = sym (filter_map_same p p without_length ts (each_all (λ (t : Transfer). p t ≡ p (without_length t)) ts blind))

  pub count_blind : (ts : List Transfer) → count_by p (map without_length ts) ≡ count_by p ts
  count_blind ts =
      sym (length-filter p (map without_length ts))
      ∙ (ap (λ (us : List Transfer). length us) (filter_blind ts) ∙ (length-map (filter p ts) without_length ∙ length-filter p ts))

  any_blind : (ts : List Transfer) → list_any p (map without_length ts) ≡ list_any p ts
  any_blind [] = refl
  any_blind (t ∷ ts) = rw (sym (blind t), any_blind ts) refl

  all_blind : (ts : List Transfer) → list_all p (map without_length ts) ≡ list_all p ts
  all_blind [] = refl
  all_blind (t ∷ ts) = rw (sym (blind t), all_blind ts) refl

ascends_blind : (step : ℕ) (ts : List Transfer) → ascends_from step (map without_length ts) ≡ ascends_from step ts
ascends_blind step [] = refl
ascends_blind step (t ∷ ts) = ap (λ later. nat_le step t.step && later) (ascends_blind (t.step + 1) ts)

module _ (end : CoreEnd) (steps : ℕ) (ts : List Transfer) where
  retiring_blind : retiring_steps end steps (map without_length ts) ≡ retiring_steps end steps ts
  retiring_blind = rw (length-map ts without_length, any_blind (is_of_last_step steps) (λ t. refl) ts, count_blind (retires_instruction end) (λ t. refl) ts) refl

  last_blind : last_retires end steps (map without_length ts) ≡ last_retires end steps ts
  last_blind = all_blind (λ t. not (is_of_last_step steps t) || retires_instruction end t) (λ t. refl) ts

module _ (setup : Setup) (r : CoreResult) (own : List Transfer) (h : HasSteps setup r own) where
  abbrev within : List Transfer
  within = in_steps r.steps own

  abbrev past : List Transfer
  past = past_steps r.steps own

  within_blind : in_steps r.steps (map without_length own) ≡ map without_length within
  within_blind = filter_blind (λ t. nat_lt t.step r.steps) (λ t. refl) own

  past_blind : past_steps r.steps (map without_length own) ≡ map without_length past
  past_blind = filter_blind (λ t. nat_le r.steps t.step) (λ t. refl) own

  count_past : length (past_steps r.steps (map without_length own)) ≡ length past
  count_past = ap (λ (ts : List Transfer). length ts) past_blind ∙ length-map past without_length

  pub steps_without : HasSteps setup r (map without_length own)
  steps_without = record {
    order = ap (map without_length) h.order ∙ (map-append without_length within past ∙ sym (two within_blind past_blind));
    ascending = ap (ascends_from 0) within_blind ∙ (ascends_blind 0 within ∙ h.ascending);
    drains = ap (list_all (is_last_drain setup.config.steps)) past_blind ∙ (all_blind (is_last_drain setup.config.steps) (λ t. refl) past ∙ h.drains);
    few = ap (λ n. nat_le n 8) count_past ∙ h.few;
    all_made = ap (λ n. n == 0 || r.steps == setup.config.steps) count_past ∙ h.all_made;
    retired = ap (retiring_steps r.end r.steps) within_blind ∙ (retiring_blind r.end r.steps within ∙ h.retired);
    halting = ap (λ ts. not (is_halt r.end) || last_retires r.end r.steps ts) within_blind
        ∙ (ap (λ b. not (is_halt r.end) || b) (last_blind r.end r.steps within) ∙ h.halting);
  }
    where
      two : {xs xs' ys ys' : List Transfer} → xs ≡ xs' → ys ≡ ys' → xs ++ ys ≡ xs' ++ ys'
      two p q = rw (p, q) refl
