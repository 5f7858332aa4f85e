-- A core's transfers once others made theirs and it made one more: a turn in a step, or a drain after its last step.
use Rattle.std.proofs.Common.{◌≡◌, ◌∙◌, ◌+◌, ◌<◌, ◌≤◌, ◌==◌, ◌++◌, ◌&&◌, ℕ, true, false, List, [], ◌∷◌, ap, sym, subst, arith}
use Rattle.std.proofs.lemmas.Bool.{eqb-true, eqb-false, ne_eqb, and_parts}
use Rattle.std.proofs.lemmas.List.{append-nil, append_assoc}
use Rattle.std.proofs.lemmas.List.Elements.{filter-append}
use Rattle.std.specs.Int.{from_bool}
use Rattle.std.specs.List.{AllByRecursion as Each}
use Rattle.core_laws.proofs.Steps.{none_past, steps_turn}
use Rattle.core_laws.proofs.Stops.{own_more}
use Rattle.core_laws.specs.StepsSoFar.{HasStepsSoFar}
use Rattle.core_course.proofs.StepParts.{Parted, parted}
use Rattle.lf_model.proofs.EachLemmas.{each_append, each_weaker, filter_none}
use Rattle.lf_model.specs.Ledger.Steps.{own_transfers, is_last_drain}
use Rattle.lf_model.specs.Names.{same_kind, same_why}
use Rattle.lf_model.specs.declared.bus.Transfer.{Transfer}
use Rattle.lf_model.specs.declared.bus.TurnKind.TheVariants.{Store, Atomic}
use Rattle.lf_model.specs.declared.bus.Why.TheVariants as whys

-- ---- its own

module _ (core : ℕ) (ts us : List Transfer) (others : Each (λ (u : Transfer). (core == u.master) ≡ false) us) where
  own_none : own_transfers core us ≡ []
  own_none = filter_none (λ (u : Transfer). u.master == core) us
      (each_weaker (λ (u : Transfer). (core == u.master) ≡ false) (λ (u : Transfer). (u.master == core) ≡ false) us
      (λ u other. ne_eqb u.master core (λ same. eqb-false core u.master other (sym same))) others)

  pub own_before : own_transfers core (ts ++ us) ≡ own_transfers core ts
  own_before = filter-append (λ (u : Transfer). u.master == core) ts us ∙ (ap (λ vs. own_transfers core ts ++ vs) own_none ∙ append-nil (own_transfers core ts))

  pub own_then : (t : Transfer) → (core == t.master) ≡ true → own_transfers core ((ts ++ us) ++ t ∷ []) ≡ own_transfers core ts ++ t ∷ []
  own_then t own = own_more core (ts ++ us) t own ∙ ap (λ vs. vs ++ t ∷ []) own_before

-- ---- in its steps and after them

module _ (limit steps n waiting : ℕ) (within past : List Transfer) (h : HasStepsSoFar limit steps n waiting within past) (t : Transfer) (step : t.step ≡ steps) (own : List Transfer) where
  -- a turn in a step
  pub in_a_step : (next waiting' : ℕ) → steps < limit → next ≡ steps + 1 → waiting' ≤ 8 → own ≡ (within ++ past) ++ t ∷ [] → Parted next own (within ++ t ∷ []) past
  in_a_step next waiting' left made few whole =
      let none : past ≡ [] = none_past limit steps n waiting within past h left in
      let more : HasStepsSoFar limit (steps + 1) (n + from_bool (same_kind t.kind Atomic)) waiting' (within ++ t ∷ []) past = steps_turn limit steps n waiting within past h t waiting' step left few in
      parted next (within ++ t ∷ []) past
      (subst (λ m. Each (λ (u : Transfer). u.step < m) (within ++ t ∷ [])) (sym made) more.in_steps)
      (subst (Each (λ (u : Transfer). next ≤ u.step)) (sym none) tt)
      own (whole ∙ (ap (λ vs. (within ++ vs) ++ t ∷ []) none ∙ (ap (λ vs. vs ++ t ∷ []) (append-nil within) ∙ (sym (append-nil (within ++ t ∷ [])) ∙ ap (λ vs. (within ++ t ∷ []) ++ vs) (sym none)))))

  drain_of : is_last_drain limit t ≡ true → t.step ≡ limit
  drain_of drain = eqb-true t.step limit (and_parts (t.step == limit) _ (and_parts (t.step == limit && same_kind t.kind Store) (same_why t.why whys.End) drain).0).0

  -- a drain after the last
  pub past_all : steps ≡ limit → Each (λ (u : Transfer). steps ≤ u.step) past → own ≡ (within ++ past) ++ t ∷ [] → Parted steps own within (past ++ t ∷ [])
  past_all last above whole = parted steps within (past ++ t ∷ []) h.in_steps
      (each_append (λ (u : Transfer). steps ≤ u.step) past (t ∷ []) above (omega (arith, step), tt))
      own (whole ∙ append_assoc within past (t ∷ []))
