-- A trace has one verdict: each rule has one first place, or none, and the first rule that has one is the verdict.
use Rattle.std.proofs.Common.{ℕ, ◌≡◌, ◌∙◌, List, length, Option, Some, None, sym, ap, inl, inr, arith}
use Rattle.std.proofs.lemmas.Bool.{cases_lt}
use Rattle.lf_model.specs.Ledger.Rule.{TriedBefore, NoneLeft}
use Rattle.lf_model.specs.Once.{OnceAtCore, OnceAtOrder, OnceAtTransfer, OnceAtFinal}
use Rattle.lf_model.specs.Order.{LoadOpAt, StoreStoreAt}
use Rattle.lf_model.specs.Places.{FailsFirst, FailsNowhere, AtPlace}
use Rattle.lf_model.specs.Records.CoreRules.{ThreadAt, ResultAt}
use Rattle.lf_model.specs.Results.{ResultAtFinal}
use Rattle.lf_model.specs.Start.{initial_byte}
use Rattle.lf_model.specs.Value.{ValueAt}
use Rattle.lf_model.specs.declared.place.Place.{Place}
use Rattle.lf_model.specs.declared.place.Place.TheVariants.{Core, Order, Transfer, Final}
use Rattle.lf_model.specs.declared.setup.Setup.{Setup}
use Rattle.lf_model.specs.declared.trace.Op.{Op}
use Rattle.lf_model.specs.declared.trace.Trace.{Trace}
use Rattle.tso_audit.specs.Audit.{RuleBefore}
use Rattle.tso_audit.specs.FirstPlaces.{OnceFailsFirst, LoadOpFailsFirst, StoreStoreFailsFirst, OrderFailsFirst, ThreadFailsFirst, ResultFailsFirst, ValueFailsFirst}
use Rattle.tso_audit.specs.declared.verdict.Rule.{Rule}
use Rattle.tso_audit.specs.declared.verdict.Rule.TheVariants as rules
use Rattle.tso_audit.specs.declared.verdict.Verdict.{Verdict}
use Rattle.tso_audit.specs.declared.verdict.Verdict.TheVariants.{Yes, No}
use Rattle.leon_main.specs.Call.{HasOneVerdict}

-- what is said of one thing at most
abbrev IsOfOne : {X : Type 0} → (X → Type 0) → Type 0
IsOfOne {X} P = (x y : X) → P x → P y → x ≡ y

-- ---- places

module _ (n : ℕ) (Holds : ℕ → Type 0) where
  one_place : (i j : ℕ) → FailsFirst n Holds (Some i) → FailsFirst n Holds (Some j) → i ≡ j
  one_place i j first second = elim (cases_lt i j) [
    | inl lower ↦ absurd (first.1 (second.2 i lower))
    | inr not_lower ↦ elim (cases_lt j i) [
      | inl lower ↦ absurd (second.1 (first.2 j lower))
      | inr not_higher ↦ omega (arith, not_lower, not_higher)
    ]
  ]

  module _ (at : ℕ → Place) (Later : Option Place → Type 0) (one_later : IsOfOne Later) where
    one_first : IsOfOne (TriedBefore n Holds at Later)
    one_first p q (inl first) (inl second) = one_later p q first.1 second.1
    one_first p q (inl first) (inr second) = absurd (second.1.1 (first.0 second.0 second.1.0))
    one_first p q (inr first) (inl second) = absurd (first.1.1 (second.0 first.0 first.1.0))
    one_first p q (inr first) (inr second) =
        first.2 ∙ (ap (λ (i : ℕ). Some (at i)) (one_place first.0 second.0 first.1 second.1) ∙ sym second.2)

none_left : IsOfOne NoneLeft
none_left p q first second = first ∙ sym second

-- ---- rules

module _ (FailsAt : Option Place → Type 0) (one_at : IsOfOne FailsAt) (rule : Rule) (Later : Verdict → Type 0) (one_later : IsOfOne Later) where
  not_both : (place : Place) → FailsAt None → FailsAt (Some place) → ⊥
  not_both place none some = let e : None ≡ Some place = one_at None (Some place) none some in cc

  one_before : IsOfOne (RuleBefore FailsAt rule Later)
  one_before v w (inl first) (inl second) = one_later v w first.1 second.1
  one_before v w (inl first) (inr second) = absurd (not_both second.0 first.0 second.1)
  one_before v w (inr first) (inl second) = absurd (not_both first.0 second.0 first.1)
  one_before v w (inr first) (inr second) =
      let same : Some first.0 ≡ Some second.0 = one_at (Some first.0) (Some second.0) first.1 second.1 in
      let places : first.0 ≡ second.0 = cc in
      first.2 ∙ (ap (No rule) places ∙ sym second.2)

one_yes : IsOfOne (λ verdict. verdict ≡ Yes)
one_yes v w first second = first ∙ sym second

-- ---- all rules of an audit

module _ (setup : Setup) (trace : Trace) where
  one_once : IsOfOne (OnceFailsFirst setup trace)
  one_once =
      let Last = TriedBefore 1 (λ i. OnceAtFinal setup trace) (λ i. Final) NoneLeft in
      let Transfers = TriedBefore (length trace.transfers) (OnceAtTransfer setup.config.cores trace.transfers) Transfer Last in
      let Operations = TriedBefore (length trace.order) (AtPlace (OnceAtOrder setup.config.cores) trace.order) Order Transfers in
      one_first setup.config.cores (OnceAtCore trace.order) Core Operations
      (one_first (length trace.order) (AtPlace (OnceAtOrder setup.config.cores) trace.order) Order Transfers
      (one_first (length trace.transfers) (OnceAtTransfer setup.config.cores trace.transfers) Transfer Last
      (one_first 1 (λ i. OnceAtFinal setup trace) (λ i. Final) NoneLeft none_left)))

  one_in_order : (Rule : List Op → Op → List Op → Type 0) → IsOfOne (OrderFailsFirst Rule trace)
  one_in_order Rule = one_first (length trace.order) (AtPlace Rule trace.order) Order NoneLeft none_left

  one_thread : IsOfOne (ThreadFailsFirst setup trace)
  one_thread = one_first setup.config.cores (ThreadAt setup trace) Core NoneLeft none_left

  one_result : IsOfOne (ResultFailsFirst setup trace)
  one_result =
      let Watched = λ (i : ℕ). FailsNowhere (length trace.watch) (ResultAtFinal setup trace) in
      one_first setup.config.cores (ResultAt setup trace) Core (TriedBefore 1 Watched (λ i. Final) NoneLeft)
      (one_first 1 Watched (λ i. Final) NoneLeft none_left)

  pub one_verdict : HasOneVerdict setup trace
  one_verdict =
      let Value_on = RuleBefore (ValueFailsFirst setup trace) rules.Value (λ v. v ≡ Yes) in
      let Result_on = RuleBefore (ResultFailsFirst setup trace) rules.Result Value_on in
      let Thread_on = RuleBefore (ThreadFailsFirst setup trace) rules.Thread Result_on in
      let Stores_on = RuleBefore (StoreStoreFailsFirst trace) rules.StoreStore Thread_on in
      let Loads_on = RuleBefore (LoadOpFailsFirst trace) rules.LoadOp Stores_on in
      one_before (OnceFailsFirst setup trace) one_once rules.Once Loads_on
      (one_before (LoadOpFailsFirst trace) (one_in_order LoadOpAt) rules.LoadOp Stores_on
      (one_before (StoreStoreFailsFirst trace) (one_in_order StoreStoreAt) rules.StoreStore Thread_on
      (one_before (ThreadFailsFirst setup trace) one_thread rules.Thread Result_on
      (one_before (ResultFailsFirst setup trace) one_result rules.Result Value_on
      (one_before (ValueFailsFirst setup trace) (one_in_order (ValueAt (initial_byte setup.image))) rules.Value (λ v. v ≡ Yes) one_yes)))))
