-- The audit answers Yes exactly where all of its rules fail nowhere.
use Rattle.std.proofs.Common.{◌≡◌, ◌↔◌, ℕ, List, length, Option, Some, None, inl, inr, sym, ◌∙◌, arith}
use Rattle.lf_model.specs.Ledger.Rule.{TriedBefore, NoneLeft}
use Rattle.lf_model.specs.Once.{OnceAtCore, OnceAtOrder, OnceAtTransfer, OnceAtFinal}
use Rattle.lf_model.specs.Order.{LoadOpAt, StoreStoreAt}
use Rattle.lf_model.specs.Places.{FailsNowhere, FailsNowhereIn, AtPlace}
use Rattle.lf_model.specs.Records.CoreRules.{ThreadAt, ResultAt}
use Rattle.lf_model.specs.Results.{ResultAtFinal}
use Rattle.lf_model.specs.Start.{initial_byte}
use Rattle.lf_model.specs.Value.{ValueAt}
use Rattle.lf_model.specs.declared.place.Place.{Place}
use Rattle.lf_model.specs.declared.place.Place.TheVariants.{Core, Order, Transfer, Final}
use Rattle.lf_model.specs.declared.setup.Setup.{Setup}
use Rattle.lf_model.specs.declared.trace.Op.{Op}
use Rattle.lf_model.specs.declared.trace.Trace.{Trace}
use Rattle.tso_audit.proofs.AuditFacts.{tried_none, once_numbered, at_operations, at_transfers, once_whole, thread_none}
use Rattle.tso_audit.specs.Audit.{RuleBefore, IsVerdict, AllHold}
use Rattle.tso_audit.specs.FirstPlaces.{OnceFailsFirst, LoadOpFailsFirst, StoreStoreFailsFirst, OrderFailsFirst, ThreadFailsFirst, ResultFailsFirst, ValueFailsFirst}
use Rattle.tso_audit.specs.declared.verdict.Rule.{Rule}
use Rattle.tso_audit.specs.declared.verdict.Rule.TheVariants as rules
use Rattle.tso_audit.specs.declared.verdict.Verdict.{Verdict}
use Rattle.tso_audit.specs.declared.verdict.Verdict.TheVariants.{Yes, No}

-- ---- a rule and those after it

module _ (FailsAt : Option Place → Type 0) (rule : Rule) (Later : Verdict → Type 0) (verdict : Verdict) where
  none_at_yes : verdict ≡ Yes → RuleBefore FailsAt rule Later verdict → FailsAt None × Later verdict
  none_at_yes yes_it (inl both) = both
  none_at_yes yes_it (inr some) = absurd (apart some.0 some.2)
    where
      apart : (place : Place) → verdict ≡ No rule place → ⊥
      apart place no_it = let e : Yes ≡ No rule place = sym yes_it ∙ no_it in cc

  later_at_none : ((place : Place) → FailsAt (Some place) → ⊥) → RuleBefore FailsAt rule Later verdict → Later verdict
  later_at_none never (inl both) = both.1
  later_at_none never (inr some) = absurd (never some.0 some.1)

-- ---- a rule that fails nowhere has no first place

not_some : (place : Place) → NoneLeft (Some place) → ⊥
not_some place e = cc

never_before : (n : ℕ) (Holds : ℕ → Type 0) (at : ℕ → Place) (Later : Option Place → Type 0) (place : Place) → FailsNowhere n Holds → (Later (Some place) → ⊥) → TriedBefore n Holds at Later (Some place) → ⊥
never_before n Holds at Later place all never (inl both) = never both.1
never_before n Holds at Later place all never (inr some) = some.1.1 (all some.0 some.1.0)

never_in_order : (Rule : List Op → Op → List Op → Type 0) (trace : Trace) → FailsNowhereIn Rule trace.order → (place : Place) → OrderFailsFirst Rule trace (Some place) → ⊥
never_in_order Rule trace all place = never_before (length trace.order) (AtPlace Rule trace.order) Order NoneLeft place all (not_some place)

module _ (setup : Setup) (trace : Trace) where
  abbrev Watched : ℕ → Type 0
  Watched i = FailsNowhere (length trace.watch) (ResultAtFinal setup trace)

  abbrev AtWatched : Option Place → Type 0
  AtWatched = TriedBefore 1 Watched (λ i. Final) NoneLeft

  results_none : ResultFailsFirst setup trace None → FailsNowhere setup.config.cores (ResultAt setup trace) × Watched 0
  results_none h =
      let both = tried_none setup.config.cores (ResultAt setup trace) Core AtWatched h in
      (both.0, (tried_none 1 Watched (λ i. Final) NoneLeft both.1).0 0 (omega arith))

  pub yes_holds : (verdict : Verdict) → IsVerdict setup trace verdict → verdict ≡ Yes → AllHold setup trace
  yes_holds verdict is yes_it =
      let Value_on = RuleBefore (ValueFailsFirst setup trace) rules.Value (λ v. v ≡ Yes) in
      let Result_on = RuleBefore (ResultFailsFirst setup trace) rules.Result Value_on in
      let Thread_on = RuleBefore (ThreadFailsFirst setup trace) rules.Thread Result_on in
      let Stores_on = RuleBefore (StoreStoreFailsFirst trace) rules.StoreStore Thread_on in
      let Loads_on = RuleBefore (LoadOpFailsFirst trace) rules.LoadOp Stores_on in
      let once = none_at_yes (OnceFailsFirst setup trace) rules.Once Loads_on verdict yes_it is in
      let loads = none_at_yes (LoadOpFailsFirst trace) rules.LoadOp Stores_on verdict yes_it once.1 in
      let stores = none_at_yes (StoreStoreFailsFirst trace) rules.StoreStore Thread_on verdict yes_it loads.1 in
      let thread = none_at_yes (ThreadFailsFirst setup trace) rules.Thread Result_on verdict yes_it stores.1 in
      let results = none_at_yes (ResultFailsFirst setup trace) rules.Result Value_on verdict yes_it thread.1 in
      let value = none_at_yes (ValueFailsFirst setup trace) rules.Value (λ v. v ≡ Yes) verdict yes_it results.1 in
      record {
        execution = record {
          once_cores = once_numbered setup trace once.0;
          once_order = (at_operations setup trace once.0).0;
          once_transfers = (at_transfers setup trace once.0).0;
          once_final = once_whole setup trace once.0;
          load_op = (tried_none (length trace.order) (AtPlace LoadOpAt trace.order) Order NoneLeft loads.0).0;
          store_store = (tried_none (length trace.order) (AtPlace StoreStoreAt trace.order) Order NoneLeft stores.0).0;
          thread = thread_none setup trace thread.0;
          value = (tried_none (length trace.order) (AtPlace (ValueAt (initial_byte setup.image)) trace.order) Order NoneLeft value.0).0;
        };
        results = (results_none results.0).0;
        words = (results_none results.0).1;
      }

  module _ (all : AllHold setup trace) (place : Place) where
    never_once : OnceFailsFirst setup trace (Some place) → ⊥
    never_once =
        let Last = TriedBefore 1 (λ i. OnceAtFinal setup trace) (λ i. Final) NoneLeft in
        let Transfers = TriedBefore (length trace.transfers) (OnceAtTransfer setup.config.cores trace.transfers) Transfer Last in
        let Operations = TriedBefore (length trace.order) (AtPlace (OnceAtOrder setup.config.cores) trace.order) Order Transfers in
        never_before setup.config.cores (OnceAtCore trace.order) Core Operations place all.execution.once_cores
        (never_before (length trace.order) (AtPlace (OnceAtOrder setup.config.cores) trace.order) Order Transfers place all.execution.once_order
        (never_before (length trace.transfers) (OnceAtTransfer setup.config.cores trace.transfers) Transfer Last place all.execution.once_transfers
        (never_before 1 (λ i. OnceAtFinal setup trace) (λ i. Final) NoneLeft place (λ i low. all.execution.once_final) (not_some place))))

    never_thread : ThreadFailsFirst setup trace (Some place) → ⊥
    never_thread = never_before setup.config.cores (ThreadAt setup trace) Core NoneLeft place all.execution.thread (not_some place)

    never_result : ResultFailsFirst setup trace (Some place) → ⊥
    never_result =
        never_before setup.config.cores (ResultAt setup trace) Core AtWatched place all.results (never_before 1 Watched (λ i. Final) NoneLeft place (λ i low. all.words) (not_some place))

  pub holds_yes : (verdict : Verdict) → IsVerdict setup trace verdict → AllHold setup trace → verdict ≡ Yes
  holds_yes verdict is all =
      let Value_on = RuleBefore (ValueFailsFirst setup trace) rules.Value (λ v. v ≡ Yes) in
      let Result_on = RuleBefore (ResultFailsFirst setup trace) rules.Result Value_on in
      let Thread_on = RuleBefore (ThreadFailsFirst setup trace) rules.Thread Result_on in
      let Stores_on = RuleBefore (StoreStoreFailsFirst trace) rules.StoreStore Thread_on in
      let Loads_on = RuleBefore (LoadOpFailsFirst trace) rules.LoadOp Stores_on in
      later_at_none (ValueFailsFirst setup trace) rules.Value (λ v. v ≡ Yes) verdict (never_in_order (ValueAt (initial_byte setup.image)) trace all.execution.value)
      (later_at_none (ResultFailsFirst setup trace) rules.Result Value_on verdict (never_result all)
      (later_at_none (ThreadFailsFirst setup trace) rules.Thread Result_on verdict (never_thread all)
      (later_at_none (StoreStoreFailsFirst trace) rules.StoreStore Thread_on verdict (never_in_order StoreStoreAt trace all.execution.store_store)
      (later_at_none (LoadOpFailsFirst trace) rules.LoadOp Stores_on verdict (never_in_order LoadOpAt trace all.execution.load_op)
      (later_at_none (OnceFailsFirst setup trace) rules.Once Loads_on verdict (never_once all) is)))))

  pub yes_exactly : (verdict : Verdict) → IsVerdict setup trace verdict → verdict ≡ Yes ↔ AllHold setup trace
  yes_exactly verdict is = (yes_holds verdict is, holds_yes verdict is)
