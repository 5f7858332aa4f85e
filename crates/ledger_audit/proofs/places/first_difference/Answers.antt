use Rattle.std.proofs.Common.{ℕ, rules, inl, inr, refl, Option, Some, length, map, subst}
use Rattle.lf_model.specs.Places.{FailsFirst}
use Rattle.ledger_audit.specs.Account.{completions_of, entry_seen}
use Rattle.ledger_audit.specs.FirstPlaces.{SameOrderAt}
use Rattle.ledger_audit.proofs.OrderAccounts.{order_fails}
use Rattle.ledger_audit.proofs.places.first_difference.Goals as goal

pub returns-in-Some-first_other_operation : goal.returns-in-Some-first_other_operation
returns-in-Some-first_other_operation c = record {
  first = inl (
    search rules,
    inr (
      c.in-Some-first_other_operation.place,
      order_fails c.args.setup.now c.args.trace.now c.args.given.now (Some c.in-Some-first_other_operation.place) _ _ _
          c.as_slice-cores.ensures.items c.as_slice.ensures.items c.as_slice-2.ensures.items
          (subst (λ (r : Option ℕ). FailsFirst (length c.as_slice-2.result.now) (SameOrderAt (map entry_seen c.as_slice.result.now) (map completions_of c.as_slice-cores.result.now) c.as_slice-2.result.now) r)
          c.in-Some-first_other_operation.is c.first_other_operation.ensures),
      refl,
    ),
  );
}
