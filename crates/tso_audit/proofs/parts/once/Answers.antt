use Rattle.tso_audit.proofs.OnceFirst.{once_core, once_op, once_turn, once_nowhere, once_final, unlike}
use Rattle.tso_audit.proofs.parts.once.Goals as goal

pub returns-in-Some : goal.returns-in-Some
returns-in-Some c = record {
  first = once_core c.args.setup.now c.args.trace.now c.as_slice-order.result.now c.in_ok-core.field-0 c.as_slice-order.ensures.items c.in_ok-core.ensures c.in-Some.core c.in-Some.is;
}

pub returns-in-Some-first_foreign_operation : goal.returns-in-Some-first_foreign_operation
returns-in-Some-first_foreign_operation c = record {
  first =
      once_op c.args.setup.now c.args.trace.now c.as_slice-order.result.now c.in_ok-core.field-0 c.first_foreign_operation.result c.as_slice-order.ensures.items c.in_ok-core.ensures
      c.first_foreign_operation.ensures c.in-None.is c.in-Some-first_foreign_operation.place c.in-Some-first_foreign_operation.is;
}

pub returns-in-Some-first_foreign_transfer : goal.returns-in-Some-first_foreign_transfer
returns-in-Some-first_foreign_transfer c = record {
  first =
      once_turn c.args.setup.now c.args.trace.now c.as_slice-order.result.now c.as_slice.result.now c.in_ok-core.field-0 c.first_foreign_operation.result c.first_foreign_transfer.result
      c.as_slice-order.ensures.items c.as_slice.ensures.items c.in_ok-core.ensures c.first_foreign_operation.ensures c.first_foreign_transfer.ensures c.in-None.is c.in-None-first_foreign_operation.is
      c.in-Some-first_foreign_transfer.turn c.in-Some-first_foreign_transfer.is;
}

pub returns-then-has_the_parts : goal.returns-then-has_the_parts
returns-then-has_the_parts c = record {
  first =
      once_nowhere c.args.setup.now c.args.trace.now c.as_slice-order.result.now c.as_slice.result.now c.in_ok-core.field-0 c.first_foreign_operation.result c.first_foreign_transfer.result
      c.as_slice-order.ensures.items c.as_slice.ensures.items c.in_ok-core.ensures c.first_foreign_operation.ensures c.first_foreign_transfer.ensures c.in-None.is c.in-None-first_foreign_operation.is
      c.in-None-first_foreign_transfer.is (c.has_the_parts.ensures.0 c.if-has_the_parts.true);
}

pub returns-else-has_the_parts : goal.returns-else-has_the_parts
returns-else-has_the_parts c = record {
  first =
      once_final c.args.setup.now c.args.trace.now c.as_slice-order.result.now c.as_slice.result.now c.in_ok-core.field-0 c.first_foreign_operation.result c.first_foreign_transfer.result
      c.as_slice-order.ensures.items c.as_slice.ensures.items c.in_ok-core.ensures c.first_foreign_operation.ensures c.first_foreign_transfer.ensures c.in-None.is c.in-None-first_foreign_operation.is
      c.in-None-first_foreign_transfer.is (λ holds. unlike c.has_the_parts.result (c.has_the_parts.ensures.1 holds) c.if-has_the_parts.false);
}
