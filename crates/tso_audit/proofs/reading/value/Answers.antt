use Rattle.std.proofs.Common.{length, Some, None}
use Rattle.lf_model.specs.Ledger.Rule.{NoneLeft}
use Rattle.lf_model.specs.Places.{AtPlace}
use Rattle.lf_model.specs.Start.{initial_byte}
use Rattle.lf_model.specs.Value.{ValueAt}
use Rattle.lf_model.specs.declared.place.Place.TheVariants.{Order}
use Rattle.tso_audit.proofs.FirstWrongRead.{value_first}
use Rattle.tso_audit.proofs.Places.{alone_none, tried_some}
use Rattle.tso_audit.proofs.reading.value.Goals as goal

pub returns-in-Some : goal.returns-in-Some
returns-in-Some c = record {
  first =
      tried_some (length c.args.trace.now.order) (AtPlace (ValueAt (initial_byte c.args.setup.now.image)) c.args.trace.now.order) Order NoneLeft c.in-Some.place
      (value_first c.args.setup.now c.args.trace.now c.as_slice-order.result.now c.deref.result.now c.in_ok-at_start.at_start.items c.in_ok-place.field-0 c.as_slice-order.ensures.items
      c.deref.ensures.value c.in_ok-at_start.ensures.bytes c.requires.addresses c.in_ok-place.ensures (Some c.in-Some.place) c.in-Some.is);
}

pub returns : goal.returns
returns c = record {
  first =
      alone_none (length c.args.trace.now.order) (AtPlace (ValueAt (initial_byte c.args.setup.now.image)) c.args.trace.now.order) Order
      (value_first c.args.setup.now c.args.trace.now c.as_slice-order.result.now c.deref.result.now c.in_ok-at_start.at_start.items c.in_ok-place.field-0 c.as_slice-order.ensures.items
      c.deref.ensures.value c.in_ok-at_start.ensures.bytes c.requires.addresses c.in_ok-place.ensures None c.in-None.is);
}
