use Rattle.std.proofs.Common.{◌∙◌, sym}
use Rattle.tso_audit.proofs.LaterPlaces.{table_own, numbers_more}
use Rattle.tso_audit.proofs.reading.note_own.Goals as goal

pub loop-j-preserved : goal.loop-j-preserved
loop-j-preserved c = record {
  places =
      λ i has. table_own c.args.order.now c.args.core i c.loop-j.j c.loop-j.places c.note_store_of.new.places c.loop-j-test.true c.note_store_of.auto.places (c.loop-j.invariant.places i has)
      c.note_store_of.ensures.places;
  below = numbers_more c.args.order.now c.args.core c.args.k c.args.from c.loop-j.j c.loop-j.invariant.below (sym c.is_later_store.ensures ∙ c.if-is_later_store.false);
}
