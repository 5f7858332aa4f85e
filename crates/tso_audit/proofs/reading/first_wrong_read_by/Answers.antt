use Rattle.std.proofs.Common.{ℕ, below_more}
use Rattle.lf_model.specs.Places.{AtPlace}
use Rattle.tso_audit.specs.LastPlaces.{start_in, ValueOf}
use Rattle.tso_audit.proofs.LaterPlaces.{table_entered, before_later}
use Rattle.tso_audit.proofs.reading.first_wrong_read_by.Goals as goal

pub loop-i-preserved : goal.loop-i-preserved
loop-i-preserved c = record {
  own = c.in-Some.ensures.within;
  noted =
      table_entered c.args.order.now c.args.core c.loop-i.i c.in-Some.next c.try_read.new.places c.note_entered.new.places c.loop-i-test.true c.note_entered.auto.places c.in-Some.ensures.noted
      c.note_entered.ensures.places;
  before = before_later c.args.order.now c.args.core c.loop-i.i c.in-Some.next c.in-Some.ensures.before;
  held = below_more (λ (j : ℕ). AtPlace (ValueOf c.args.core (start_in c.args.at_start.now)) c.args.order.now j) c.loop-i.i c.loop-i.invariant.held c.in-Some.ensures.right;
}
