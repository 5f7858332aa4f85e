use Rattle.std.proofs.Common.{◌≡◌, ℕ, length, subst, arith}
use Rattle.tso_audit.specs.LastPlaces.{HasLaterPlaces}
use Rattle.tso_audit.proofs.LaterPlaces.{table_entered}
use Rattle.tso_audit.proofs.watched.note_all.Goals as goal

pub loop-i-preserved : goal.loop-i-preserved
loop-i-preserved c =
    table_entered c.args.order.now 0 c.loop-i.i 0 c.loop-i.places c.note_entered.new.places c.loop-i-test.true c.note_entered.auto.places c.loop-i.invariant c.note_entered.ensures.places

pub returns : goal.returns
returns c =
    let e : c.loop-i.i ≡ length c.args.order.now = omega arith in
    subst (λ (n : ℕ). HasLaterPlaces c.args.order.now 0 n 0 c.loop-i.places) e c.loop-i.invariant
