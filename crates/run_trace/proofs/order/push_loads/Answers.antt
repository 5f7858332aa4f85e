use Rattle.std.proofs.Common.{length, refl, arith}
use Rattle.std.proofs.lemmas.Option.{slice_get_read}
use Rattle.run_trace.proofs.Placing.{cores_more, cursors_all}
use Rattle.run_trace.proofs.order.push_loads.Goals as goal

pub loop-c-preserved : goal.loop-c-preserved
loop-c-preserved c = cores_more c.args.seen c.args.records.now c.args.order.now.items c.loop-c.order.items c.push_core_loads.new.order.items c.loop-c.cursors.items
    c.loop-c.c c.in_ok-next.next c.index-records-c.result c.loop-c.invariant c.loop-c-test.true
    (slice_get_read c.args.records.now (length c.args.records.now) c.loop-c.c c.index-records-c.result refl c.loop-c-test.true c.index-records-c.is) c.in_ok-next.ensures.pushed c.in_ok-next.ensures.cursor

pub returns-clause-cursors : goal.returns-clause-cursors
returns-clause-cursors c = cursors_all c.args.seen c.args.records.now c.args.order.now.items c.loop-c.order.items c.loop-c.cursors.items c.loop-c.c c.loop-c.invariant
    (omega (arith, c.loop-c-test.false))
