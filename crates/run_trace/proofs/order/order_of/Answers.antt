use Rattle.std.proofs.Common.{◌≡◌, ◌<◌, ◌∙◌, ◌++◌, ◌∷◌, [], length, sym, ap, arith}
use Rattle.lf_model.specs.declared.trace.Op.{Op}
use Rattle.run_trace.specs.Order.{loads_at}
use Rattle.run_trace.proofs.Placing.{operation_read, weaving_more, weaving_all}
use Rattle.run_trace.proofs.order.order_of.Goals as goal

pub loop-place-preserved : goal.loop-place-preserved
loop-place-preserved c =
    let within : c.loop-place.place < length c.args.log.now.entries = omega (arith, c.loop-place-test.true, c.len-place-end.ensures.length) in
    weaving_more c.args.records.now c.args.log.now.entries c.loop-place.order.items c.push_loads.new.order.items c.push.new.self.items
    c.loop-place.cursors.items c.push_loads.new.cursors.items c.loop-place.place c.at-entry.result c.loop-place.invariant
    within c.at-entry.ensures.listed (sym c.push_loads.new.cursors.ok.0 ∙ c.in_ok-push_loads.ensures.one_each) c.in_ok-push_loads.ensures.cursors c.in_ok-push_loads.ensures.pushed
    (c.in_ok-push.ensures.items
    ∙ ap (λ (o : Op). c.push_loads.new.order.items ++ o ∷ [])
    (operation_read c.args.records.now c.args.log.now.entries c.loop-place.place c.at-entry.result c.index-records-entry.result c.as_slice-ops.result.now _
    c.as_slice-ops.ensures.items c.at-entry.ensures.listed (c.requires.listed c.loop-place.place within)))

pub returns : goal.returns
returns c =
    let all : c.loop-place.place ≡ length c.args.log.now.entries = omega (arith, c.loop-place-test.false, c.loop-place.auto.place-end, c.len-place-end.ensures.length) in
    weaving_all c.args.records.now c.args.log.now.entries c.loop-place.order.items c.push_loads-2.new.order.items c.push_lost.new.order.items c.loop-place.cursors.items c.loop-place.place
    c.loop-place.invariant all
    (c.in_ok-push_loads-2.ensures.pushed ∙ ap (λ n. c.loop-place.order.items ++ loads_at c.args.records.now n) (omega (arith, all, c.len.ensures.length)))
    c.in_ok-push_lost.ensures
