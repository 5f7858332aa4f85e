use Rattle.std.proofs.Common.{◌∙◌, ◌++◌, List, filter, ap, sym, append_assoc, take, length, refl}
use Rattle.std.proofs.lemmas.Option.{slice_get_read}
use Rattle.lf_model.specs.declared.trace.Op.{Op}
use Rattle.run_trace.specs.Order.{chosen, is_lost_in}
use Rattle.run_trace.proofs.Placing.{chosen_more}
use Rattle.run_trace.proofs.order.push_lost.Goals as goal

pub loop-kept-preserved : goal.loop-kept-preserved
loop-kept-preserved c = c.in_ok-push_core_lost.ensures
    ∙ (ap (λ (os : List Op). os ++ filter (is_lost_in c.kept-item.result) c.kept-item.result.ops) c.loop-kept.invariant
    ∙ (append_assoc c.args.order.now.items (chosen is_lost_in (take c.loop-kept.kept-index c.args.records.now)) (filter (is_lost_in c.kept-item.result) c.kept-item.result.ops)
    ∙ ap (λ (os : List Op). c.args.order.now.items ++ os)
    (sym (chosen_more is_lost_in c.args.records.now c.loop-kept.kept-index c.kept-item.result c.loop-kept-test.true
    (slice_get_read c.args.records.now (length c.args.records.now) c.loop-kept.kept-index c.kept-item.result refl c.loop-kept-test.true c.kept-item.is)))))
