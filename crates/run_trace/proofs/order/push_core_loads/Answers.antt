use Rattle.std.proofs.Common.{◌<◌, List, length, slice_index, sym, ◌∙◌, ℕ, subst}
use Rattle.lf_model.specs.declared.trace.Op.{Op}
use Rattle.run_trace.proofs.Placing.{loads_start, step_taken, step_passed, loads_before_more}
use Rattle.run_trace.proofs.order.push_core_loads.Goals as goal
use Rattle.run_trace.proofs.order.push_core_loads.Goals.{then-is_load+in_ok-push, else-is_load}

pub loop-k-init : goal.loop-k-init
loop-k-init c = loads_start c.args.seen c.args.kept.now c.requires.readable c.args.from c.requires.cursor c.args.order.now.items

pub returns-then-all_seen-k-clause-pushed : goal.returns-then-all_seen-k-clause-pushed
returns-then-all_seen-k-clause-pushed c =
    loads_before_more c.args.seen c.args.kept.now c.requires.readable c.args.order.now.items c.loop-k.order.items c.loop-k.k c.loop-k.invariant
    (subst (λ (os : List Op). c.loop-k.k < length os) c.as_slice-ops.ensures.items c.loop-k-test.true)
    (subst (λ (ss : List ℕ). c.args.seen < slice_index ss c.loop-k.k) c.as_slice-all_seen.ensures.items c.if-all_seen-k.true)

pub loop-k-preserved : goal.loop-k-preserved
loop-k-preserved c = elim c.if-is_load.branch [
  | then-is_load+in_ok-push w ↦ rw w.order-is (step_taken c.args.seen c.args.kept.now c.requires.readable c.as_slice-ops.result.now c.as_slice-all_seen.result.now
      c.args.from c.args.order.now.items c.loop-k.order.items _ c.loop-k.k c.as_slice-ops.ensures.items c.as_slice-all_seen.ensures.items
      c.requires.cursor c.loop-k.auto.k c.loop-k-test.true c.if-all_seen-k.false (sym c.is_load.ensures ∙ w.if-is_load.true) c.loop-k.invariant w.in_ok-push.ensures.items)
  | else-is_load w ↦ rw w.order-is (step_passed c.args.seen c.args.kept.now c.requires.readable c.as_slice-ops.result.now c.as_slice-all_seen.result.now
      c.args.from c.args.order.now.items c.loop-k.order.items c.loop-k.k c.as_slice-ops.ensures.items c.as_slice-all_seen.ensures.items
      c.requires.cursor c.loop-k.auto.k c.loop-k-test.true c.if-all_seen-k.false (sym c.is_load.ensures ∙ w.if-is_load.false) c.loop-k.invariant)
]
