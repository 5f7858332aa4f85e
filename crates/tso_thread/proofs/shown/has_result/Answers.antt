use Rattle.std.proofs.Common.{◌∙◌, List, ap, subst, sym}
use Rattle.lf_model.specs.ProgramOrder.{program_order}
use Rattle.lf_model.specs.Once.{OnceAtCore}
use Rattle.lf_model.specs.declared.trace.Op.{Op}
use Rattle.tso_thread.proofs.ProgramOrder.{program_order_fits}
use Rattle.tso_thread.proofs.shown.has_result.Goals as goal
use Rattle.tso_thread.specs.ReplayState.{ReadsFit}

pub program_order-requires : goal.program_order-requires
program_order-requires c = record { numbered = subst (λ (os : List Op). OnceAtCore os c.args.core) (sym c.as_slice.ensures.items) c.requires.numbered }

pub new-requires-clause-fit : goal.new-requires-clause-fit
new-requires-clause-fit c =
    let same = c.deref.ensures.value ∙ (c.in_ok-ops.ensures.ops ∙ ap (program_order c.args.core) c.as_slice.ensures.items) in
    subst ReadsFit (sym same) (program_order_fits c.args.core c.args.trace.now.order c.requires.numbered c.requires.fit)
