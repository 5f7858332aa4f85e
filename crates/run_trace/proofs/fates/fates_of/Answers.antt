use Rattle.std.proofs.Common.{◌∙◌, ◌++◌, ◌∷◌, List, [], ap}
use Rattle.lf_model.specs.declared.trace.Fate.{Fate}
use Rattle.run_trace.proofs.EachFate.{fates_more}
use Rattle.run_trace.proofs.fates.fates_of.Goals as goal

pub loop-i-preserved : goal.loop-i-preserved
loop-i-preserved c = c.in_ok-push.ensures.items
    ∙ (ap (λ (fs : List Fate). fs ++ c.fate_of.result ∷ []) c.loop-i.invariant
    ∙ fates_more c.args.records.now c.args.bus.now c.args.script.now c.loop-i.i _ _ c.loop-i-test.true c.fate_of.ensures)
