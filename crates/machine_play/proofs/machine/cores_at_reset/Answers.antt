use Rattle.std.proofs.Common.{◌∙◌, ◌++◌, [], ◌∷◌, List, ap₂, sym}
use Rattle.core_parts.specs.CoreValue.{CoreValue}
use Rattle.machine_play.proofs.Starting.{cores_next}
use Rattle.machine_play.proofs.machine.cores_at_reset.Goals as goal

pub loop-number-preserved : goal.loop-number-preserved
loop-number-preserved c =
    c.in_ok-push.ensures.items
    ∙ (ap₂ (λ (vs : List CoreValue) (v : CoreValue). vs ++ v ∷ []) c.loop-number.invariant c.in_ok-new.ensures.reset
    ∙ sym (cores_next c.args.s.now c.loop-number.number))
