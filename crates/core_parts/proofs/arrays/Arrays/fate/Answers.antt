use Rattle.std.proofs.Common.{ap, ◌∙◌}
use Rattle.core_parts.proofs.FateLemmas.{fate_is}
use Rattle.core_parts.specs.Fates.{unless_late}
use Rattle.lf_model.specs.declared.trace.Fate.{Fate}
use Rattle.core_parts.proofs.arrays.Arrays.fate.Goals as goal

pub returns : goal.returns
returns c = record {
  fate = λ script core step flip units came is.
      c.unless_late.ensures
      ∙ ap (λ (fate : Fate). unless_late c.fate-cells.result fate) c.unless_late-in_caches.ensures
      ∙ fate_is c.args.self.now c.args.number c.fate-cells.result c.fate-fetch.result c.fate-data.result (record { struck = c.fate-cells.ensures.struck; late = c.fate-cells.ensures.late })
      (record { struck = c.fate-fetch.ensures.struck; late = c.fate-fetch.ensures.late }) (record { struck = c.fate-data.ensures.struck; late = c.fate-data.ensures.late })
      script core step flip units came is;
}
