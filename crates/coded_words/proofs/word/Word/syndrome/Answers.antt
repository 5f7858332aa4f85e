use Rattle.std.proofs.Common.{◌^◌, ap, ◌∙◌}
use Rattle.std.proofs.lemmas.Bool.{ltb-true}
use Rattle.lf_num.specs.Columns.{columns_sum}
use Rattle.coded_words.proofs.word.Word.syndrome.Goals as goal

pub returns : goal.returns
returns c =
    let cell = c.self.inside.cell in
    rw (← c.self.view_is)
    (c.syndrome.ensures.struck cell.value cell.toggled (ltb-true cell.value (2 ^ 32) c.bits.ensures.value) c.bits.ensures.cell.set c.bits.ensures.bits
    ∙ ap columns_sum c.self.invariant.toggled)
