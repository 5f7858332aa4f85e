use Rattle.std.proofs.Common.{sym, ◌∙◌}
use Rattle.edac_code.proofs.KeptBits.{syndrome-cell, data_of-cell}
use Rattle.edac_code.proofs.coded.Coded39.read_by_syndrome.Goals as goal

pub returns-then-self-eq0 : goal.returns-then-self-eq0
returns-then-self-eq0 c =
    let cell = c.args.self in
    (syndrome-cell cell.word cell.syndrome cell.whole cell.small ∙ c.if-self-eq0.true, sym (data_of-cell cell.word cell.syndrome cell.whole cell.small))
