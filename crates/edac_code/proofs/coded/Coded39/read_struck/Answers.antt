use Rattle.std.proofs.Common.{ap, ◌∙◌}
use Rattle.edac_code.specs.Code.{data_of}
use Rattle.edac_code.proofs.KeptBits.{syndrome-cell}
use Rattle.edac_code.proofs.coded.Coded39.read_struck.Goals as goal

pub returns-in-Some : goal.returns-in-Some
returns-in-Some c =
    let cell = c.args.self in
    let found = c.in-Some.ensures.found in
    (found.0, syndrome-cell cell.word cell.syndrome cell.whole cell.small ∙ found.1, c.word.ensures ∙ ap data_of c.turned.ensures.bits)

pub returns-in-None : goal.returns-in-None
returns-in-None c =
    let cell = c.args.self in
    (syndrome-cell cell.word cell.syndrome cell.whole cell.small, c.requires, c.in-None.ensures.absent)
