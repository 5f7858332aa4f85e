use Rattle.std.proofs.Common.{sym}
use Rattle.edac_code.specs.Kept.{bits_of}
use Rattle.edac_code.proofs.Answered.{has_struck_syndrome, sum_of_turned}
use Rattle.edac_code.proofs.KeptBits.{syndrome-cell, cell_of-lt}
use Rattle.edac_code.proofs.coded.Coded39.syndrome.Goals as goal

pub returns-clause-value : goal.returns-clause-value
returns-clause-value c = sym (syndrome-cell c.args.self.word c.args.self.syndrome c.args.self.whole c.args.self.small)

pub returns-clause-struck : goal.returns-clause-struck
returns-clause-struck c = has_struck_syndrome (bits_of c.args.self) _ (returns-clause-value c)

pub returns-clause-turned : goal.returns-clause-turned
returns-clause-turned c =
    sum_of_turned (bits_of c.args.self) _ (cell_of-lt c.args.self.word c.args.self.syndrome c.args.self.whole c.args.self.small) (returns-clause-struck c)
