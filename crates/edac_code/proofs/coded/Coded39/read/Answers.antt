use Rattle.edac_code.specs.Kept.{bits_of}
use Rattle.edac_code.proofs.Answered.{reads_struck, reads_turned}
use Rattle.edac_code.proofs.KeptBits.{cell_of-lt}
use Rattle.edac_code.proofs.coded.Coded39.read.Goals as goal

pub returns-clause-struck : goal.returns-clause-struck
returns-clause-struck c = reads_struck (bits_of c.args.self) _ c.read_by_syndrome.ensures

pub returns-clause-turned : goal.returns-clause-turned
returns-clause-turned c =
    reads_turned (bits_of c.args.self) _ (cell_of-lt c.args.self.word c.args.self.syndrome c.args.self.whole c.args.self.small) (returns-clause-struck c)
