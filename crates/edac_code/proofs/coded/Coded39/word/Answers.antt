use Rattle.std.proofs.Common.{sym}
use Rattle.edac_code.proofs.KeptBits.{data_of-cell}
use Rattle.edac_code.proofs.coded.Coded39.word.Goals as goal

pub returns : goal.returns
returns c = sym (data_of-cell c.args.self.word c.args.self.syndrome c.args.self.whole c.args.self.small)
