use Rattle.std.proofs.Common.{lit<}
use Rattle.edac_code.proofs.KeptBits.{cell_of-fresh, cell_of-lt}
use Rattle.edac_code.proofs.coded.Coded39.of.Goals as goal

pub returns-clause-code : goal.returns-clause-code
returns-clause-code c = cell_of-fresh c.args.word

pub returns-clause-fits : goal.returns-clause-fits
returns-clause-fits c = cell_of-lt c.args.word 0 c.ranges.word.fits (lit< tt)
