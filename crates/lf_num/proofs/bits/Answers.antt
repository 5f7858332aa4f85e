use Rattle.std.proofs.Common.{◌∙◌, sym}
use Rattle.lf_num.proofs.Sums.{field-value, masked}
use Rattle.lf_num.proofs.bits.Goals as goal

pub returns-clause-value : goal.returns-clause-value
returns-clause-value c = masked c.args.w c.args.hi c.args.lo c.requires.ordered c.requires.within

pub returns-clause-field : goal.returns-clause-field
returns-clause-field c =
    masked c.args.w c.args.hi c.args.lo c.requires.ordered c.requires.within ∙ sym (field-value c.args.w c.args.hi c.args.lo)
