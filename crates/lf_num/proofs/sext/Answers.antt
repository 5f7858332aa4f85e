use Rattle.std.proofs.Common.{◌∙◌}
use Rattle.lf_num.proofs.SignLemmas.{extended_below, extended_from, sign_repeated-extended}
use Rattle.lf_num.proofs.sext.Goals as goal

pub returns-then-v-sign_weight-clause-bits : goal.returns-then-v-sign_weight-clause-bits
returns-then-v-sign_weight-clause-bits c =
    extended_below c.args.v c.args.width c.requires.wide c.requires.narrow c.if-v-sign_weight.true
    ∙ sign_repeated-extended c.args.v c.args.width c.requires.wide c.requires.narrow c.requires.value

pub returns-else-v-sign_weight-clause-value : goal.returns-else-v-sign_weight-clause-value
returns-else-v-sign_weight-clause-value c =
    extended_from c.args.v c.args.width c.requires.wide c.requires.narrow c.requires.value c.if-v-sign_weight.false

pub returns-else-v-sign_weight-clause-bits : goal.returns-else-v-sign_weight-clause-bits
returns-else-v-sign_weight-clause-bits c =
    extended_from c.args.v c.args.width c.requires.wide c.requires.narrow c.requires.value c.if-v-sign_weight.false
    ∙ sign_repeated-extended c.args.v c.args.width c.requires.wide c.requires.narrow c.requires.value
