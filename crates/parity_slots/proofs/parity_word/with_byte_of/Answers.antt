use Rattle.std.proofs.Common.{arith}
use Rattle.parity_slots.proofs.WordLemmas.{kept_0, kept_1, kept_2, kept_3}
use Rattle.parity_slots.proofs.parity_word.with_byte_of.Goals as goal

pub returns-in-0-clause-others : goal.returns-in-0-clause-others
returns-in-0-clause-others c = λ j lt other. kept_0 c.args.bits c.from-byte.result (omega arith) (omega arith) j lt (λ e. other (omega (arith, e)))

pub returns-in-1-clause-others : goal.returns-in-1-clause-others
returns-in-1-clause-others c = λ j lt other. kept_1 c.args.bits c.from-byte.result (omega arith) (omega arith) j lt (λ e. other (omega (arith, e)))

pub returns-in-2-clause-others : goal.returns-in-2-clause-others
returns-in-2-clause-others c = λ j lt other. kept_2 c.args.bits c.from-byte.result (omega arith) (omega arith) j lt (λ e. other (omega (arith, e)))

pub returns-in_default-clause-others : goal.returns-in_default-clause-others
returns-in_default-clause-others c = λ j lt other. kept_3 c.args.bits c.from-byte.result (omega arith) (omega arith) j lt (λ e. other (omega (arith, e)))
