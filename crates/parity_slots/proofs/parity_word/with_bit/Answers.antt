use Rattle.std.proofs.Common.{w8, sym, ap, ◌∙◌, arith}
use Rattle.std.specs.Int.{from_bool}
use Rattle.std.proofs.lemmas.Nat.Bits.{bit_at_set_same, bit_at_set_other, bit_at_clear_same, bit_at_clear_other}
use Rattle.parity_slots.proofs.parity_word.with_bit.Goals as goal

pub returns-then-on-clause-here : goal.returns-then-on-clause-here
returns-then-on-clause-here c = bit_at_set_same w8 c.args.bits c.args.k (omega arith) ∙ ap from_bool (sym c.if-on.true)

pub returns-then-on-clause-others : goal.returns-then-on-clause-others
returns-then-on-clause-others c = λ j lt other. bit_at_set_other w8 c.args.bits c.args.k (omega arith) j other

pub returns-else-on-clause-here : goal.returns-else-on-clause-here
returns-else-on-clause-here c = bit_at_clear_same w8 c.args.bits c.args.k (omega arith) ∙ ap from_bool (sym c.if-on.false)

pub returns-else-on-clause-others : goal.returns-else-on-clause-others
returns-else-on-clause-others c = λ j lt other. bit_at_clear_other w8 c.args.bits c.args.k (omega arith) j (omega (arith, lt)) other
