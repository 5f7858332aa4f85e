use Rattle.std.proofs.Common.{sym, ap, ap₂, ◌∙◌}
use Rattle.std.specs.Prelude.{bit_xor}
use Rattle.lf_num.specs.Columns.{columns_sum}
use Rattle.replay_units.proofs.TurnedBits.{none_turned, syndrome_one, syndrome_two}
use Rattle.replay_units.proofs.bits.Bits.syndrome.Goals as goal

pub returns-in-Empty : goal.returns-in-Empty
returns-in-Empty c = λ flips is. ap columns_sum (sym (none_turned flips (rw c.in-Empty.is at is)))

pub returns-in-One : goal.returns-in-One
returns-in-One c = λ flips is.
    let all = rw c.in-One.is at c.requires in
    c.column.ensures ∙ syndrome_one flips c.in-One.bit all.0 (rw c.in-One.is at is)

pub returns-in-Two : goal.returns-in-Two
returns-in-Two c = λ flips is.
    let all = rw c.in-Two.is at c.requires in
    ap₂ bit_xor c.before.column-in-Two.ensures c.column-in-Two-2.ensures ∙ syndrome_two flips c.in-Two.older c.in-Two.newer all.1.0 all.0 (rw c.in-Two.is at is)
