use Rattle.replay_units.proofs.TurnedBits.{fixed_one, fixed_else}
use Rattle.replay_units.proofs.bits.Bits.is_fixed.Goals as goal

pub returns-in-One : goal.returns-in-One
returns-in-One c = λ flips is.
    let all = rw c.in-One.is at c.requires in
    fixed_one flips c.in-One.field-0 all.0 (rw c.in-One.is at is)

pub returns-in_default : goal.returns-in_default
returns-in_default c = λ flips is. fixed_else c.args.self flips c.requires is c.in_default.not-One
