use Rattle.replay_units.proofs.TurnedBits.{bad_two, bad_else}
use Rattle.replay_units.proofs.bits.Bits.is_bad.Goals as goal

pub returns : goal.returns
returns c = λ flips is.
    let all = rw c.in-Two.is at c.requires in
    bad_two flips c.in-Two.older c.in-Two.newer all.1.0 all.0 (rw c.in-Two.is at is)

pub returns-in_default : goal.returns-in_default
returns-in_default c = λ flips is. bad_else c.args.self flips c.requires is c.in_default.not-Two
