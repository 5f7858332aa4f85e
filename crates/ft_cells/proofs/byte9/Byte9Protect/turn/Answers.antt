use Rattle.std.proofs.Common.{◌^◌, arith}
use Rattle.std.proofs.lemmas.Nat.{xor_lt, pow_below, one_shl}
use Rattle.ft_cells.proofs.byte9.Byte9Protect.turn.Goals as goal

pub returns-clause-fits : goal.returns-clause-fits
returns-clause-fits c =
    rw (one_shl c.args.bit 16 (omega arith)) (xor_lt 9 c.args.c (2 ^ c.args.bit) c.requires.code (pow_below c.args.bit 9 c.requires.bit))
