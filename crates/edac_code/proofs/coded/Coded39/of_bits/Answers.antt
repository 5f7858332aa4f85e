use Rattle.std.proofs.Common.{arith}
use Rattle.edac_code.proofs.KeptBits.{syndrome-lt, cell_of-parts}
use Rattle.edac_code.proofs.coded.Coded39.of_bits.Goals as goal

pub invariant_of-result : goal.invariant_of-result
invariant_of-result c = record {
  whole = omega (arith, c.data.ensures);
  small = rw c.syndrome39.ensures.value (syndrome-lt c.args.bits c.requires);
}

pub returns : goal.returns
returns c = rw (c.data.ensures, c.syndrome39.ensures.value) (cell_of-parts c.args.bits)
