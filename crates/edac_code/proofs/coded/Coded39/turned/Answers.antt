use Rattle.std.proofs.Common.{◌≤◌, ◌^◌, arith}
use Rattle.std.proofs.lemmas.Nat.{xor_lt, pow_below, one_shl}
use Rattle.lf_num.specs.Columns.{column}
use Rattle.edac_code.proofs.KeptBits.{column-lt, turned-lt, data_bit-turned, check_bit-turned}
use Rattle.edac_code.proofs.coded.Coded39.turned.Goals as goal

-- A data bit.
pub invariant_of-result : goal.invariant_of-result
invariant_of-result c =
    let cell = c.args.self in
    record {
      whole = rw (one_shl c.args.bit 32 c.if-bit-lt32.true) (xor_lt 32 cell.word (2 ^ c.args.bit) cell.whole (pow_below c.args.bit 32 c.if-bit-lt32.true));
      small = rw c.column.ensures (xor_lt 7 cell.syndrome (column c.args.bit) cell.small (column-lt c.args.bit c.requires));
    }

pub returns-then-bit-lt32-clause-bits : goal.returns-then-bit-lt32-clause-bits
returns-then-bit-lt32-clause-bits c =
    let cell = c.args.self in
    rw (one_shl c.args.bit 32 c.if-bit-lt32.true, c.column.ensures)
    (data_bit-turned cell.word cell.syndrome c.args.bit cell.whole cell.small c.requires c.if-bit-lt32.true)

pub returns-then-bit-lt32-clause-fits : goal.returns-then-bit-lt32-clause-fits
returns-then-bit-lt32-clause-fits c =
    let cell = c.args.self in
    let turned = data_bit-turned cell.word cell.syndrome c.args.bit cell.whole cell.small c.requires c.if-bit-lt32.true in
    rw (one_shl c.args.bit 32 c.if-bit-lt32.true, c.column.ensures, turned) (turned-lt cell.word cell.syndrome c.args.bit cell.whole cell.small c.requires)

-- A check bit.
pub invariant_of-result-2 : goal.invariant_of-result-2
invariant_of-result-2 c =
    let cell = c.args.self in
    record {
      whole = cell.whole;
      small = rw c.column.ensures (xor_lt 7 cell.syndrome (column c.args.bit) cell.small (column-lt c.args.bit c.requires));
    }

pub returns-clause-bits : goal.returns-clause-bits
returns-clause-bits c =
    let cell = c.args.self in
    let high : 32 ≤ c.args.bit = omega (arith, c.if-bit-lt32.false) in
    rw c.column.ensures (check_bit-turned cell.word cell.syndrome c.args.bit cell.whole cell.small c.requires high)

pub returns-clause-fits : goal.returns-clause-fits
returns-clause-fits c =
    let cell = c.args.self in
    let high : 32 ≤ c.args.bit = omega (arith, c.if-bit-lt32.false) in
    let turned = check_bit-turned cell.word cell.syndrome c.args.bit cell.whole cell.small c.requires high in
    rw (c.column.ensures, turned) (turned-lt cell.word cell.syndrome c.args.bit cell.whole cell.small c.requires)
