use Rattle.std.proofs.Common.{◌≡◌, ◌*◌, ◌^◌}
use Rattle.lf_num.specs.Bits.{sum_below}
use Rattle.edac_code.specs.Code.{check_bit}
use Rattle.edac_code.proofs.check_bits.Given as goal

abbrev pub invariant-loop-j : goal.invariant-loop-j
invariant-loop-j l = l.bits ≡ sum_below l.j (λ j. check_bit l.word j * 2 ^ j)
