use Rattle.std.proofs.Common.{◌∙◌, ◌*◌, ◌^◌, ℕ, sym, ap, add-one, arith}
use Rattle.lf_num.specs.Bits.{sum_below}
use Rattle.lf_num.proofs.Sums.{sum_below-none}
use Rattle.edac_code.specs.Code.{check_bit}
use Rattle.edac_code.proofs.Checks.{more_checks, all_checks, check_bits-lt}
use Rattle.edac_code.proofs.check_bits.Goals as goal

pub loop-j-init : goal.loop-j-init
loop-j-init c = sym (sum_below-none (λ j. check_bit c.args.word j * 2 ^ j))

pub overflow_add-bits : goal.overflow_add-bits
overflow_add-bits c = record { fits = (more_checks c.args.word c.loop-j.j _ _ c.loop-j-test.true c.loop-j.invariant c.check_bit.ensures).1 }

pub loop-j-preserved : goal.loop-j-preserved
loop-j-preserved c =
    (more_checks c.args.word c.loop-j.j _ _ c.loop-j-test.true c.loop-j.invariant c.check_bit.ensures).0
    ∙ ap (λ (n : ℕ). sum_below n (λ j. check_bit c.args.word j * 2 ^ j)) (sym (add-one c.loop-j.j))

pub returns-clause-value : goal.returns-clause-value
returns-clause-value c = all_checks c.args.word c.loop-j.j _ c.loop-j-test.false c.loop-j.auto.j-end c.loop-j.invariant

pub returns-clause-fits : goal.returns-clause-fits
returns-clause-fits c =
    let value = all_checks c.args.word c.loop-j.j _ c.loop-j-test.false c.loop-j.auto.j-end c.loop-j.invariant in
    omega (arith, check_bits-lt c.args.word, value)
