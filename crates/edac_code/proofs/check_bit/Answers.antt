use Rattle.std.proofs.Common.{◌∙◌, ap, ℕ, ◌%◌}
use Rattle.lf_num.specs.Bits.{ones_below}
use Rattle.edac_code.proofs.Checks.{check_bit-computed}
use Rattle.edac_code.proofs.check_bit.Goals as goal

pub returns : goal.returns
returns c =
    check_bit-computed c.args.word c.args.j _ c.ranges.word.fits c.requires
    (c.odd64-odd.ensures.parity ∙ ap (λ (x : ℕ). ones_below 64 x % 2) c.from.ensures)
