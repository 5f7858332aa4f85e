use Rattle.std.proofs.Common.{◌%◌, ◌^◌, ◌<◌, ℕ, ◌∙◌, ap, arith}
use Rattle.lf_num.specs.Bits.{ones_below}
use Rattle.lf_num.proofs.Sums.{from_bool-odd, ones_below-wider}
use Rattle.lf_num.proofs.odd8.Goals as goal

pub returns : goal.returns
returns c =
    let byte : c.args.v < 2 ^ 8 = c.ranges.v.fits in
    let wide : c.args.v < 2 ^ 64 = omega arith in
    let count = c.ones.ensures.count ∙ ap (ones_below 64) c.from.ensures ∙ ones_below-wider 64 8 c.args.v wide byte in
    record { parity = from_bool-odd c.ones.result ∙ ap (λ (x : ℕ). x % 2) count }
