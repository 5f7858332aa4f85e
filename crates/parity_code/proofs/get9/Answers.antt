use Rattle.std.proofs.Common.{◌≡◌, ◌≢◌, ◌/◌, ◌%◌, ◌^◌, arith}
use Rattle.std.proofs.lemmas.Bool.Decides.{nat_tests}
use Rattle.parity_code.specs.Parity.{parity}
use Rattle.parity_code.proofs.ParityLemmas.{reads_even, reads_odd}
use Rattle.parity_code.proofs.get9.Goals as goal

pub returns-then-odd8-is_odd-clause-struck : goal.returns-then-odd8-is_odd-clause-struck
returns-then-odd8-is_odd-clause-struck c =
    let even : c.args.c / 2 ^ 8 ≡ parity (c.args.c % 2 ^ 8) = grind (arith, nat_tests) in
    λ byte turned. reads_even c.args.c byte turned c.requires even

pub returns-else-odd8-is_odd-clause-struck : goal.returns-else-odd8-is_odd-clause-struck
returns-else-odd8-is_odd-clause-struck c =
    let odd : c.args.c / 2 ^ 8 ≢ parity (c.args.c % 2 ^ 8) = grind (arith, nat_tests) in
    λ byte turned. reads_odd c.args.c byte turned c.requires odd
