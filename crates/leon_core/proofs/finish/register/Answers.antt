use Rattle.std.proofs.Common.{nat_eq, false, ◌≡◌, arith}
use Rattle.std.proofs.lemmas.Bool.Decides.{nat_tests}
use Rattle.leon_core.proofs.finish.register.Goals as goal

pub returns-clause-shown : goal.returns-clause-shown
returns-clause-shown c = λ quiet named phase.
    let other : nat_eq c.args.n 0 ≡ false = grind (arith, nat_tests, c.if-n-eq0.false) in
    rw other (c.cell_value.ensures.shown quiet named phase)
