use Rattle.std.proofs.Common.{refl}
use Rattle.ft_regfile.specs.Registers.{value_shown}
use Rattle.leon_core.proofs.finish.cell_value.Goals as goal

pub returns-clause-shown : goal.returns-clause-shown
unfolding value_shown
returns-clause-shown c = λ quiet named phase. rw (c.peek.ensures, c.cell.ensures.cell) refl
