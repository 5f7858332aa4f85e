-- An array whose values are integers.
use Rattle.std.proofs.Common.{sym}
use Rattle.run_texts.proofs.DocumentLemmas.{integers_of_kind}
use Rattle.run_texts.proofs.values.is_of_kind.Goals as goal

pub returns-then-is_some : goal.returns-then-is_some
returns-then-is_some c =
    rw c.in-Integers.is (integers_of_kind c.in-Integers.most _ _ _ _ c.as_array.ensures (sym c.if-is_some.ensures) c.elements.ensures c.are_integers.ensures)
