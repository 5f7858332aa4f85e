-- An array of few enough numbers in range.
use Rattle.run_texts.proofs.DocumentLemmas.{integers_within}
use Rattle.run_texts.proofs.values.is_within.Goals as goal

pub returns-then-values-most : goal.returns-then-values-most
returns-then-values-most c =
    rw (← c.in-Integers.ensures) (integers_within c.in-Integers.most _ _ _ _ c.if-values-most.true c.elements-values.ensures c.are_in_range.ensures)
