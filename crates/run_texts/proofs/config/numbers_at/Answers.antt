-- The numbers of the array at the key.
use Rattle.std.proofs.lemmas.Result.{IfOk-weaker}
use Rattle.run_texts.proofs.DocumentLemmas.{numbers_of_elements}
use Rattle.run_texts.proofs.config.numbers_at.Goals as goal

pub returns-in-Some : goal.returns-in-Some
returns-in-Some c =
    IfOk-weaker c.numbers.result _ _ (λ numbers all. numbers_of_elements _ _ _ _ _ c.in-Some.ensures c.elements.ensures all) c.numbers.ensures
