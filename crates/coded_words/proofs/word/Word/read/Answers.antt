use Rattle.std.proofs.Common.{ℕ, ◌≤◌, List, length, ap, ◌∙◌, subst, arith}
use Rattle.edac_code.specs.Reading.{read_of}
use Rattle.coded_words.specs.WordState.{answer_of}
use Rattle.coded_words.proofs.word.Word.read.Goals as goal

pub returns-clause-answer : goal.returns-clause-answer
unfolding answer_of
returns-clause-answer c = rw (← c.self.view_is) (c.read.ensures.answer ∙ ap (read_of c.self.inside.cell.value) c.self.invariant.toggled)

pub returns-clause-budget : goal.returns-clause-budget
returns-clause-budget c =
    let few : length c.self.inside.cell.toggled ≤ 2 = omega (arith, c.read.ensures.cell.few, c.read.ensures.cell.in_budget) in
    rw (← c.self.view_is) (record { few = subst (λ (bits : List ℕ). length bits ≤ 2) c.self.invariant.toggled few })
