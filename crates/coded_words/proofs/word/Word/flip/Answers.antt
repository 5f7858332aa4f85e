use Rattle.ft_cells.proofs.HistoryLemmas.{cell_struck}
use Rattle.coded_words.proofs.word.Word.flip.Goals as goal

pub invariant_of-self : goal.invariant_of-self
invariant_of-self c =
    let word = c.self.inside in
    rw c.change.ensures.value
    (cell_struck word.history c.args.number c.args.bit word.cell c.flip-answer.new.self c.flip-answer.result c.self.invariant c.flip-answer.ensures.flips)
