use Rattle.lf_model.specs.Caches.Slot.{history_at}
use Rattle.coded_words.specs.Past.{past_at, GoesOn}
use Rattle.coded_words.proofs.PastLemmas.{cell_named}
use Rattle.coded_words.proofs.word.Word.name_then.Goals as goal

pub invariant_of-self : goal.invariant_of-self
invariant_of-self c =
    let word = c.self.inside in
    let on : GoesOn (history_at c.args.place (past_at c.args.turn c.args.past.now)) word.history = rw (← c.self.view_is) at c.requires in
    rw c.change.ensures.value (cell_named (history_at c.args.place (past_at c.args.turn c.args.past.now)) word.history word.cell on c.self.invariant)
