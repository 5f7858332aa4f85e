use Rattle.coded_words.proofs.word.Word.name.Goals as goal

pub invariant_of-self : goal.invariant_of-self
invariant_of-self c = rw c.change.ensures.value (record { toggled = c.self.invariant.toggled; hits = c.self.invariant.hits })
