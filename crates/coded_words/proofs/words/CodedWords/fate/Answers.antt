use Rattle.std.proofs.Common.{arith}
use Rattle.std.proofs.lemmas.List.{length-map}
use Rattle.lf_model.specs.Flips.{word_budget}
use Rattle.coded_words.specs.Words.{history_of}
use Rattle.coded_words.proofs.words.CodedWords.fate.Goals as goal

pub returns-clause-late : goal.returns-clause-late
returns-clause-late c =
    let words = c.self.inside in
    let ws = words.words.items in
    rw (← c.self.view_is) (λ none. c.fate.ensures.late word_budget _ c.self.invariant.follows (λ unit lt. none unit (omega (arith, lt, c.self.invariant.units, length-map ws history_of))))
