use Rattle.std.proofs.Common.{◌<◌, length, map, sym, ap, ◌∙◌, arith}
use Rattle.std.proofs.lemmas.List.{length-map}
use Rattle.coded_words.specs.WordState.{answer_of}
use Rattle.coded_words.specs.Words.{history_of}
use Rattle.coded_words.proofs.ArrayLemmas.{history_here, word_here}
use Rattle.coded_words.proofs.words.CodedWords.read.Goals as goal

pub returns-clause-answer : goal.returns-clause-answer
returns-clause-answer c =
    let ws = c.self.inside.words.items in
    let place : c.args.place < length (map history_of ws) = rw (← c.self.view_is) at c.requires in
    let within : c.args.place < length ws = omega (arith, place, length-map ws history_of) in
    rw (← c.self.view_is) (c.read.ensures.answer ∙ ap answer_of (sym (word_here c.self.inside c.args.place c.index.ensures within)))

pub returns-clause-budget : goal.returns-clause-budget
returns-clause-budget c =
    let ws = c.self.inside.words.items in
    let place : c.args.place < length (map history_of ws) = rw (← c.self.view_is) at c.requires in
    let within : c.args.place < length ws = omega (arith, place, length-map ws history_of) in
    rw (← c.self.view_is, history_here ws c.args.place c.index.ensures within) c.read.ensures.budget
