use Rattle.std.proofs.Common.{◌<◌, length, map, sym, ap, ◌∙◌, arith}
use Rattle.std.proofs.lemmas.List.{length-map}
use Rattle.lf_model.specs.Flips.{syndrome}
use Rattle.coded_words.specs.Words.{history_of}
use Rattle.coded_words.proofs.ArrayLemmas.{history_here}
use Rattle.coded_words.proofs.words.CodedWords.syndrome.Goals as goal

pub returns : goal.returns
returns c =
    let ws = c.self.inside.words.items in
    let place : c.args.place < length (map history_of ws) = rw (← c.self.view_is) at c.requires in
    let within : c.args.place < length ws = omega (arith, place, length-map ws history_of) in
    rw (← c.self.view_is) (c.syndrome.ensures ∙ ap syndrome (sym (history_here ws c.args.place c.index.ensures within)))
