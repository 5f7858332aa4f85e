use Rattle.std.proofs.Common.{◌<◌, length, map, ap, arith}
use Rattle.std.proofs.lemmas.List.{length-map}
use Rattle.lf_model.specs.Flips.{word_budget}
use Rattle.lf_model.specs.Flips.Moment.{Named}
use Rattle.coded_words.specs.Words.{value_of, history_of}
use Rattle.coded_words.proofs.ArrayLemmas.{more, gains, kept_more, seen_same}
use Rattle.coded_words.proofs.words.CodedWords.name.Goals as goal

pub invariant_of-self : goal.invariant_of-self
invariant_of-self c =
    let words = c.self.inside in
    let ws = words.words.items in
    let hs = map history_of ws in
    let place : c.args.place < length hs = rw (← c.self.view_is) at c.requires in
    let within : c.args.place < length ws = omega (arith, place, length-map ws history_of) in
    let follows = c.named.ensures.follows word_budget _ _ (gains hs c.args.place Named place) c.self.invariant.follows in
    let kept = kept_more words c.args.place Named c.name.new.self c.named.new.self c.self.invariant c.index_mut.ensures.value within (ap history_of c.name.ensures) c.named.ensures.keeps follows in
    record { units = kept.0; follows = kept.1; remembered = kept.2 }

pub returns : goal.returns
returns c =
    let words = c.self.inside in
    let ws = words.words.items in
    let place : c.args.place < length (map history_of ws) = rw (← c.self.view_is) at c.requires in
    let within : c.args.place < length ws = omega (arith, place, length-map ws history_of) in
    rw (← c.self.view_is)
    (seen_same words c.args.place (more Named) c.name.new.self c.named.new.self c.index_mut.ensures.value within (ap history_of c.name.ensures) (ap value_of c.name.ensures) c.named.ensures.keeps.flips words.past)
