use Rattle.std.proofs.Common.{◌<◌, length, map, ap, arith}
use Rattle.std.proofs.lemmas.List.{length-map}
use Rattle.lf_model.specs.Course.Arrays.{struck_by}
use Rattle.lf_model.specs.Flips.Moment.{Struck}
use Rattle.coded_words.specs.Words.{value_of, history_of}
use Rattle.coded_words.proofs.ArrayLemmas.{gains, kept_more, seen_same}
use Rattle.coded_words.proofs.words.CodedWords.flip.Goals as goal

pub invariant_of-self : goal.invariant_of-self
invariant_of-self c =
    let words = c.self.inside in
    let ws = words.words.items in
    let hs = map history_of ws in
    let m = Struck c.args.number c.args.bit in
    let place : c.args.place < length hs = rw (← c.self.view_is) at c.requires.place in
    let within : c.args.place < length ws = omega (arith, place, length-map ws history_of) in
    let follows = c.note_flip.ensures.follows c.args.bit _ _ (gains hs c.args.place m place) c.self.invariant.follows in
    let kept = kept_more words c.args.place m c.flip-answer.new.self c.note_flip.new.ledger c.self.invariant c.index_mut.ensures.value within (ap history_of c.flip-answer.ensures.struck) c.note_flip.ensures.keeps follows in
    record { units = kept.0; follows = kept.1; remembered = kept.2 }

pub returns-clause-struck : goal.returns-clause-struck
returns-clause-struck c =
    let words = c.self.inside in
    let ws = words.words.items in
    let place : c.args.place < length (map history_of ws) = rw (← c.self.view_is) at c.requires.place in
    let within : c.args.place < length ws = omega (arith, place, length-map ws history_of) in
    rw (← c.self.view_is)
    (seen_same words c.args.place (struck_by c.args.number c.args.bit) c.flip-answer.new.self c.note_flip.new.ledger c.index_mut.ensures.value within
    (ap history_of c.flip-answer.ensures.struck) (ap value_of c.flip-answer.ensures.struck) c.note_flip.ensures.keeps.flips words.past)
