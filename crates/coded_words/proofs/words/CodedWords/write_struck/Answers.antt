use Rattle.std.proofs.Common.{◌<◌, length, map, ap, arith}
use Rattle.std.proofs.lemmas.List.{length-map}
use Rattle.flip_ledger.specs.Follows.{IsWrite}
use Rattle.lf_model.specs.Flips.{word_budget}
use Rattle.lf_model.specs.Flips.Moment.{Written}
use Rattle.coded_words.specs.Ways.{how_of}
use Rattle.coded_words.specs.Words.{value_of, history_of}
use Rattle.coded_words.proofs.ArrayLemmas.{gains, is_write, kept_more, seen_more}
use Rattle.coded_words.proofs.words.CodedWords.write_struck.Goals as goal

pub invariant_of-self : goal.invariant_of-self
invariant_of-self c =
    let words = c.self.inside in
    let ws = words.words.items in
    let hs = map history_of ws in
    let m = Written (how_of c.args.how) in
    let place : c.args.place < length hs = rw (← c.self.view_is) at c.requires in
    let within : c.args.place < length ws = omega (arith, place, length-map ws history_of) in
    let is : IsWrite c.write.result (how_of c.args.how) = rw c.write.ensures (is_write c.args.how) in
    let follows = c.written.ensures.follows word_budget (how_of c.args.how) _ _ is (gains hs c.args.place m place) c.self.invariant.follows in
    let kept = kept_more words c.args.place m c.write-2.new.self c.written.new.self c.self.invariant c.index_mut.ensures.value within (ap history_of c.write-2.ensures) c.written.ensures.keeps follows in
    record { units = kept.0; follows = kept.1; remembered = kept.2 }

pub returns : goal.returns
returns c =
    let words = c.self.inside in
    let ws = words.words.items in
    let place : c.args.place < length (map history_of ws) = rw (← c.self.view_is) at c.requires in
    let within : c.args.place < length ws = omega (arith, place, length-map ws history_of) in
    rw (← c.self.view_is)
    (seen_more words c.args.place (Written (how_of c.args.how)) c.args.v c.write-2.new.self c.written.new.self c.index_mut.ensures.value within (ap history_of c.write-2.ensures) (ap value_of c.write-2.ensures) c.written.ensures.keeps.flips)
