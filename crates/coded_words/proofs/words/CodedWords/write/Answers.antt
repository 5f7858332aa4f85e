use Rattle.std.proofs.Common.{◌≡◌, ◌<◌, false, nat_lt, length, map, refl, sym, ap, ◌∙◌, arith}
use Rattle.std.proofs.lemmas.List.{length-map}
use Rattle.lf_model.specs.Flips.{standing, word_budget}
use Rattle.lf_model.specs.Flips.Moment.{Written}
use Rattle.coded_words.specs.Ways.{how_of}
use Rattle.coded_words.specs.Words.{value_of, history_of}
use Rattle.coded_words.proofs.ArrayLemmas.{unstruck_written, keeps_same, kept_more, seen_more}
use Rattle.coded_words.proofs.words.CodedWords.write.Goals as goal

pub invariant_of-self : goal.invariant_of-self
invariant_of-self c =
    let words = c.self.inside in
    let ws = words.words.items in
    let m = Written (how_of c.args.how) in
    let place : c.args.place < length (map history_of ws) = rw (← c.self.view_is) at c.requires in
    let within : c.args.place < length ws = omega (arith, place, length-map ws history_of) in
    let unstruck : nat_lt 0 (length (standing word_budget c.index.result.now.history)) ≡ false = sym c.is_struck.ensures ∙ c.if-is_struck.false in
    let follows = unstruck_written ws c.args.place c.index.ensures within words.ledger c.self.invariant.units c.self.invariant.follows c.args.how unstruck in
    let kept = kept_more words c.args.place m c.write.new.self words.ledger c.self.invariant c.index_mut.ensures.value within (ap history_of c.write.ensures) (keeps_same words.ledger) follows in
    record { units = kept.0; follows = kept.1; remembered = kept.2 }

pub returns : goal.returns
returns c =
    let words = c.self.inside in
    let ws = words.words.items in
    let place : c.args.place < length (map history_of ws) = rw (← c.self.view_is) at c.requires in
    let within : c.args.place < length ws = omega (arith, place, length-map ws history_of) in
    rw (← c.self.view_is)
    (seen_more words c.args.place (Written (how_of c.args.how)) c.args.v c.write.new.self words.ledger c.index_mut.ensures.value within (ap history_of c.write.ensures) (ap value_of c.write.ensures) refl)
