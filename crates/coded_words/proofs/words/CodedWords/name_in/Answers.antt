use Rattle.std.proofs.Common.{◌<◌, length, map, sym, ap, ◌∙◌, arith}
use Rattle.std.proofs.lemmas.List.{length-map, length-set}
use Rattle.lf_model.specs.Caches.Slot.{history_at}
use Rattle.lf_model.specs.Flips.{word_budget}
use Rattle.coded_words.specs.Kept.{unit_histories}
use Rattle.coded_words.specs.Past.{past_at, named_behind, named_since}
use Rattle.coded_words.specs.Words.{value_of, history_of}
use Rattle.coded_words.proofs.ArrayLemmas.{histories_set, seen_same}
use Rattle.coded_words.proofs.PastLemmas.{was_named, remembered_named}
use Rattle.coded_words.proofs.words.CodedWords.name_in.Goals as goal

pub invariant_of-self : goal.invariant_of-self
invariant_of-self c =
    let words = c.self.inside in
    let kept = c.self.invariant in
    let ws = words.words.items in
    let hs = map history_of ws in
    let keeps = c.named_in.ensures.keeps in
    let place : c.args.place < length hs = rw (← c.self.view_is) at c.requires.place in
    let ended : c.args.turn < length words.past = rw (← c.self.view_is) at c.requires.turn in
    let within : c.args.place < length ws = omega (arith, place, length-map ws history_of) in
    let set = histories_set ws c.args.place c.index_mut.ensures.value within (named_behind (history_at c.args.place (past_at c.args.turn words.past))) c.name_then.new.self (ap history_of c.name_then.ensures) in
    record {
      units = keeps.units ∙ kept.units ∙ sym (length-set ws c.args.place c.name_then.new.self);
      follows = rw set
          (c.named_in.ensures.follows word_budget (unit_histories hs) (unit_histories (past_at c.args.turn words.past)) _ (kept.remembered.remembers c.args.turn ended)
          (was_named hs words.past words.ledger c.args.place c.args.turn place ended kept.remembered) kept.follows);
      remembered = rw (set, c.change.ensures.value)
          (remembered_named hs words.past words.ledger c.args.place c.args.turn place ended kept.remembered c.named_in.new.self keeps.units keeps.turn
          (λ t h lt remembers. keeps.remembers word_budget t h lt remembers));
    }

pub returns : goal.returns
returns c =
    let words = c.self.inside in
    let ws = words.words.items in
    let place : c.args.place < length (map history_of ws) = rw (← c.self.view_is) at c.requires.place in
    let within : c.args.place < length ws = omega (arith, place, length-map ws history_of) in
    rw (← c.self.view_is, c.change.ensures.value)
    (seen_same words c.args.place (named_behind (history_at c.args.place (past_at c.args.turn words.past))) c.name_then.new.self c.named_in.new.self c.index_mut.ensures.value within
    (ap history_of c.name_then.ensures) (ap value_of c.name_then.ensures) c.named_in.ensures.keeps.flips (named_since c.args.turn c.args.place words.past))
