use Rattle.std.proofs.Common.{◌≡◌, ◌+◌, ◌<◌, ◌≤◌, ℕ, length, map, ap, ◌∙◌, arith}
use Rattle.flip_ledger.specs.Ledger.{Ledger}
use Rattle.lf_model.specs.Flips.{word_budget}
use Rattle.coded_words.specs.Kept.{unit_histories}
use Rattle.coded_words.specs.Words.{history_of}
use Rattle.coded_words.proofs.PastLemmas.{remembered_ended}
use Rattle.coded_words.proofs.words.CodedWords.end_turn.Goals as goal

pub invariant_of-self : goal.invariant_of-self
invariant_of-self c =
    let words = c.self.inside in
    let kept = c.self.invariant in
    let hs = map history_of words.words.items in
    let units : length c.begin.new.self.standing ≡ length words.ledger.standing = ap (λ (l : Ledger). length l.standing) c.begin.ensures.begun in
    let turn : c.begin.new.self.turn ≡ length words.past + 1 = ap (λ (l : Ledger). l.turn) c.begin.ensures.begun ∙ ap (λ (n : ℕ). n + 1) (c.turn.ensures ∙ kept.remembered.turn) in
    let from : words.ledger.turn ≤ length words.past = omega (arith, kept.remembered.turn) in
    let before : length words.past < c.turn.result + 1 = omega (arith, c.turn.ensures, kept.remembered.turn) in
    record {
      units = units ∙ kept.units;
      follows = c.begin.ensures.follows word_budget _ kept.follows;
      remembered = rw c.change.ensures.value
          (remembered_ended hs words.past words.ledger c.begin.new.self units turn kept.remembered (λ t h remembers. c.begin.ensures.remembers word_budget t h remembers)
          (c.begin.ensures.remembered word_budget (length words.past) (unit_histories hs) from before kept.follows));
    }
