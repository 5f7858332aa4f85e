use Rattle.std.proofs.Common.{◌≡◌, ℕ, ◌+◌, ◌*◌, List, sym, subst, arith}
use Rattle.flip_ledger.specs.Follows.{Follows}
use Rattle.lf_model.specs.Flips.{Moment, byte_budget}
use Rattle.parity_units.specs.Events.{befallen, over}
use Rattle.parity_units.proofs.EventLemmas.{over_none, keeps_same, keeps_then}
use Rattle.parity_slots.proofs.WordLemmas.{over_more, word_units}
use Rattle.parity_slots.proofs.parity_word.note_words.Goals as goal

pub loop-w-init : goal.loop-w-init
loop-w-init c = record {
  keeps = keeps_same c.args.ledger.now;
  follows = λ h are follows. subst (λ (g : ℕ → List Moment). Follows byte_budget g c.args.ledger.now) (sym (over_none c.args.first (befallen c.args.event) h)) follows;
}

pub loop-w-preserved : goal.loop-w-preserved
loop-w-preserved c =
    let first = c.args.first in
    let words = c.args.words.now in
    record {
      keeps = keeps_then c.args.ledger.now c.loop-w.ledger c.note_word.new.ledger c.loop-w.invariant.keeps c.note_word.ensures.keeps;
      follows = λ h are follows.
          let more : 4 * c.loop-w.w + 4 ≡ 4 * (c.loop-w.w + 1) = omega arith in
          subst (λ (n : ℕ). Follows byte_budget (over c.args.first n (befallen c.args.event) h) c.note_word.new.ledger) more
          (subst (λ (g : ℕ → List Moment). Follows byte_budget g c.note_word.new.ledger) (over_more c.args.first (4 * c.loop-w.w) 4 (befallen c.args.event) h)
          (c.note_word.ensures.follows (over c.args.first (4 * c.loop-w.w) (befallen c.args.event) h)
          (word_units c.args.first c.loop-w.w c.args.words.now (befallen c.args.event) h c.loop-w-test.true are) (c.loop-w.invariant.follows h are follows)));
    }
