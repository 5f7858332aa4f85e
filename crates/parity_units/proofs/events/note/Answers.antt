use Rattle.std.proofs.Common.{◌+◌, ◌<◌, length, sym, ◌∙◌, arith}
use Rattle.parity_units.specs.Events.{befallen, over}
use Rattle.parity_units.proofs.EventLemmas.{keeps_same, keeps_then, over_none, gains_event, follows_past}
use Rattle.parity_units.proofs.events.note.Goals as goal
use Rattle.parity_units.proofs.events.note.Goals.{then-byte, else-byte}

pub loop-i-init : goal.loop-i-init
loop-i-init c = record {
  keeps = keeps_same c.args.ledger.now;
  follows = λ h units follows. rw (over_none c.args.first (befallen c.args.event) h) follows;
}

pub loop-i-preserved : goal.loop-i-preserved
loop-i-preserved c =
    let invariant = c.loop-i.invariant in
    elim c.if-byte.branch [
      | then-byte w ↦ rw w.ledger-is (record {
        keeps = keeps_then c.args.ledger.now c.loop-i.ledger w.note_one.new.ledger invariant.keeps w.note_one.ensures.keeps;
        follows = λ h units follows.
            let within : c.args.first + c.loop-i.i < length c.loop-i.ledger.standing = omega (arith, invariant.keeps.units) in
            w.note_one.ensures.follows (over c.args.first c.loop-i.i (befallen c.args.event) h) (over c.args.first (c.loop-i.i + 1) (befallen c.args.event) h)
            (gains_event c.args.first c.loop-i.i h c.loop-i.ledger within c.args.event (sym (units c.loop-i.i c.loop-i-test.true) ∙ w.if-byte.true))
            (invariant.follows h units follows);
      })
      | else-byte w ↦ rw w.ledger-is (record {
        keeps = invariant.keeps;
        follows = λ h units follows.
            let within : c.args.first + c.loop-i.i < length c.loop-i.ledger.standing = omega (arith, invariant.keeps.units) in
            follows_past c.args.first c.loop-i.i h c.loop-i.ledger within c.args.event (sym (units c.loop-i.i c.loop-i-test.true) ∙ w.if-byte.false)
            (invariant.follows h units follows);
      })
    ]
