use Rattle.ledger_audit.proofs.LostSpans.{can_count}
use Rattle.ledger_audit.proofs.lost.before_in.Goals as goal

pub note_kept-requires-clause-few_first : goal.note_kept-requires-clause-few_first
note_kept-requires-clause-few_first c = λ k low.
    (can_count k _ c.args.order.now c.loop-place.place _ (c.loop-place.invariant k low) c.loop-place-test.true c.loop-place.auto.place c.requires.few).0

pub note_kept-requires-clause-few_last : goal.note_kept-requires-clause-few_last
note_kept-requires-clause-few_last c = λ k low.
    (can_count k _ c.args.order.now c.loop-place.place _ (c.loop-place.invariant k low) c.loop-place-test.true c.loop-place.auto.place c.requires.few).1
