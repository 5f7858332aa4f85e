use Rattle.std.proofs.Common.{◌∙◌, sym, drop, arith}
use Rattle.std.proofs.lemmas.List.{length-drop}
use Rattle.ledger_audit.proofs.LostSpans.{few_lost}
use Rattle.ledger_audit.proofs.lost.lost_in.Goals as goal

pub note_lost-requires : goal.note_lost-requires
note_lost-requires c = record {
  few = λ k low l is.
      let few = few_lost k (drop c.loop-place.place c.args.order.now) l (sym (c.loop-place.invariant k low) ∙ is) in
      let long = length-drop c.loop-place.place c.args.order.now in
      omega (arith, few, long);
}
