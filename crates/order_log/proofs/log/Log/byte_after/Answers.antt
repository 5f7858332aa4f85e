use Rattle.std.proofs.Common.{◌≡◌, suc, ◌-◌, ◌∙◌, sym, subst, take, drop, arith}
use Rattle.order_log.proofs.StoredLemmas.{LeaveAlone, stored_untouched, stored_last}
use Rattle.order_log.proofs.log.Log.byte_after.Goals as goal

pub returns-then-touches-clause-byte : goal.returns-then-touches-clause-byte
returns-then-touches-clause-byte c = λ before.
    let place : c.loop-place.place ≡ suc (c.loop-place.place - 1) = omega arith in
    stored_last c.args.addr c.args.self.now.entries c.args.i (c.loop-place.place - 1) c.index-entry.result.now before
    (omega arith) c.requires (cc) (sym c.touches.ensures ∙ c.if-touches.true)
    (subst (λ n. LeaveAlone c.args.addr (drop n (take c.args.i c.args.self.now.entries))) place c.loop-place.invariant)
    ∙ sym c.byte_put.ensures

pub returns-clause-byte : goal.returns-clause-byte
returns-clause-byte c = λ before.
    let start : c.loop-place.place ≡ 0 = omega arith in
    stored_untouched c.args.addr (take c.args.i c.args.self.now.entries) before
    (subst (λ n. LeaveAlone c.args.addr (drop n (take c.args.i c.args.self.now.entries))) start c.loop-place.invariant)
