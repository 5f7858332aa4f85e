use Rattle.std.proofs.Common.{◌≡◌, ap, sym, ◌∙◌, arith}
use Rattle.ahb_bus.specs.Grant.{granted_from}
use Rattle.ahb_bus.proofs.GrantLemmas.{granted_here, granted_later, granted_none}
use Rattle.ahb_bus.proofs.arbiter.grant.Goals as goal

pub loop-after-preserved : goal.loop-after-preserved
loop-after-preserved c =
    sym (granted_later c.args.asking c.args.last c.loop-after.after c.loop-after-test.true (sym c.asks.ensures ∙ c.if-asks.false)) ∙ c.loop-after.invariant

pub returns-then-asks : goal.returns-then-asks
returns-then-asks c =
    sym (granted_here c.args.asking c.args.last c.loop-after.after c.loop-after-test.true (sym c.asks.ensures ∙ c.if-asks.true)) ∙ c.loop-after.invariant

pub returns : goal.returns
returns c =
    let last : c.loop-after.after ≡ 10 = omega (arith, c.loop-after-test.false, c.loop-after.auto.after-end (omega arith)) in
    sym (granted_none c.args.asking c.args.last) ∙ ap (granted_from c.args.asking c.args.last) (sym last) ∙ c.loop-after.invariant
