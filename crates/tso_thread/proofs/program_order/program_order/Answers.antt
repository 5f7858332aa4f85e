use Rattle.std.proofs.Common.{◌≡◌, arith, drop, subst, ℕ}
use Rattle.tso_thread.proofs.ProgramOrder.{HaveFirst, by_numbers}
use Rattle.tso_thread.proofs.program_order.program_order.Goals as goal

pub returns : goal.returns
returns c =
    let ended = c.loop-i-test.false in
    let start : c.loop-i.i ≡ 0 = omega (arith, ended) in
    record {
      ops =
          by_numbers c.args.core c.args.order.now c.loop-i.ops.items c.requires.numbered c.loop-i.invariant.0
          (subst (λ (i : ℕ). HaveFirst c.args.core (drop i c.args.order.now) c.loop-i.ops.items) start c.loop-i.invariant.1);
    }
