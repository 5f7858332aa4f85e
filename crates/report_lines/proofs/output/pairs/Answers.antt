use Rattle.std.proofs.Common.{sym}
use Rattle.report_lines.proofs.Pairs.{pushed_on}
use Rattle.report_lines.proofs.output.pairs.Goals as goal

pub loop-first-preserved : goal.loop-first-preserved
loop-first-preserved c =
    pushed_on c.loop-first.out.items _ _ _ c.loop-first.rest.now _ c.in-Some-pair.later.now _ c.if-first-eq10.false c.in-Some.ensures (sym c.in-Some-pair.ensures.read) c.in_ok-push.ensures.items c.loop-first.invariant
