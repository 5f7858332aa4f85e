use Rattle.std.proofs.Common.{◌≡◌, length}
use Rattle.report_lines.specs.CoreLines.{pairs_at}
use Rattle.report_lines.proofs.Pairs.{ahead}
use Rattle.report_lines.proofs.output.pairs.Given as goal

abbrev pub invariant-loop-first : goal.invariant-loop-first
invariant-loop-first l = ahead l.out.items (pairs_at l.rest) ≡ pairs_at l.bytes

abbrev pub decreases-loop-first : goal.decreases-loop-first
decreases-loop-first l = length l.rest
