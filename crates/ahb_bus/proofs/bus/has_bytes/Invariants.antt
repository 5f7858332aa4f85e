use Rattle.ahb_bus.proofs.BytesLemmas.{HaveBytes}
use Rattle.ahb_bus.proofs.bus.has_bytes.Given as goal

abbrev pub invariant-loop-segment : goal.invariant-loop-segment
invariant-loop-segment l = HaveBytes l.segment-items l.segment-index
