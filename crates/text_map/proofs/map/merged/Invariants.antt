use Rattle.text_map.proofs.SpanLemmas.{IsSoFar}
use Rattle.text_map.proofs.map.merged.Given as goal

abbrev pub invariant-loop-i : goal.invariant-loop-i
invariant-loop-i l = IsSoFar l.merged.items l.last l.spans l.i
