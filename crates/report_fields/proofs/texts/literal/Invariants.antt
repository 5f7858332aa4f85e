use Rattle.std.proofs.Common.{◌≡◌, length}
use Rattle.report_fields.specs.Reading.{without}
use Rattle.report_fields.proofs.texts.literal.Given as goal

abbrev pub invariant-loop-t : goal.invariant-loop-t
invariant-loop-t l = without l.wanted l.rest ≡ without l.fn.text l.fn.bytes

abbrev pub decreases-loop-t : goal.decreases-loop-t
decreases-loop-t l = length l.wanted
