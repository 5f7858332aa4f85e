use Rattle.std.proofs.Common.{◌≡◌, map}
use Rattle.run_trace.specs.Gathered.{result_kept}
use Rattle.run_trace.proofs.parts.results_of.Given as goal

abbrev pub invariant-loop-kept : goal.invariant-loop-kept
invariant-loop-kept l = l.results.items ≡ map result_kept l.yielded
