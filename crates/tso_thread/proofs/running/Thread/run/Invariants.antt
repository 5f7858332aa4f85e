use Rattle.std.proofs.Common.{◌-◌}
use Rattle.tso_thread.proofs.running.Thread.run.Given as goal
use Rattle.tso_thread.specs.ThreadState.{setup_in, IsAt}

abbrev pub invariant-loop : goal.invariant-loop
invariant-loop l = IsAt (setup_in l.fn.self) l.fn.self.replay.core l.fn.self.replay.ops.now l.counter (l.n - l.counter) l.self
