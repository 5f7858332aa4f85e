use Rattle.std.proofs.Common.{◌∙◌, sym}
use Rattle.std.proofs.lemmas.Bool.{false≢true}
use Rattle.tso_thread.proofs.ThreadRun.{goes_on, ends_apart, ends_halted}
use Rattle.tso_thread.proofs.running.Thread.run.Goals as goal
use Rattle.tso_thread.specs.ThreadState.{setup_in}

pub returns-then-is_some-clause-makes : goal.returns-then-is_some-clause-makes
returns-then-is_some-clause-makes c =
    let t = c.args.self.now in (
      λ e. absurd (false≢true e),
      λ all. absurd (ends_halted (setup_in t) t.replay.core t.replay.ops.now c.loop.counter c.args.n c.loop-test.true c.loop.self c.loop.invariant (sym c.is_some.ensures ∙ c.if-is_some.true) all),
    )

pub loop-preserved : goal.loop-preserved
loop-preserved c =
    let t = c.args.self.now in
    goes_on (setup_in t) t.replay.core t.replay.ops.now c.loop.counter c.args.n c.loop-test.true c.loop.self c.loop.invariant c.step.new.self (c.step.ensures.goes c.if-not-step.false)

pub returns-then-not-step-clause-makes : goal.returns-then-not-step-clause-makes
returns-then-not-step-clause-makes c =
    let t = c.args.self.now in (
      λ e. absurd (false≢true e),
      λ all. absurd (ends_apart (setup_in t) t.replay.core t.replay.ops.now c.loop.counter c.args.n c.loop-test.true c.loop.self c.loop.invariant (c.step.ensures.apart c.if-not-step.true) all),
    )
