use Rattle.std.proofs.Common.{ℕ, ◌≡◌, ◌+◌, ◌-◌, subst, arith}
use Rattle.lf_model.specs.Promise.Follows.{event_times}
use Rattle.machine_play.specs.Moved.{IsMoved}
use Rattle.machine_play.proofs.EventRuns.{none_moves, times_next, times_passed}
use Rattle.machine_play.proofs.machine.Machine.scheduled.Goals as goal

pub loop-init : goal.loop-init
loop-init c = none_moves c.args.self.now c.requires

pub event-requires : goal.event-requires
event-requires c = c.loop.invariant.machine

pub loop-preserved : goal.loop-preserved
loop-preserved c = times_next c.loop.counter c.args.e.now c.args.self.now c.loop.self c.event.new.self c.loop.invariant c.event.ensures

pub returns : goal.returns
returns c =
    let all : c.loop.counter ≡ c.args.e.now.count = omega (arith, c.loop-test.false, c.loop.auto.counter-end) in
    subst (λ (n : ℕ). IsMoved (event_times n c.args.e.now) c.args.self.now c.loop.self) all c.loop.invariant

-- All that is left of the count makes nothing.
pub returns-then-passes_over : goal.returns-then-passes_over
returns-then-passes_over c =
    let whole : c.loop.counter + (c.args.e.now.count - c.loop.counter) ≡ c.args.e.now.count = omega (arith, c.loop.auto.counter-end) in
    subst (λ (n : ℕ). IsMoved (event_times n c.args.e.now) c.args.self.now c.loop.self) whole
    (times_passed c.loop.counter (c.args.e.now.count - c.loop.counter) c.args.e.now c.args.self.now c.loop.self c.loop.invariant (c.passes_over.ensures c.if-passes_over.true))
