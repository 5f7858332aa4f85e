use Rattle.std.proofs.Common.{◌∙◌, suc, sym}
use Rattle.machine_play.proofs.EventRuns.{no_rounds, one_round_more, round_smaller}
use Rattle.machine_play.proofs.machine.Machine.go_round.Goals as goal

pub loop-self-init : goal.loop-self-init
loop-self-init c = (0, no_rounds c.args.self.now c.requires)

pub has_ended-requires : goal.has_ended-requires
has_ended-requires c = c.loop-self.invariant.1.machine

pub round-requires : goal.round-requires
round-requires c = c.loop-self.invariant.1.machine

pub loop-self-smaller : goal.loop-self-smaller
loop-self-smaller c = round_smaller c.loop-self.self c.round.new.self (sym c.has_ended.ensures ∙ c.loop-self-test.true) c.round.ensures.advances

pub loop-self-preserved : goal.loop-self-preserved
loop-self-preserved c = (suc c.loop-self.invariant.0, one_round_more c.loop-self.invariant.0 c.args.self.now c.loop-self.self c.round.new.self c.loop-self.invariant.1 c.round.ensures.moved)

pub returns-clause-rounds : goal.returns-clause-rounds
returns-clause-rounds c = c.loop-self.invariant
