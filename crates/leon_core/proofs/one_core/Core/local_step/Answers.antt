use Rattle.std.proofs.Common.{subst}
use Rattle.core_course.proofs.StartKeeps.{same_answers}
use Rattle.core_course.specs.Calls.{Answers}
use Rattle.core_course.specs.Settled.{Settles}
use Rattle.core_parts.specs.CoreValue.{CoreValue}
use Rattle.leon_core.proofs.LocalLeaves.{moves}
use Rattle.leon_core.proofs.one_core.Core.local_step.Goals as goal

pub returns-clause-moves : goal.returns-clause-moves
returns-clause-moves c =
    moves c.settle_step.result c.args.self.now c.settle_step.new.self
    (subst (λ (v : CoreValue). Settles c.settle_step.result v c.settle_step.new.self) c.start_step.ensures.started c.settle_step.ensures.settles)

pub returns-clause-ok : goal.returns-clause-ok
returns-clause-ok c = λ log ts h. c.settle_step.ensures.ok log ts (c.start_step.ensures.ok log ts h)

pub returns-clause-answer : goal.returns-clause-answer
returns-clause-answer c = λ log ts h.
    same_answers c.args.self.now c.requires.between ts c.settle_step.result
    (subst (λ (v : CoreValue). Answers v ts c.settle_step.result) c.start_step.ensures.started (c.settle_step.ensures.answer log ts (c.start_step.ensures.ok log ts h)))
