use Rattle.std.proofs.Common.{◌∙◌, ap, sym, subst}
use Rattle.core_course.specs.Calls.{MayStep}
use Rattle.core_course.specs.CoreOk.{CoreOk}
use Rattle.core_parts.specs.CoreValue.{CoreValue}
use Rattle.core_course.proofs.StartKeeps.{started_ok}
use Rattle.leon_core.proofs.StartedInside.{planned_now, runs_now, is_started, seen_started}
use Rattle.core_course.specs.Settled.{started}
use Rattle.leon_core.proofs.one_core.Core.start_step.Goals as goal

pub begin_step-requires-clause-planned : goal.begin_step-requires-clause-planned
begin_step-requires-clause-planned c = planned_now c.self.inside c.self.invariant (ap (λ (v : CoreValue). v.phase) c.self.view_is ∙ c.requires.between)

pub begin_step-requires-clause-runs : goal.begin_step-requires-clause-runs
begin_step-requires-clause-runs c = runs_now c.self.inside c.self.invariant (ap (λ (v : CoreValue). v.phase) c.self.view_is ∙ c.requires.between)

pub invariant_of-self : goal.invariant_of-self
invariant_of-self c =
    let old = c.self.inside in
    let may = subst MayStep (sym c.self.view_is) c.requires in
    is_started old c.self.invariant may.between _ c.begin_step.ensures.planned may.left _ c.begin_step.ensures.struck c.begin_step.ensures.runs (c.begin_step.ensures.core old.arch c.self.invariant.core)

pub returns-clause-started : goal.returns-clause-started
returns-clause-started c =
    let old = c.self.inside in
    let may = subst MayStep (sym c.self.view_is) c.requires in
    seen_started old c.self.invariant may.between _ c.begin_step.ensures.planned may.left _ c.begin_step.ensures.struck ∙ ap started c.self.view_is

pub returns-clause-ok : goal.returns-clause-ok
returns-clause-ok c = λ log ts h. subst (λ (v : CoreValue). CoreOk v log ts) (sym (returns-clause-started c)) (started_ok _ c.requires log ts h)
