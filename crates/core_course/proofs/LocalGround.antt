-- A core as it makes a step without a turn, which is begun: the ground that it has after it, and its transfers by then.
use Rattle.std.proofs.Common.{◌≡◌, ◌∙◌, ◌+◌, ◌<◌, ◌≤◌, ◌++◌, ℕ, List, [], length, refl, ap, sym, subst, arith}
use Rattle.std.specs.List.{AllByRecursion as Each}
use Rattle.core_laws.proofs.Given.{given_more}
use Rattle.core_laws.proofs.Steps.{none_past, steps_local}
use Rattle.core_laws.specs.Running.{with_later, IsNoStop}
use Rattle.core_laws.specs.StepsSoFar.{HasStepsSoFar}
use Rattle.core_parts.specs.CoreValue.{CoreValue}
use Rattle.core_parts.specs.Seat.{seat}
use Rattle.core_parts.specs.declared.phase.Phase.TheVariants.{Begun}
use Rattle.core_course.proofs.LaterSeat.{Reaches, reaches_later}
use Rattle.core_course.proofs.Reaches.{so_far, read_so_far}
use Rattle.core_course.proofs.Running.{ground_running, RunsOn, runs_on, unended_begun}
use Rattle.core_course.proofs.StepParts.{Parted, parted}
use Rattle.core_parts.specs.Completes.{KeepsTurns}
use Rattle.core_course.specs.CoreOk.{within_steps, past_its_steps, CoreOk}
use Rattle.lf_model.specs.Course.Core.{Ground, given_by, ground_of}
use Rattle.lf_model.specs.Course.Progress.{Progress}
use Rattle.lf_model.specs.Ledger.Steps.{own_transfers}
use Rattle.lf_model.specs.declared.bus.Entry.{Entry}
use Rattle.lf_model.specs.declared.bus.Transfer.{Transfer}
use Rattle.lf_model.specs.declared.setup.Setup.{Setup}
use Rattle.lf_model.specs.declared.trace.CoreEnd.{CoreEnd}
use Rattle.lf_model.specs.declared.trace.CoreEnd.TheVariants.{Limit}
use Rattle.lf_model.specs.declared.trace.Op.{Op}

-- its seat
abbrev pub place_of : CoreValue → List Transfer → Progress
place_of v ts = seat (ground_running v) ts v.steps

-- its ground with more operations and this end, after so many steps
abbrev pub ground_with : CoreValue → List Op → CoreEnd → ℕ → Ground
ground_with v more end last = ground_of v.setup v.arch.core (with_later (given_by v.ops) (given_by more)) end last

module _ (old new : CoreValue) (log : List Entry) (ts : List Transfer) (more : List Op) (h : CoreOk old log ts) (begun : old.phase ≡ Begun)
    (left : old.steps < old.setup.config.steps) (keeps : KeepsTurns old new) (ops : new.ops ≡ old.ops ++ more) where
  pub now : RunsOn old log ts
  now = runs_on old log ts (unended_begun old.phase begun) h

  -- ---- the ground after the step

  pub ground_new : (end : CoreEnd) (last : ℕ) → ground_of new.setup new.arch.core (given_by new.ops) end last ≡ ground_with old more end last
  ground_new end last =
      let given : given_by new.ops ≡ with_later (given_by old.ops) (given_by more) = ap given_by ops ∙ given_more old.ops more in
      ap (λ (s : Setup). ground_of s new.arch.core (given_by new.ops) end last) keeps.parts.setup
      ∙ (ap (λ c. ground_of old.setup c (given_by new.ops) end last) keeps.parts.core
      ∙ ap (λ g. ground_of old.setup old.arch.core g end last) given)

  pub limit_new : new.setup.config.steps ≡ old.setup.config.steps
  limit_new = ap (λ (s : Setup). s.config.steps) keeps.parts.setup

  pub running_new : ground_running new ≡ ground_with old more Limit old.setup.config.steps
  running_new = ap (λ (n : ℕ). ground_of new.setup new.arch.core (given_by new.ops) Limit n) limit_new ∙ ground_new Limit old.setup.config.steps

  pub flips_new : (end : CoreEnd) (last : ℕ) → (ground_of new.setup new.arch.core (given_by new.ops) end last).flips ≡ (ground_running old).flips
  flips_new end last = rw (keeps.parts.setup, keeps.parts.core) refl

  -- the core has come to its place by it
  pub reaches_then : (end : CoreEnd) (last : ℕ) → last ≤ old.setup.config.steps → Each (IsNoStop old.arch.core end) ts → old.steps < last
      → Reaches (ground_with old more end last) ts old.steps (place_of old ts)
  reaches_then end last allowed no_stop below =
      reaches_later old.setup old.arch.core (given_by old.ops) (given_by more) end last allowed ts old.steps (place_of old ts) no_stop
      (record { read = read_so_far old log ts now; within = omega (arith, now.is_seat.steps, below); last = λ stop. omega (arith, now.is_seat.steps, below) })
      now.in_memory (so_far old log ts now)

  -- ---- its transfers

  pub none_late : past_its_steps old ts ≡ []
  none_late = none_past old.setup.config.steps old.steps old.arch.n (length old.ports.waiting) (within_steps old ts) (past_its_steps old ts) now.goes_on.has_steps left

  pub steps_then : length new.ports.waiting ≤ 8
      → HasStepsSoFar old.setup.config.steps (old.steps + 1) (old.arch.n + 1) (length new.ports.waiting) (within_steps old ts) (past_its_steps old ts)
  steps_then few = steps_local old.setup.config.steps old.steps old.arch.n (length old.ports.waiting) (within_steps old ts) (past_its_steps old ts) now.goes_on.has_steps
      (length new.ports.waiting) left few

  pub own_then : own_transfers new.arch.core ts ≡ within_steps old ts ++ past_its_steps old ts
  own_then = ap (λ c. own_transfers c ts) keeps.parts.core ∙ now.goes_on.in_order

  pub parts_then : new.steps ≡ old.steps + 1 → length new.ports.waiting ≤ 8 → Parted new.steps (own_transfers new.arch.core ts) (within_steps old ts) (past_its_steps old ts)
  parts_then made few = parted new.steps (within_steps old ts) (past_its_steps old ts)
      (subst (λ n. Each (λ (t : Transfer). t.step < n) (within_steps old ts)) (sym made) (steps_then few).in_steps)
      (subst (Each (λ (t : Transfer). new.steps ≤ t.step)) (sym none_late) tt)
      (own_transfers new.arch.core ts) own_then
