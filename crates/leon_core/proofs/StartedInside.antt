-- A core in whose next step the flips struck keeps what its type promises.
use Rattle.std.proofs.Common.{◌≡◌, ◌∙◌, ℕ, ◌+◌, ◌<◌, List, sym, ap, subst, arith}
use Rattle.core_parts.specs.CanRun.{CanRun}
use Rattle.core_parts.specs.IsCore.{IsCore}
use Rattle.core_parts.specs.Strikes.{arrays_of, with_arrays, own_flips}
use Rattle.core_parts.specs.declared.parts.Parts.{Parts}
use Rattle.core_parts.specs.declared.phase.Phase.{Phase}
use Rattle.core_parts.specs.declared.phase.Phase.TheVariants.{Between, Begun}
use Rattle.flip_ledger.specs.Plan.{IsPlanned}
use Rattle.flip_ledger.specs.declared.plan.Owner.TheVariants as owners
use Rattle.flip_ledger.specs.declared.plan.Strike.{Strike}
use Rattle.leon_core.specs.CoreInside.{core_seen, in_step, looked_in, NamesBy, IsKept}
use Rattle.core_course.specs.Settled.{started}
use Rattle.leon_core.specs.declared.one_core.Core.TheInside.{Inside}
use Rattle.lf_model.specs.Course.Arrays.{begun}

module _ (old : Inside) (is : IsKept old) (between : old.phase ≡ Between) where
  same : old.parts.«record».steps + 0 ≡ old.parts.«record».steps
  same = omega arith

  -- between steps
  pub planned_now : IsPlanned (owners.Core old.parts.«record».core) old.parts.site.flips old.parts.«record».steps old.plan
  planned_now =
      subst (λ (n : ℕ). IsPlanned (owners.Core old.parts.«record».core) old.parts.site.flips n old.plan) same
      (subst (λ (ph : Phase). IsPlanned (owners.Core old.parts.«record».core) old.parts.site.flips (old.parts.«record».steps + in_step ph) old.plan) between is.planned)

  pub runs_now : CanRun old.parts.«record».steps 0 old.parts
  runs_now =
      subst (λ (n : ℕ). CanRun n 0 old.parts) same
      (subst (λ (ph : Phase). CanRun (old.parts.«record».steps + in_step ph) (looked_in ph) old.parts) between is.runs)

  abbrev struck : Parts
  struck = record old.parts { arrays = with_arrays old.parts.arrays (begun (own_flips old.parts.«record».core old.parts.site.flips) old.parts.«record».steps (arrays_of old.parts.arrays)) }

  abbrev inside : Parts → List Strike → Inside
  inside p plan = record old { parts = p; plan = plan; phase = Begun }

  module _ (plan : List Strike) (planned : IsPlanned (owners.Core old.parts.«record».core) old.parts.site.flips (old.parts.«record».steps + 1) plan)
      (left : old.parts.«record».steps < old.parts.site.config.steps) where
    is_struck : CanRun (old.parts.«record».steps + 1) 0 struck → IsCore old.arch struck → IsKept (inside struck plan)
    is_struck runs core = record {
      window = is.window;
      limit = is.limit;
      flips = is.flips;
      setup = is.setup;
      number = is.number;
      core = core;
      planned = planned;
      runs = runs;
      within = omega (arith, left);
      counted = is.counted;
      made_few = is.made_few;
      quiet_few = is.quiet_few;
      room = is.room;
      names = subst (NamesBy old.room.named.items) between is.names;
      asked = tt;
    }

    pub is_started : (p : Parts) → p ≡ struck → CanRun (old.parts.«record».steps + 1) 0 p → IsCore old.arch p → IsKept (inside p plan)
    is_started p e runs core =
        subst (λ (q : Parts). IsKept (inside q plan)) (sym e) (is_struck (subst (CanRun (old.parts.«record».steps + 1) 0) e runs) (subst (IsCore old.arch) e core))

    pub seen_started : (p : Parts) → p ≡ struck → core_seen (inside p plan) ≡ started (core_seen old)
    seen_started p e =
        ap (λ (q : Parts). core_seen (inside q plan)) e
        ∙ ap (λ (n : ℕ). core_seen (inside (record old.parts { arrays = with_arrays old.parts.arrays (begun (own_flips n old.parts.site.flips) old.parts.«record».steps (arrays_of old.parts.arrays)) }) plan)) is.core.core
