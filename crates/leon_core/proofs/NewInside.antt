-- A core at reset keeps what its type promises.
use Rattle.std.proofs.Common.{◌≡◌, ℕ, ◌+◌, ◌<◌, List, [], length, refl, sym, ap, subst, arith}
use Rattle.std.specs.List.{AllByRecursion}
use Rattle.core_parts.proofs.AtReset.{can_start, starts}
use Rattle.core_parts.specs.CanRun.{CanRun}
use Rattle.core_parts.specs.CoreValue.{start_value}
use Rattle.core_parts.specs.Inside.{StartsAt}
use Rattle.core_parts.specs.IsCore.{IsCore}
use Rattle.core_parts.specs.RecordState.{RecordState}
use Rattle.core_parts.specs.Strikes.{AimsAt}
use Rattle.core_parts.specs.declared.parts.Parts.{Parts}
use Rattle.core_parts.specs.declared.phase.Phase.TheVariants.{Between}
use Rattle.flip_ledger.specs.Plan.{IsPlanned}
use Rattle.flip_ledger.specs.declared.plan.Owner.TheVariants as owners
use Rattle.flip_ledger.specs.declared.plan.Strike.{Strike}
use Rattle.leon_core.specs.CoreInside.{core_seen, IsRunnable, IsKept}
use Rattle.leon_core.specs.RoomInside.{IsReserved}
use Rattle.leon_core.specs.declared.one_core.Core.TheInside.{Inside}
use Rattle.leon_core.specs.declared.room.Room.{Room}
use Rattle.lf_model.specs.Course.Arrays.{reset_arrays}
use Rattle.lf_model.specs.State.{reset_control, reset}
use Rattle.lf_model.specs.declared.setup.Setup.{Setup}

-- its state registers
pub arch_new : (setup : Setup) (core : ℕ) → (start_value setup core).arch ≡ record { ctl = reset_control setup.image.entry; wim = 2; y = 0; core = core; n = 0; k = 0 }
unfolding reset
arch_new setup core = refl

module _ (setup : Setup) (core : ℕ) (p : Parts) (s : StartsAt setup core p) (plan : List Strike) (planned : IsPlanned (owners.Core core) setup.flips 0 plan) (room : Room)
    (reserved : IsReserved (length setup.flips) room) (none : room.named.items ≡ []) where
  abbrev pub inside : Inside
  inside = record {
    arch = (start_value setup core).arch;
    parts = p;
    plan = plan;
    phase = Between;
    quiet = 0;
    window = setup.config.window;
    limit = setup.config.steps;
    flips = length setup.flips;
    room = room;
  }

  no_steps : p.«record».steps + 0 ≡ 0
  no_steps = let e : p.«record».steps ≡ 0 = ap (λ (r : RecordState). r.steps) s.made in omega (arith, e)

  pub is_new : AllByRecursion (AimsAt core (reset_arrays setup.config)) setup.flips → setup.config.steps < 4294967296 → IsRunnable setup → core < setup.config.cores
      → IsCore (start_value setup core).arch p → IsKept inside
  unfolding reset
  is_new aims bounded runnable number is_core = record {
    window = ap (λ (x : Setup). x.config.window) (sym s.site);
    limit = ap (λ (x : Setup). x.config.steps) (sym s.site);
    flips = ap (λ (x : Setup). length x.flips) (sym s.site);
    setup = subst IsRunnable (sym s.site) runnable;
    number = subst (λ (x : Setup). core < x.config.cores) (sym s.site) number;
    core = is_core;
    planned = rw (s.made, s.site) planned;
    runs = subst (λ (n : ℕ). CanRun n 0 p) (sym no_steps) (can_start setup core p s aims bounded);
    within = let e = no_steps in omega (arith, e);
    counted = omega arith;
    made_few = omega arith;
    quiet_few = omega arith;
    room = reserved;
    names = none;
    asked = tt;
  }

  pub seen_new : core_seen inside ≡ start_value setup core
  seen_new = rw none (starts setup core p s)
