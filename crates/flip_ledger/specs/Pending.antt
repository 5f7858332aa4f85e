-- How a plan is kept: in the order of times, with the place of the next strike.
use Rattle.std.specs.Prelude.{ℕ, ◌<◌, ◌≤◌, List, length, drop, slice_index_or}
use Rattle.flip_ledger.specs.declared.plan.FlipPlan.TheInside.{Inside}
use Rattle.flip_ledger.specs.declared.plan.Strike.{Strike}

-- the strikes that are still to come
abbrev pub pending : Inside → List Strike
pending plan = drop plan.next plan.strikes.items

-- times ascend
abbrev pub IsByTime : List Strike → Type 0
IsByTime strikes = (i j : ℕ) (none : Strike) → i ≤ j → j < length strikes → (slice_index_or strikes i none).at ≤ (slice_index_or strikes j none).at

pub record IsInOrder (plan : Inside) : Type 0 where
  pub within : plan.next ≤ length plan.strikes.items
  pub by_time : IsByTime plan.strikes.items
