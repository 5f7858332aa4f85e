-- How long a core runs: as many steps at most as the configuration allows, and then at most eight drains.
use Rattle.std.specs.Prelude.{ℕ, ◌≡◌, ◌≤◌, true, length, IfSome, slice_get}
use Rattle.std.specs.List.{list_all}
use Rattle.lf_model.specs.Ledger.Steps.{is_last_drain, own_transfers, past_steps}
use Rattle.lf_model.specs.Places.{FailsNowhere}
use Rattle.lf_model.specs.declared.setup.Setup.{Setup}
use Rattle.lf_model.specs.declared.trace.CoreResult.{CoreResult}
use Rattle.lf_model.specs.declared.trace.Trace.{Trace}

-- the result of core c: its steps, and its transfers after the last of them, which are drains
pub record IsBounded (setup : Setup) (trace : Trace) (c : ℕ) (r : CoreResult) : Type 0 where
  pub steps : r.steps ≤ setup.config.steps
  pub later : list_all (is_last_drain setup.config.steps) (past_steps r.steps (own_transfers c trace.transfers)) ≡ true
  pub drains : length (past_steps r.steps (own_transfers c trace.transfers)) ≤ 8

abbrev pub BoundedAt : Setup → Trace → ℕ → Type 0
BoundedAt setup trace c = IfSome (slice_get trace.cores c) (IsBounded setup trace c)

-- each core makes so many steps at most, and then so many drains
abbrev pub AllBounded : Setup → Trace → Type 0
AllBounded setup trace = FailsNowhere setup.config.cores (BoundedAt setup trace)
