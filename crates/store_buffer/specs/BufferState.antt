-- A store buffer as its users see it.
use Rattle.std.specs.Prelude.{ℕ, List}
use Rattle.lf_model.specs.declared.bus.Pending.{Pending}

pub record BufferState : Type 0 where
  -- the stores that wait, the oldest first
  pub waiting : List Pending
  -- how many may wait
  pub depth : ℕ
