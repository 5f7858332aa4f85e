-- What a log keeps, and what of it its users see.
use Rattle.std.specs.Prelude.{◌≤◌, ◌<◌, ◌^◌, All, vec_len, vec_capacity}
use Rattle.order_log.specs.declared.log.Log.TheInside.{Inside}
use Rattle.order_log.specs.LogState.{LogState, IsLogEntry}

abbrev pub seen : Inside → LogState
seen log = record { entries = log.entries.items; room = vec_capacity log.entries }

-- what holds of every log
pub record IsLog (log : Inside) : Type 0 where
  pub entries : All IsLogEntry log.entries.items
  -- its entries can be counted
  pub room : vec_capacity log.entries < 2 ^ 32
  pub within : vec_len log.entries ≤ vec_capacity log.entries
