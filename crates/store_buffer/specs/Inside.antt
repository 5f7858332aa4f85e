-- What a store buffer keeps, and what of it its users see.
use Rattle.std.specs.Prelude.{◌≤◌}
use Rattle.arrayvec.specs.ArrayVec.{array_vec_len}
use Rattle.store_buffer.specs.declared.buffer.Buffer.TheInside.{Inside}
use Rattle.store_buffer.specs.BufferState.{BufferState}

abbrev pub seen : Inside → BufferState
seen buffer = record { waiting = buffer.waiting.items; depth = buffer.depth }

-- what holds of every buffer
pub record IsBuffer (buffer : Inside) : Type 0 where
  pub places : buffer.depth ≤ 8
  pub within : array_vec_len buffer.waiting ≤ buffer.depth
