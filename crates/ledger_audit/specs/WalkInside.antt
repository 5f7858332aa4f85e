-- What a walk keeps: its line is a line of its range.
use Rattle.std.specs.Prelude.{◌≡◌, ◌+◌, ◌%◌, ◌≤◌}
use Rattle.ledger_audit.specs.WalkState.{WalkState, IsScrubRange}
use Rattle.ledger_audit.specs.declared.walk.Walk.TheInside.{Inside}

abbrev pub seen : Inside → WalkState
seen w = record { range = w.range; walk = record { line = w.line; noted = w.noted.items; turns = w.turns } }

pub record IsWalk (w : Inside) : Type 0 where
  pub range : IsScrubRange w.range
  pub aligned : w.line % 32 ≡ 0
  pub low : w.range.first ≤ w.line
  pub high : w.line + 32 ≤ w.range.first + w.range.length
