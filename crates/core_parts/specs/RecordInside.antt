-- How a record is kept: both lists have the room that was reserved, and a report can show each operation.
use Rattle.std.specs.Prelude.{◌≡◌, ◌^◌, ◌<◌, ◌≤◌, true, length, vec_len}
use Rattle.std.specs.List.{list_all}
use Rattle.std.specs.Vec.{vec_capacity}
use Rattle.core_parts.specs.RecordState.{RecordState}
use Rattle.core_parts.specs.declared.record.Record.TheInside.{Inside}
use Rattle.lf_model.specs.Promise.Regular.{is_regular_op}

abbrev pub kept : Inside → RecordState
kept r = record {
  core = r.core;
  steps = r.steps;
  seen = r.seen;
  turns = r.turns;
  ops = r.ops.items;
  seen_by = r.seen_by.items;
  room = vec_capacity r.ops;
}

pub record IsRecord (r : Inside) : Type 0 where
  pub one_each : length r.seen_by.items ≡ length r.ops.items
  pub same_room : vec_capacity r.seen_by ≡ vec_capacity r.ops
  pub within : vec_len r.ops ≤ vec_capacity r.ops
  pub few : vec_capacity r.ops < 2 ^ 32
  pub fit : list_all is_regular_op r.ops.items ≡ true
