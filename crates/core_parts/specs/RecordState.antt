-- What a core made, as its users see it.
use Rattle.std.specs.Prelude.{ℕ, ◌&&◌, Bool, List, [], length}
use Rattle.core_parts.specs.declared.record.Operation.{Operation}
use Rattle.lf_model.specs.Promise.Regular.{is_length, numbers_fit}
use Rattle.lf_model.specs.declared.trace.Op.{Op}

-- steps: those that it made; seen and turns: how many entries the log had, and how many transfers the bus had made, as its last turn
-- ended; ops: its operations in program order; seen_by: of each of them, how many entries of the log it had seen as it
-- retired; room: for how many operations there is room in all
pub record RecordState : Type 0 where
  pub core : ℕ
  pub steps : ℕ
  pub seen : ℕ
  pub turns : ℕ
  pub ops : List Op
  pub seen_by : List ℕ
  pub room : ℕ

abbrev pub reset_record : ℕ → ℕ → RecordState
reset_record core room = record { core = core; steps = 0; seen = 0; turns = 0; ops = []; seen_by = []; room = room }

-- an operation with its core, its number and its step
abbrev pub op_by : RecordState → Operation → Op
op_by r o = record {
  got = o.got;
  put = o.put;
  core = r.core;
  k = length r.ops;
  step = r.steps;
  addr = o.addr;
  kind = o.kind;
  len = o.len;
  way = o.way;
}

-- it is of 1, 2, 4 or 8 bytes, and the numbers that it reads and stores have no more
abbrev pub fits_bytes : RecordState → Operation → Bool
fits_bytes r o = is_length o.len && numbers_fit (op_by r o) o.kind
