-- What a step or a turn leaves of a core's setup, of its operations, and of the stores that wait.
use Rattle.std.specs.Prelude.{ℕ, ◌≡◌, ◌++◌, [], ◌∷◌, length, if◌then◌else◌}
use Rattle.core_parts.specs.CoreValue.{CoreValue}
use Rattle.core_parts.specs.PortState.{Waiting}
use Rattle.lf_model.specs.Course.Core.{is_store}
use Rattle.lf_model.specs.Effect.{Access, operation_kind}
use Rattle.lf_model.specs.declared.trace.Op.{Op}

-- the setup and the core's number stay
pub record Keeps (old new : CoreValue) : Type 0 where
  pub setup : new.setup ≡ old.setup
  pub core : new.arch.core ≡ old.arch.core

-- the next operation, which an instruction makes by this access
abbrev pub op_of : CoreValue → Access → ℕ → ℕ → Op
op_of v x got way = record {
  got = got;
  put = x.put;
  core = v.arch.core;
  k = length v.ops;
  step = v.steps;
  addr = x.addr;
  kind = operation_kind x.kind;
  len = x.len;
  way = way;
}

-- an operation as it waits in the store buffer
abbrev pub waits_as : Op → Waiting
waits_as o = record { addr = o.addr; len = o.len; value = o.put }

-- no operation retires
pub record CompletesNone (old new : CoreValue) : Type 0 where
  pub ops : new.ops ≡ old.ops
  pub seen_by : new.seen_by ≡ old.seen_by
  pub waiting : new.ports.waiting ≡ old.ports.waiting

-- this one does, and a store waits as the last of them
pub record Completes (o : Op) (old new : CoreValue) : Type 0 where
  pub ops : new.ops ≡ old.ops ++ o ∷ []
  pub seen_by : new.seen_by ≡ old.seen_by ++ new.log_seen ∷ []
  pub waiting : new.ports.waiting ≡ (if is_store o then old.ports.waiting ++ waits_as o ∷ [] else old.ports.waiting)

-- a step without a turn sees no transfer, and names no word
pub record KeepsTurns (old new : CoreValue) : Type 0 where
  pub parts : Keeps old new
  pub turns_seen : new.turns_seen ≡ old.turns_seen
  pub named : new.named ≡ old.named
