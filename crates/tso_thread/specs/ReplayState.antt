-- A core replayed: its loads are answered by its next operation in the trace, with no cache, no store buffer and no flip.
use Rattle.std.specs.Prelude.{ℕ, ◌≡◌, ◌<◌, ◌≤◌, ◌+◌, ◌*◌, ◌^◌, ◌==◌, ◌&&◌, [], All, Bool, true, false, List, length, map, take, get_or, Option, Some, None, if◌then◌else◌, nat_lt}
use Rattle.lf_model.specs.Operation.{made}
use Rattle.lf_model.specs.Step.{Parts}
use Rattle.lf_model.specs.declared.bus.Entry.{Entry}
use Rattle.lf_model.specs.declared.bus.OpKind.{OpKind}
use Rattle.lf_model.specs.declared.bus.OpKind.TheVariants as kinds
use Rattle.lf_model.specs.declared.bus.Why.TheVariants as whys
use Rattle.lf_model.specs.declared.step.Look.{Look}
use Rattle.lf_model.specs.declared.step.Look.TheVariants.{Hit, Miss}
use Rattle.lf_model.specs.declared.touch.Touch.{Touch}
use Rattle.lf_model.specs.declared.touch.Touch.TheVariants.{StartStep, LookFetch, ReadCell, WriteCell, LookData, StoreData, FlushCaches, SnoopData, FillFetch, FillData}
use Rattle.lf_model.specs.declared.trace.Op.{Op}
use Rattle.v8_exec.specs.Calls.{spent_by_look}

-- no operation, which no place inside a list shows
abbrev pub no_op : Op
no_op = record { got = 0; put = 0; core = 0; k = 0; step = 0; addr = 0; kind = kinds.Load; len = 0; way = 0 }

-- the core's operations in the trace, in program order, and how many operations its run made
pub record Answering : Type 0 where
  pub ops : List Op
  pub made : ℕ

-- what each of these operations read has no more bytes than it
abbrev pub ReadsFit : List Op → Type 0
ReadsFit ops = All (λ o. o.got < 2 ^ (8 * o.len)) ops

abbrev pub is_load : OpKind → Bool
is_load kinds.Load = true
is_load kinds.Store = false
is_load kinds.Atomic = false
is_load kinds.Lost = false

abbrev pub is_atomic : OpKind → Bool
is_atomic kinds.Load = false
is_atomic kinds.Store = false
is_atomic kinds.Atomic = true
is_atomic kinds.Lost = false

-- a load or an atomic, by this test, of these bytes
abbrev pub is_read_at : (OpKind → Bool) → Op → ℕ → ℕ → Bool
is_read_at test o addr len = test o.kind && (o.addr == addr && o.len == len)

-- what the next operation of the trace read
abbrev pub got_next : Answering → ℕ
got_next s = (get_or s.ops s.made no_op).got

-- the same, if it is a load or an atomic, by this test, of these bytes
abbrev pub read_next : (OpKind → Bool) → Answering → ℕ → ℕ → Option ℕ
read_next test s addr len =
    if nat_lt s.made (length s.ops) && is_read_at test (get_or s.ops s.made no_op) addr len then Some (got_next s) else None

abbrev pub look_of : Option ℕ → Look
look_of None = Miss whys.Absent
look_of (Some got) = Hit got 0

abbrev pub look_up : Answering → ℕ → ℕ → Look
look_up s addr len = look_of (read_next is_load s addr len)

-- every register reads well, a store always finds room, and none waits
abbrev pub replay_answers : Answering → Parts
replay_answers s = record { bad = []; look = look_up s; full = false; waiting = false }

-- a load that is answered and a store are operations made
abbrev pub replay_touch : Answering → Touch → Answering
replay_touch s (LookData addr len) = record s { made = s.made + spent_by_look (look_up s addr len) }
replay_touch s (StoreData addr len value) = record s { made = s.made + 1 }
replay_touch s (StartStep step) = s
replay_touch s (LookFetch addr) = s
replay_touch s (ReadCell cell) = s
replay_touch s (WriteCell cell) = s
replay_touch s FlushCaches = s
replay_touch s (SnoopData addr) = s
replay_touch s (FillFetch addr valid) = s
replay_touch s (FillData addr valid) = s

-- ---- operations made and those of the trace

-- these operations are the first ones of the trace
pub record IsFront (es : List Entry) (ops : List Op) : Type 0 where
  pub few : length es ≤ length ops
  pub same : es ≡ map made (take (length es) ops)

-- the operation of the trace behind so many is this one
pub record IsNextEntry (ops : List Op) (n : ℕ) (e : Entry) : Type 0 where
  pub there : n < length ops
  pub same : e ≡ made (get_or ops n no_op)
