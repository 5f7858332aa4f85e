-- The core after an atomic that retires, from what `finish_atomic` says of its state registers and of the parts that it works on.
use Rattle.std.proofs.Common.{◌≡◌, ◌∙◌, ◌+◌, ◌<◌, ◌++◌, ℕ, List, [], ◌∷◌, length, fold, refl, sym, subst, ap}
use Rattle.core_parts.specs.CoreValue.{CoreValue}
use Rattle.core_parts.specs.Inside.{ports_of, state_in, seen_in, value_of}
use Rattle.core_parts.specs.RecordState.{RecordState}
use Rattle.core_parts.specs.Work.{WorkState, work_touch, with_operation}
use Rattle.core_parts.specs.declared.parts.Parts.{Parts}
use Rattle.core_parts.specs.declared.phase.Phase.{Phase}
use Rattle.core_parts.specs.declared.record.Operation.{Operation}
use Rattle.lf_model.specs.Caches.Slot.{befalls_each, written}
use Rattle.lf_model.specs.Course.Touches.{write_touches}
use Rattle.lf_model.specs.Effect.{cell_written}
use Rattle.lf_model.specs.State.{State, advanced, with_register}
use Rattle.lf_model.specs.Step.{state_of}
use Rattle.lf_model.specs.declared.bus.OpKind.TheVariants as ops
use Rattle.lf_model.specs.declared.control.Arch.{Arch}
use Rattle.lf_model.specs.declared.trace.Word2.{Word2}
use Rattle.core_turns.specs.AfterTurn.{exchanged}
use Rattle.core_turns.specs.Exchanging.{entry_seen}

-- cells are written, and nothing else changes
pub cells_written : (cells : List ℕ) (w : WorkState) → fold work_touch w (write_touches cells) ≡ record w { ports = record w.ports { cells = befalls_each written cells w.ports.cells } }
cells_written [] w = refl
cells_written (c ∷ cells) w = cells_written cells (record w { ports = record w.ports { cells = befalls_each written (c ∷ []) w.ports.cells } })

-- a core whose registers are those of a state, and whose arrays and records are these
abbrev made_of : State → ℕ → ℕ → ℕ → WorkState → ℕ → List Word2 → Phase → CoreValue
made_of s core n k w quiet named phase = record {
  setup = w.setup;
  arch = record { ctl = s.ctl; wim = s.wim; y = s.y; core = core; n = n; k = k };
  values = s.cells;
  out = s.out;
  ports = w.ports;
  ops = w.made.ops;
  seen_by = w.made.seen_by;
  steps = w.made.steps;
  quiet = quiet;
  log_seen = w.made.seen;
  turns_seen = w.made.turns;
  named = named;
  phase = phase;
}

-- old and before: the state registers and the parts as the operation ends; new and after: as they are then
module _ (old new : Arch) (before after : Parts) (rd got : ℕ) where
  pub record EndsAtomic : Type 0 where
    pub state : state_of new (seen_in after) ≡ advanced (with_register rd got (state_of old (seen_in before)))
    pub core : new.core ≡ old.core
    pub n : new.n ≡ old.n + 1
    pub k : new.k ≡ old.k + 1
    pub touches : state_in after ≡ fold work_touch (state_in before) (write_touches (cell_written (state_of old (seen_in before)) rd))

  abbrev pub ended : ℕ → List Word2 → Phase → CoreValue
  ended quiet named phase = let s = advanced (with_register rd got (state_of old (seen_in before))) in record (value_of old before quiet named phase) {
    arch = record { ctl = s.ctl; wim = s.wim; y = s.y; core = old.core; n = old.n + 1; k = old.k + 1 };
    values = s.cells;
    out = s.out;
    ports = record (ports_of before) { cells = befalls_each written (cell_written (state_of old (seen_in before)) rd) (ports_of before).cells };
  }

  pub value_ended : EndsAtomic → (quiet : ℕ) (named : List Word2) (phase : Phase) → value_of new after quiet named phase ≡ ended quiet named phase
  value_ended e quiet named phase =
      ap (λ s. made_of s new.core new.n new.k (state_in after) quiet named phase) e.state
      ∙ (ap (λ c. made_of s c new.n new.k (state_in after) quiet named phase) e.core
      ∙ (ap (λ n. made_of s old.core n new.k (state_in after) quiet named phase) e.n
      ∙ (ap (λ k. made_of s old.core (old.n + 1) k (state_in after) quiet named phase) e.k
      ∙ ap (λ w. made_of s old.core (old.n + 1) (old.k + 1) w quiet named phase) (e.touches ∙ cells_written (cell_written (state_of old (seen_in before)) rd) (state_in before)))))
    where
      s : State
      s = advanced (with_register rd got (state_of old (seen_in before)))

-- ---- as it retires

-- its operation, as it is recorded
abbrev pub atomic_made : ℕ → ℕ → ℕ → ℕ → Operation
atomic_made addr len value got = record { got = got; put = value; kind = ops.Atomic; addr = addr; len = len; way = 0 }

-- a core with one more operation, made in its step, with what it has seen then
abbrev with_made : ℕ → Operation → CoreValue → CoreValue
with_made core o v = record v {
  ops = v.ops ++ record { got = o.got; put = o.put; core = core; k = length v.ops; step = v.steps; addr = o.addr; kind = o.kind; len = o.len; way = o.way } ∷ [];
  seen_by = v.seen_by ++ v.log_seen ∷ [];
}

-- parts: as the turn has caught up; before: with its own entry seen; after: as the operation ends
module _ (old new : Arch) (parts before after : Parts) (addr rd got : ℕ) where
  pub record_kept : before ≡ entry_seen addr parts → EndsAtomic old new before after rd got → after.«record» ≡ (entry_seen addr parts).«record»
  record_kept seen ends =
      ap (λ (w : WorkState). w.made) (ends.touches ∙ cells_written (cell_written (state_of old (seen_in before)) rd) (state_in before))
      ∙ ap (λ (p : Parts). p.«record») seen

  pub room_kept : before ≡ entry_seen addr parts → EndsAtomic old new before after rd got
      → length parts.«record».ops < parts.«record».room → length after.«record».ops < after.«record».room
  room_kept seen ends room = subst (λ (r : RecordState). length r.ops < r.room) (sym (record_kept seen ends)) room

  -- r: the record once the operation has retired
  module _ (r : RecordState) (len value : ℕ) where
    pub record Retires : Type 0 where
      pub core : parts.«record».core ≡ old.core
      pub seen : before ≡ entry_seen addr parts
      pub ends : EndsAtomic old new before after rd got
      pub made : r ≡ with_operation (atomic_made addr len value got) after.«record»

    pub value_retired : Retires → (quiet : ℕ) (named : List Word2) (phase : Phase)
        → value_of new (record after { «record» = r }) quiet named phase ≡ exchanged addr len value rd got (value_of old parts quiet named phase)
    value_retired h quiet named phase =
        ap (λ (r : RecordState). value_of new (record after { «record» = r }) quiet named phase) h.made
        ∙ (ap (with_made after.«record».core o) (value_ended old new before after rd got h.ends quiet named phase)
        ∙ (ap (λ c. with_made c o (ended old new before after rd got quiet named phase)) (ap (λ (r : RecordState). r.core) (record_kept h.seen h.ends) ∙ h.core)
        ∙ ap (λ b. with_made old.core o (ended old new b after rd got quiet named phase)) h.seen))
      where
        o : Operation
        o = atomic_made addr len value got
