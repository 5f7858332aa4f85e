-- What a core has seen of memory order as an instruction retires, and the stores that wait then.
use Rattle.std.proofs.Common.{◌≡◌, ◌∙◌, ◌-◌, ◌++◌, ℕ, Bool, true, List, [], ◌∷◌, length, drop, map, filter, refl, ap, sym, subst, arith, if◌then◌else◌}
use Rattle.std.proofs.lemmas.List.{drop_at, length-append, length-map, map-append, nil_from_length}
use Rattle.core_laws.proofs.SeenRetired.{seen_load, seen_store}
use Rattle.core_laws.specs.SeenSoFar.{HasSeenSoFar}
use Rattle.core_laws.specs.StepsSoFar.{HasStepsSoFar}
use Rattle.core_parts.specs.CoreValue.{CoreValue}
use Rattle.core_parts.specs.PortState.{Waiting}
use Rattle.core_course.proofs.StepParts.{Parted, steps_as}
use Rattle.core_parts.specs.Completes.{op_of, waits_as, CompletesNone, Completes}
use Rattle.core_course.specs.CoreOk.{last_of, buffer_of, waiting_of, within_steps, past_its_steps, GoesOn}
use Rattle.core_course.specs.Lines.{LinesAre}
use Rattle.lf_model.specs.Course.Core.{is_store}
use Rattle.lf_model.specs.Effect.{Access, AccessKind}
use Rattle.lf_model.specs.Ledger.Steps.{own_transfers}
use Rattle.lf_model.specs.Operation.{stores, made}
use Rattle.lf_model.specs.Records.SeenOrder.{is_entry_of}
use Rattle.lf_model.specs.Start.{initial_byte}
use Rattle.lf_model.specs.Value.{Reads}
use Rattle.lf_model.specs.declared.bus.Entry.{Entry}
use Rattle.lf_model.specs.declared.bus.Transfer.{Transfer}

-- ---- the stores that wait are the last of those made

last_part : (xs buffer all : List Entry) (n : ℕ) → xs ++ buffer ≡ all → n ≡ length buffer → last_of n all ≡ buffer
last_part xs buffer all n whole count =
    let from : length all - n ≡ length xs = omega (arith, count, ap length whole, length-append xs buffer) in
    ap (λ m. drop m all) from ∙ (ap (drop (length xs)) (sym whole) ∙ drop_at xs buffer (length xs) refl)

module _ (v : CoreValue) (log : List Entry) (ts : List Transfer) (buffer : List Entry)
    (seen : HasSeenSoFar (initial_byte v.setup.image) v.arch.core v.ops v.seen_by log buffer) (waits : v.ports.waiting ≡ map waiting_of buffer) where
  pub buffer_is : buffer_of v ≡ buffer
  buffer_is = last_part (filter (is_entry_of v.arch.core) log) buffer (map made (filter stores v.ops)) (length v.ports.waiting) seen.entries
      (ap length waits ∙ length-map buffer waiting_of)

  -- a core goes on of which all this holds
  pub goes_on : (within past : List Transfer) → Parted v.steps (own_transfers v.arch.core ts) within past
      → HasStepsSoFar v.setup.config.steps v.steps v.arch.n (length v.ports.waiting) within past → LinesAre v log buffer → v.named ≡ [] → GoesOn v log ts
  goes_on within past p steps lines unnamed = record {
    in_order = p.whole ∙ (let a = p.within_is in let b = p.past_is in cc);
    has_steps = steps_as _ v.setup.config.steps _ v.steps _ v.arch.n _ (length v.ports.waiting) within (within_steps v ts) past (past_its_steps v ts) steps
        refl refl refl refl p.within_is p.past_is;
    waits = waits ∙ ap (map waiting_of) (sym buffer_is);
    has_seen = subst (HasSeenSoFar (initial_byte v.setup.image) v.arch.core v.ops v.seen_by log) (sym buffer_is) seen;
    lines = subst (LinesAre v log) (sym buffer_is) lines;
    unnamed = unnamed;
  }

-- none where the store buffer is empty
pub none_buffered : (v : CoreValue) (log : List Entry) (ts : List Transfer) → GoesOn v log ts → length v.ports.waiting ≡ 0 → buffer_of v ≡ []
none_buffered v log ts h none = nil_from_length (buffer_of v) (omega (arith, none, ap length h.waits, length-map (buffer_of v) waiting_of))

-- ---- an instruction retires

chosen : (store : Bool) (pushed same : List Waiting) → store ≡ true → (if store then pushed else same) ≡ pushed
chosen store pushed same is = rw is refl

module _ (old new : CoreValue) (log : List Entry) where
  -- what the core has seen then, with these stores waiting
  pub record Sees (buffer : List Entry) : Type 0 where
    pub has_seen : HasSeenSoFar (initial_byte old.setup.image) old.arch.core new.ops new.seen_by log buffer
    pub waits : new.ports.waiting ≡ map waiting_of buffer

  module _ (ts : List Transfer) (h : GoesOn old log ts) where
    -- one without an operation
    pub sees_none : CompletesNone old new → Sees (buffer_of old)
    sees_none c = record { has_seen = rw (c.ops, c.seen_by) h.has_seen; waits = c.waiting ∙ h.waits }

    module _ (x : Access) (got way : ℕ) (c : Completes (op_of old x got way) old new) (known : new.log_seen ≡ length log) where
      seen_by_is : new.seen_by ≡ old.seen_by ++ length log ∷ []
      seen_by_is = c.seen_by ∙ ap (λ n. old.seen_by ++ n ∷ []) known

      -- a load, which reads what the core sees
      pub sees_load : x.kind ≡ AccessKind.Load → Reads (initial_byte old.setup.image) (made (op_of old x got way)) (log ++ buffer_of old) → Sees (buffer_of old)
      sees_load kind reads = record {
        has_seen = rw (c.ops, seen_by_is)
            (seen_load (initial_byte old.setup.image) old.arch.core old.ops old.seen_by log (buffer_of old) h.has_seen (op_of old x got way) refl refl (rw kind refl) reads);
        waits = c.waiting ∙ rw kind h.waits;
      }

      -- a store
      pub sees_store : x.kind ≡ AccessKind.Store → Sees (buffer_of old ++ made (op_of old x got way) ∷ [])
      sees_store kind = record {
        has_seen = rw (c.ops, seen_by_is)
            (seen_store (initial_byte old.setup.image) old.arch.core old.ops old.seen_by log (buffer_of old) h.has_seen (op_of old x got way) refl refl (rw kind refl));
        waits = c.waiting ∙ (chosen (is_store (op_of old x got way)) _ _ (rw kind refl) ∙ (ap (λ ws. ws ++ waits_as (op_of old x got way) ∷ []) h.waits ∙ sym (map-append waiting_of (buffer_of old) (made (op_of old x got way) ∷ []))));
      }
