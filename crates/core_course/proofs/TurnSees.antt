-- What a core has seen of memory order as others' entries come, and then its own by a turn.
use Rattle.std.proofs.Common.{◌≡◌, ◌∙◌, ◌+◌, ◌<◌, ◌++◌, ℕ, Bool, false, List, [], ◌∷◌, length, take, drop, refl, ap, arith, if◌then◌else◌}
use Rattle.std.proofs.lemmas.List.{length-map, drop-map, nil_from_length}
use Rattle.std.specs.List.{AllByRecursion as Each}
use Rattle.core_laws.proofs.SeenLog.{seen_others, seen_drain}
use Rattle.core_laws.proofs.SeenRetired.{seen_atomic}
use Rattle.core_laws.specs.SeenSoFar.{HasSeenSoFar}
use Rattle.core_parts.specs.CoreValue.{CoreValue}
use Rattle.core_parts.specs.PortState.{Waiting}
use Rattle.core_course.proofs.Completing.{Sees}
use Rattle.core_parts.specs.Completes.{op_of, CompletesNone, Completes}
use Rattle.core_course.specs.CoreOk.{buffer_of, waiting_of, GoesOn}
use Rattle.lf_model.specs.Course.Core.{is_store}
use Rattle.lf_model.specs.Effect.{Access, AccessKind}
use Rattle.lf_model.specs.Operation.{made}
use Rattle.lf_model.specs.Records.SeenOrder.{is_entry_of}
use Rattle.lf_model.specs.Start.{initial_byte}
use Rattle.lf_model.specs.Value.{Reads}
use Rattle.lf_model.specs.declared.bus.Entry.{Entry}
use Rattle.lf_model.specs.declared.bus.Transfer.{Transfer}

-- seen: the entries that it had seen; log: all of them
module _ (old new : CoreValue) (seen : List Entry) (ts : List Transfer) (more : List Entry) (h : GoesOn old seen ts) (others : Each (λ e. is_entry_of old.arch.core e ≡ false) more) where
  abbrev log : List Entry
  log = seen ++ more

  abbrev initial : ℕ → ℕ
  initial = initial_byte old.setup.image

  caught_up : HasSeenSoFar initial old.arch.core old.ops old.seen_by log (buffer_of old)
  caught_up = seen_others initial old.arch.core old.ops old.seen_by seen (buffer_of old) more h.has_seen others

  -- its turn puts no entry into the log
  pub sees_turn : CompletesNone old new → Sees old new log (buffer_of old)
  sees_turn c = record { has_seen = rw (c.ops, c.seen_by) caught_up; waits = c.waiting ∙ h.waits }

  -- ---- a drain

  drained_by : (buffer : List Entry) → 0 < length buffer → HasSeenSoFar initial old.arch.core old.ops old.seen_by log buffer
      → HasSeenSoFar initial old.arch.core old.ops old.seen_by (log ++ take 1 buffer) (drop 1 buffer)
  drained_by [] some s = absurd (omega (arith, some))
  drained_by (e ∷ later) some s = seen_drain initial old.arch.core old.ops old.seen_by log e later s

  pub sees_drain : 0 < length old.ports.waiting → new.ops ≡ old.ops → new.seen_by ≡ old.seen_by → new.ports.waiting ≡ drop 1 old.ports.waiting
      → Sees old new (log ++ take 1 (buffer_of old)) (drop 1 (buffer_of old))
  sees_drain some same_ops same_seen left = record {
    has_seen = rw (same_ops, same_seen)
        (drained_by (buffer_of old) (omega (arith, some, ap length h.waits, length-map (buffer_of old) waiting_of)) caught_up);
    waits = left ∙ (ap (λ (ws : List Waiting). drop 1 ws) h.waits ∙ drop-map waiting_of 1 (buffer_of old));
  }

  -- ---- an atomic

  none_waits : length old.ports.waiting ≡ 0 → buffer_of old ≡ []
  none_waits none = nil_from_length (buffer_of old) (omega (arith, none, ap length h.waits, length-map (buffer_of old) waiting_of))

  pub sees_atomic : (x : Access) (got way : ℕ) → Completes (op_of old x got way) old new → x.kind ≡ AccessKind.Atomic → length old.ports.waiting ≡ 0 → new.log_seen ≡ length log + 1
      → Reads initial (made (op_of old x got way)) log → Sees old new (log ++ made (op_of old x got way) ∷ []) []
  sees_atomic x got way c kind none seen_then reads = record {
    has_seen = rw (c.ops, c.seen_by, seen_then)
        (seen_atomic initial old.arch.core old.ops old.seen_by log (buffer_of old) caught_up (op_of old x got way) refl refl (none_waits none) (rw kind refl) reads);
    waits = c.waiting ∙ (not_chosen (is_store (op_of old x got way)) _ _ (rw kind refl) ∙ nil_from_length old.ports.waiting none);
  }
    where
      not_chosen : (store : Bool) (pushed same : List Waiting) → store ≡ false → (if store then pushed else same) ≡ same
      not_chosen store pushed same is = rw is refl
