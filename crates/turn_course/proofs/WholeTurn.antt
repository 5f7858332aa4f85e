-- A core's turn on the bus, of whichever kind and whatever it meets, keeps all that holds of the core over the whole log and all
-- transfers. It adds one transfer, of this core, and an entry of the log just for a store or an atomic that met no bad word.
use Rattle.std.proofs.Common.{◌≡◌, ◌∙◌, ◌<◌, ◌++◌, ℕ, Bool, true, false, List, [], ◌∷◌, Ok, Err, Result, cond, refl, ap, sym, subst, arith}
use Rattle.std.proofs.lemmas.List.{append-nil}
use Rattle.ahb_bus.specs.BusState.{BusState, memory_of, store_entry, atomic_entry}
use Rattle.bus_memory.specs.MemoryState.{value_at}
use Rattle.core_course.specs.CoreOk.{CoreOk}
use Rattle.core_parts.specs.CoreValue.{CoreValue}
use Rattle.core_turns.proofs.Answers.{met}
use Rattle.core_turns.specs.AskedTurn.{who_of, bad_word}
use Rattle.core_turns.specs.MakesTurn.{next_atomic, bus_after}
use Rattle.lf_model.specs.Bus.Words.{word_of}
use Rattle.lf_model.specs.Course.Syndromes.{enters_log}
use Rattle.lf_model.specs.declared.bus.Bad.{Bad}
use Rattle.lf_model.specs.declared.bus.Entry.{Entry}
use Rattle.lf_model.specs.declared.bus.Pending.{Pending}
use Rattle.lf_model.specs.declared.bus.Transfer.{Transfer}
use Rattle.lf_model.specs.declared.bus.Why.{Why}
use Rattle.lf_model.specs.declared.step.Did.{Did}
use Rattle.lf_model.specs.declared.step.Turn.{Turn}
use Rattle.lf_model.specs.declared.step.Turn.TheVariants.{Fetch, Load, Atomic, Drain, Snoop}
use Rattle.turn_course.proofs.Atomics.{atomic_good, atomic_bad, refuses as atomic_refuses, entered as atomic_entered}
use Rattle.turn_course.proofs.Drains.{drain_good, drain_bad, t_is, answer_at, refuses as drain_refuses, entered as drain_entered}
use Rattle.turn_course.proofs.Drains.{t as drain_transfer}
use Rattle.turn_course.proofs.Fetches.{fetch_good, fetch_bad}
use Rattle.turn_course.proofs.Loads.{load_good, load_bad}
use Rattle.turn_course.proofs.Snoops.{snoop_good}
use Rattle.turn_course.specs.BusStep.{TakesTurn, answer_of, ended_by, turned, IsEntered, AddsTransfer, transfer_at}

none_waits : 0 < 0 → ⊥
none_waits less = absurd (omega (arith, less))

module _ (v : CoreValue) (bus : BusState) where
  -- what is shown of the core, by the answer of its turn
  abbrev Kept : Turn → List Pending → Result Did Bad → Type 0
  Kept turn pending answer = CoreOk (ended_by bus turn pending v answer) (bus_after bus turn pending v).log (bus_after bus turn pending v).transfers

  no_entry : (w : CoreValue) (t : Transfer) → CoreOk w bus.log (bus.transfers ++ t ∷ []) → CoreOk w (bus.log ++ []) (bus.transfers ++ t ∷ [])
  no_entry w t h = subst (λ (es : List Entry). CoreOk w es (bus.transfers ++ t ∷ [])) (sym (append-nil bus.log)) h

  fetch_by : (line : ℕ) (why : Why) (pending : List Pending) → TakesTurn v bus (Fetch line why) pending → (answer : Result Did Bad) → answer_of bus (Fetch line why) v ≡ answer → Kept (Fetch line why) pending answer
  fetch_by line why pending x (Ok did) is =
      no_entry (ended_by bus (Fetch line why) pending v (Ok did)) (transfer_at bus (Fetch line why) v) (fetch_good v bus line why pending x did is)
  fetch_by line why pending x (Err bad) is =
      let m = met v.arch.ctl.pc (Fetch line why) (transfer_at bus (Fetch line why) v) bad is in
      subst (λ (b : Bad). Kept (Fetch line why) pending (Err b)) m.1.1
      (no_entry (ended_by bus (Fetch line why) pending v (Err (bad_word (transfer_at bus (Fetch line why) v) m.0))) (transfer_at bus (Fetch line why) v) (fetch_bad v bus line why pending x m.0 m.1.0))

  load_by : (addr len : ℕ) (why : Why) (pending : List Pending) → TakesTurn v bus (Load addr len why) pending → (answer : Result Did Bad) → answer_of bus (Load addr len why) v ≡ answer
      → Kept (Load addr len why) pending answer
  load_by addr len why pending x (Ok did) is =
      no_entry (ended_by bus (Load addr len why) pending v (Ok did)) (transfer_at bus (Load addr len why) v) (load_good v bus addr len why pending x did is)
  load_by addr len why pending x (Err bad) is =
      let m = met v.arch.ctl.pc (Load addr len why) (transfer_at bus (Load addr len why) v) bad is in
      subst (λ (b : Bad). Kept (Load addr len why) pending (Err b)) m.1.1
      (no_entry (ended_by bus (Load addr len why) pending v (Err (bad_word (transfer_at bus (Load addr len why) v) m.0))) (transfer_at bus (Load addr len why) v) (load_bad v bus addr len why pending x m.0 m.1.0))

  atomic_by : (addr len new rd : ℕ) (pending : List Pending) → TakesTurn v bus (Atomic addr len new rd) pending → (answer : Result Did Bad) → answer_of bus (Atomic addr len new rd) v ≡ answer
      → Kept (Atomic addr len new rd) pending answer
  atomic_by addr len new rd pending x (Ok did) is = atomic_good v bus addr len new rd pending x did is
  atomic_by addr len new rd pending x (Err bad) is =
      let m = met v.arch.ctl.pc (Atomic addr len new rd) (transfer_at bus (Atomic addr len new rd) v) bad is in
      subst (λ (b : Bad). Kept (Atomic addr len new rd) pending (Err b)) m.1.1
      (atomic_bad v bus addr len new rd pending x m.0 m.1.0 (atomic_refuses v bus addr len new rd pending x bad is))

  drain_by : (why : Why) (p : Pending) (ps : List Pending) → TakesTurn v bus (Drain why) (p ∷ ps) → (answer : Result Did Bad) → answer_of bus (Drain why) v ≡ answer → Kept (Drain why) (p ∷ ps) answer
  drain_by why p ps x (Ok did) is = drain_good v bus why p ps x did is
  drain_by why p ps x (Err bad) is =
      let m = met v.arch.ctl.pc (Drain why) (drain_transfer v bus why p ps x) bad (answer_at v bus why p ps x ∙ is) in
      subst (λ (b : Bad). Kept (Drain why) (p ∷ ps) (Err b)) m.1.1
      (drain_bad v bus why p ps x m.0 m.1.0 (drain_refuses v bus why p ps x bad is))

  snoop_by : (pending : List Pending) → TakesTurn v bus Snoop pending → (answer : Result Did Bad) → answer_of bus Snoop v ≡ answer → Kept Snoop pending answer
  snoop_by pending x (Ok did) is =
      no_entry (ended_by bus Snoop pending v (Ok did)) (transfer_at bus Snoop v) (snoop_good v bus pending x did is)
  snoop_by pending x (Err bad) is = absurd cc

  pub turn_keeps : (turn : Turn) (pending : List Pending) → TakesTurn v bus turn pending
      → CoreOk (turned bus turn pending v) (bus_after bus turn pending v).log (bus_after bus turn pending v).transfers
  turn_keeps (Fetch line why) pending x = fetch_by line why pending x (answer_of bus (Fetch line why) v) refl
  turn_keeps (Load addr len why) pending x = load_by addr len why pending x (answer_of bus (Load addr len why) v) refl
  turn_keeps (Atomic addr len new rd) pending x = atomic_by addr len new rd pending x (answer_of bus (Atomic addr len new rd) v) refl
  turn_keeps (Drain why) [] x = absurd (none_waits x.in_ram.0)
  turn_keeps (Drain why) (p ∷ ps) x = drain_by why p ps x (answer_of bus (Drain why) v) refl
  turn_keeps Snoop pending x = snoop_by pending x (answer_of bus Snoop v) refl

-- ---- the bus

entered_by : (v : CoreValue) (e : Entry) (before after : List Entry) (enters : Bool) → e.core ≡ v.arch.core → after ≡ before ++ cond enters (e ∷ []) [] → IsEntered v before after enters
entered_by v e before after true own is = (e, (own, is))
entered_by v e before after false own is = is ∙ append-nil before

module _ (v : CoreValue) (bus : BusState) where
  pub turn_adds : (turn : Turn) (pending : List Pending) → TakesTurn v bus turn pending → AddsTransfer turn v bus (bus_after bus turn pending v) (transfer_at bus turn v)
  turn_adds (Fetch line why) pending x = record { made = refl; own = refl; step = refl; kind = refl; why = refl; entry = append-nil bus.log; setup = refl; idle = refl }
  turn_adds (Load addr len why) pending x = record { made = refl; own = refl; step = refl; kind = refl; why = refl; entry = append-nil bus.log; setup = refl; idle = refl }
  turn_adds (Atomic addr len new rd) pending x = record {
    made = refl;
    own = refl;
    step = refl;
    kind = refl;
    why = refl;
    entry = entered_by v (atomic_entry (who_of v) (next_atomic addr len new v) (value_at (memory_of bus) (word_of addr))) bus.log
        (bus_after bus (Atomic addr len new rd) pending v).log (enters_log (transfer_at bus (Atomic addr len new rd) v)) refl (atomic_entered v bus addr len new rd pending x);
    setup = refl;
    idle = refl;
  }
  turn_adds (Drain why) [] x = absurd (none_waits x.in_ram.0)
  turn_adds (Drain why) (p ∷ ps) x =
      let t = drain_transfer v bus why p ps x in
      let is : transfer_at bus (Drain why) v ≡ t = t_is v bus why p ps x in
      record {
        made = ap (λ u. bus.transfers ++ u ∷ []) (sym is);
        own = ap (λ (u : Transfer). u.master) is;
        step = ap (λ (u : Transfer). u.step) is;
        kind = ap (λ (u : Transfer). u.kind) is;
        why = ap (λ (u : Transfer). u.why) is;
        entry = subst (λ (u : Transfer). IsEntered v bus.log (bus_after bus (Drain why) (p ∷ ps) v).log (enters_log u)) (sym is)
            (entered_by v (store_entry (who_of v) p) bus.log (bus_after bus (Drain why) (p ∷ ps) v).log (enters_log t) refl (drain_entered v bus why p ps x));
        setup = refl;
        idle = refl;
      }
  turn_adds Snoop pending x = record { made = refl; own = refl; step = refl; kind = refl; why = refl; entry = append-nil bus.log; setup = refl; idle = refl }
