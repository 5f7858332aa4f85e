-- The drain of the store that waits first: its transfer, what it leaves, and its answer.
use Rattle.std.proofs.Common.{◌≡◌, ◌∙◌, ◌+◌, ◌++◌, ◌<◌, ◌≤◌, ◌==◌, ℕ, true, false, IsTrue, not, Option, Result, Ok, Err, List, [], ◌∷◌, Some, None, length, map, drop, cond, refl, ap, sym, arith, if◌then◌else◌}
use Rattle.std.proofs.lemmas.Bool.Decides.{nat_tests}
use Rattle.std.proofs.lemmas.List.{length-append}
use Rattle.std.specs.Prelude.{slice_get, is_ok, ◌↔◌, IfSome, IsNone, Bool}
use Rattle.ahb_bus.proofs.ShownLemmas.{store_shown, store_log}
use Rattle.ahb_bus.proofs.TakenLemmas.{some_length}
use Rattle.ahb_bus.specs.BusOk.{BusOk}
use Rattle.ahb_bus.specs.BusState.{BusState, memory_of, asked_by, answered, store_entry, stored_by}
use Rattle.ahb_bus.specs.declared.record.Who.{Who}
use Rattle.bus_memory.specs.MemoryState.{store_answer}
use Rattle.core_laws.specs.SeenSoFar.{losing}
use Rattle.core_parts.specs.IsCore.{CanStore}
use Rattle.core_parts.specs.Losing.{first_number}
use Rattle.core_parts.specs.RecordState.{RecordState}
use Rattle.core_parts.specs.Work.{waiting_in}
use Rattle.core_parts.specs.declared.parts.Parts.{Parts}
use Rattle.lf_model.specs.Course.Syndromes.{has_address, enters_log}
use Rattle.lf_model.specs.Start.{is_in_ram}
use Rattle.lf_model.specs.declared.bus.Bad.{Bad}
use Rattle.lf_model.specs.declared.bus.Pending.{Pending}
use Rattle.lf_model.specs.declared.bus.Transfer.{Transfer}
use Rattle.lf_model.specs.declared.bus.TurnKind.TheVariants.{Store}
use Rattle.lf_model.specs.declared.bus.Why.{Why}
use Rattle.lf_model.specs.declared.setup.Setup.{Setup}
use Rattle.lf_model.specs.declared.step.Turn.TheVariants.{Drain}
use Rattle.store_buffer.specs.BufferState.{BufferState}
use Rattle.core_turns.proofs.Answers.{did_by, drain_answer}
use Rattle.core_turns.specs.AskedTurn.{asked_drain, turn_answer}
use Rattle.core_turns.specs.Drains.{FirstCanStore, store_drained, stores_dropped, drained_if}
use Rattle.core_turns.specs.MakesTurn.{drained_by}

-- an address of RAM is not 0
pub in_ram_placed : (ram addr len : ℕ) → IsTrue (is_in_ram ram addr len) → not (addr == 0) ≡ true
in_ram_placed ram addr len inside = grind (arith, nat_tests)

-- the first of the stores that wait
pub record IsFirst (bus : BusState) (who : Who) (why : Why) (ps : List Pending) (p : Pending) : Type 0 where
  pub can : CanStore bus.setup p
  pub asked : asked_drain bus who why (map waiting_in ps) ≡ asked_by bus who Store why p.addr 0 p.len
  pub made : drained_by bus who why ps ≡ stored_by who why p bus

pub first : (bus : BusState) (who : Who) (why : Why) (ps : List Pending) (p : Pending) → Some p ≡ slice_get ps 0 → FirstCanStore bus.setup ps → IsFirst bus who why ps p
first bus who why [] p front can = absurd can
first bus who why (q ∷ ps) p front can = by (ap (λ (o : Option Pending). or_else o) front)
  where
    or_else : Option Pending → Pending
    or_else None = p
    or_else (Some r) = r

    by : p ≡ q → IsFirst bus who why (q ∷ ps) p
    by same = rw same (record { can = can; asked = refl; made = refl })

-- what is left once it is taken out
pub popped : (old new : BufferState) (p : Pending) → old ≡ record new { waiting = p ∷ new.waiting } → new ≡ record old { waiting = drop 1 old.waiting }
popped old new p is = sym (ap (λ (b : BufferState). record b { waiting = drop 1 b.waiting }) is)

module _ (bus : BusState) (who : Who) (why : Why) (ps : List Pending) (p : Pending) (ok : BusOk bus) (h : IsFirst bus who why ps p) where
  abbrev pub t : Transfer
  t = answered bus (asked_drain bus who why (map waiting_in ps))

  same_transfer : t ≡ answered bus (asked_by bus who Store why p.addr 0 p.len)
  same_transfer = ap (answered bus) h.asked

  some : 1 ≤ p.len
  some = some_length p.len h.can.size

  placed : has_address (answered bus (asked_by bus who Store why p.addr 0 p.len)) ≡ true
  placed = in_ram_placed bus.setup.config.ram p.addr p.len h.can.in_ram

  shown : is_ok (store_answer (memory_of bus) p.addr p.len) ≡ enters_log t
  shown = store_shown bus ok who why p some h.can.in_ram ∙ ap enters_log (sym same_transfer)

  pub enters : (syn : ℕ) → Ok syn ≡ store_answer (memory_of bus) p.addr p.len → enters_log t ≡ true
  enters syn is = sym shown ∙ ap is_ok (sym is)

  pub lost : (bad : Bad) → Err bad ≡ store_answer (memory_of bus) p.addr p.len → enters_log t ≡ false
  lost bad is = sym shown ∙ ap is_ok (sym is)

  pub answers : (pc : ℕ) (r : Result ℕ Bad) → r ≡ store_answer (memory_of bus) p.addr p.len → did_by (Drain why) r ≡ turn_answer pc (Drain why) t
  answers pc r is =
      ap (did_by (Drain why)) is
      ∙ (drain_answer bus who why p some h.can.in_ram ok pc placed
      ∙ ap (turn_answer pc (Drain why)) (sym same_transfer))

  pub log_longer : (syn : ℕ) → Ok syn ≡ store_answer (memory_of bus) p.addr p.len → length (stored_by who why p bus).log ≡ length bus.log + 1
  log_longer syn is =
      ap length (store_log bus ok who why p some h.can.in_ram ∙ ap (λ b. bus.log ++ cond b (store_entry who p ∷ []) []) (ap enters_log (sym same_transfer) ∙ enters syn is))
      ∙ length-append bus.log (store_entry who p ∷ [])

-- a store waits, so taking out the first leaves the others
pub taken_out : (r : Option Pending) (old new : BufferState) (p : Pending) → Some p ≡ slice_get old.waiting 0
    → IfSome r (λ q. old ≡ record new { waiting = q ∷ new.waiting }) → (IsNone r ↔ (old.waiting ≡ [])) → new ≡ record old { waiting = drop 1 old.waiting }
taken_out (Some q) old new p front is empty = popped old new q is
taken_out None old new p front is empty = absurd (no_first old.waiting (empty.0 refl) front)
  where
    no_first : (ps : List Pending) → ps ≡ [] → Some p ≡ slice_get ps 0 → ⊥
    no_first ps none front = let h : Some p ≡ slice_get [] 0 = rw none at front in absurd cc

-- ---- the parts of the core after it

chosen_first : {A : Type 0} (b : Bool) (x y : A) → b ≡ true → (if b then x else y) ≡ x
chosen_first b x y is = rw is refl

chosen_second : {A : Type 0} (b : Bool) (x y : A) → b ≡ false → (if b then x else y) ≡ y
chosen_second b x y is = rw is refl

pub parts_lost : (enters : Bool) (old new : Parts) → enters ≡ false
    → new ≡ record old { buffer = record old.buffer { waiting = [] }; «record» = record old.«record» { ops = losing (first_number old.buffer.waiting) old.«record».ops } } → new ≡ drained_if enters old
parts_lost enters old new lost is = is ∙ sym (chosen_second enters (store_drained old) (stores_dropped old) lost)

pub parts_drained : (enters : Bool) (old : Parts) (buffer : BufferState) (r : RecordState) → enters ≡ true
    → buffer ≡ record old.buffer { waiting = drop 1 old.buffer.waiting } → r ≡ record old.«record» { seen = old.«record».seen + 1 }
    → record old { buffer = buffer; «record» = r } ≡ drained_if enters old
parts_drained enters old buffer r reached left seen =
    ap (λ b. record old { buffer = b; «record» = r }) left
    ∙ ap (λ r. record old { buffer = record old.buffer { waiting = drop 1 old.buffer.waiting }; «record» = r }) seen
    ∙ sym (chosen_first enters (store_drained old) (stores_dropped old) reached)

-- where the first can drain, one waits
pub some_wait : (setup : Setup) (ps : List Pending) → FirstCanStore setup ps → 0 < length ps
some_wait setup [] can = absurd can
some_wait setup (p ∷ ps) can = omega arith

-- where a store waits, one is found
pub none_waits : (setup : Setup) (ps : List Pending) (r : Option Pending) → r ≡ None → (IsNone r ↔ (ps ≡ [])) → FirstCanStore setup ps → ⊥
none_waits setup [] r none empty can = can
none_waits setup (p ∷ ps) None none empty can = let e : p ∷ ps ≡ [] = empty.0 refl in absurd cc
none_waits setup (p ∷ ps) (Some q) none empty can = absurd cc
