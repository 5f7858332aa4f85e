-- The transfer of a turn, by its kind: what the call for it promises is what the definitions make of the core and of the bus.
use Rattle.std.proofs.Common.{◌≡◌, ◌∙◌, ◌+◌, ◌%◌, ◌^◌, ◌<◌, ◌≤◌, ℕ, Bool, true, false, Result, Ok, List, [], ◌∷◌, length, map, drop, refl, ap, sym, subst, arith, if◌then◌else◌}
use Rattle.std.specs.List.{AllByRecursion}
use Rattle.ahb_bus.specs.BusOk.{BusOk}
use Rattle.ahb_bus.specs.BusState.{BusState, memory_of, part_of, asked_by, answered, after_turn, exchanged_by}
use Rattle.ahb_bus.specs.declared.record.Who.{Who}
use Rattle.bus_memory.specs.MemoryState.{value_at}
use Rattle.core_parts.specs.CanRun.{CanRun}
use Rattle.core_parts.specs.CoreValue.{CoreValue}
use Rattle.core_parts.specs.Inside.{room_in, uses_left, value_of}
use Rattle.core_parts.specs.IsCore.{IsCore, CanStore}
use Rattle.core_parts.specs.Losing.{first_number}
use Rattle.core_parts.specs.PortState.{Waiting}
use Rattle.core_parts.specs.Work.{waiting_in}
use Rattle.core_parts.specs.declared.parts.Parts.{Parts}
use Rattle.core_parts.specs.declared.phase.Phase.{Phase}
use Rattle.lf_model.specs.Bus.Words.{word_of}
use Rattle.lf_model.specs.Caches.Slot.{line_of}
use Rattle.lf_model.specs.Course.Syndromes.{enters_log}
use Rattle.lf_model.specs.Start.{initial_byte}
use Rattle.lf_model.specs.declared.bus.Bad.{Bad}
use Rattle.lf_model.specs.declared.bus.Pending.{Pending}
use Rattle.lf_model.specs.declared.bus.Transfer.{Transfer}
use Rattle.lf_model.specs.declared.bus.TurnKind.{TurnKind}
use Rattle.lf_model.specs.declared.bus.TurnKind.TheVariants as kinds
use Rattle.lf_model.specs.declared.bus.Why.{Why}
use Rattle.lf_model.specs.declared.bus.Why.TheVariants as whys
use Rattle.lf_model.specs.declared.control.Arch.{Arch}
use Rattle.lf_model.specs.declared.setup.Setup.{Setup}
use Rattle.lf_model.specs.declared.step.Did.{Did}
use Rattle.lf_model.specs.declared.step.Did.TheVariants.{Turned}
use Rattle.lf_model.specs.declared.step.Turn.TheVariants.{Fetch, Load, Atomic, Drain, Snoop}
use Rattle.lf_model.specs.declared.trace.Word2.{Word2}
use Rattle.parity_cache.specs.CacheState.{CacheState}
use Rattle.parity_slots.specs.SlotState.{IsAccess}
use Rattle.core_turns.proofs.CoreKept.{core_fetched, core_loaded, core_drains}
use Rattle.core_turns.proofs.RunsOn.{runs_over, leaves_fetched, leaves_loaded, leaves_drained, leaves_same}
use Rattle.core_turns.proofs.TextLine.{HasLine, text_filled_line}
use Rattle.core_turns.specs.AfterTurn.{text_valid, data_valid, drained, stores_lost}
use Rattle.core_turns.specs.AskedTurn.{asked_fill, asked_drain, turn_answer}
use Rattle.core_turns.specs.CanTurn.{HasStepLeft, CanFill, CanFetch, CanRetire, next_atomic_in, who_in, steps_ended, turn_over}
use Rattle.core_turns.specs.Drains.{FirstCanStore, drained_if}
use Rattle.core_turns.specs.Exchanging.{CanExchange, exchanged_if}
use Rattle.core_turns.specs.Filling.{fill_of, bus_filled, fetch_filled, load_filled}
use Rattle.core_turns.specs.MakesTurn.{words_at, drained_by}
use Rattle.core_turns.specs.Transfers.{Transfers}

-- ---- what the calls ask

-- PC is at a word
pub access_at : (pc : ℕ) → pc % 4 ≡ 0 → IsAccess pc 4
access_at pc aligned = record { size = (2, omega arith, refl); aligned = aligned }

module _ (p : Parts) (begun : ℕ) where
  -- a step that is left leaves a use of the cache
  pub fetch_left : HasStepLeft p → CanRun begun 0 p → p.arrays.fetch_cache.cache.uses + 1 < 2 ^ 32
  fetch_left left runs = let room : p.site.config.steps ≤ uses_left p.arrays.fetch_cache + (p.«record».steps + 0) = runs.fetch_room in omega (arith, left, room)

  pub load_left : (looked : ℕ) → HasStepLeft p → CanRun begun looked p → p.arrays.data_cache.cache.uses + 1 < 2 ^ 32
  load_left looked left runs = let room : p.site.config.steps ≤ room_in p + p.«record».steps = runs.room in omega (arith, left, room)

  -- and room for an operation
  pub op_left : (looked : ℕ) → HasStepLeft p → CanRun begun looked p → length p.«record».ops < p.«record».room
  op_left looked left runs = let room : p.site.config.steps ≤ room_in p + p.«record».steps = runs.room in omega (arith, left, room)

-- the first of the stores that wait can reach memory
pub first_can : (setup : Setup) (ps : List Pending) → 0 < length ps → AllByRecursion (CanStore setup) ps → FirstCanStore setup ps
first_can setup [] some all = absurd (omega (arith, some))
first_can setup (p ∷ ps) some all = all.0

-- a turn that found its word bad takes nothing
pub runs_same : (begun : ℕ) (p : Parts) → CanRun begun 1 p → CanRun begun 0 (turn_over p)
runs_same begun p runs = runs_over begun 1 0 0 p p (omega arith) (omega arith) (leaves_same p) runs

-- ---- the others wait on

others_wait : (ps : List Pending) → map waiting_in (drop 1 ps) ≡ drop 1 (map waiting_in ps)
others_wait [] = refl
others_wait (q ∷ ps) = refl

module _ (arch : Arch) (p : Parts) (bus : BusState) (setup : bus.setup ≡ p.site) (ok : BusOk bus) (is : IsCore arch p) where
  abbrev who : Who
  who = who_in arch p

  -- the same, with its step as it was read
  abbrev who_at : ℕ → Who
  who_at n = record { master = arch.core; step = n }

  pub fill_here : (kind : TurnKind) (why : Why) (line : ℕ) (c : CacheState) → CanFill p.site kind why line c.cache → CanFill bus.setup kind why line c.cache
  fill_here kind why line c can = subst (λ (s : Setup). CanFill s kind why line c.cache) (sym setup) can

  pub exchange_here : (asked : Pending) (rd : ℕ) → CanRetire asked rd arch p → CanExchange bus.setup asked rd
  exchange_here asked rd can = subst (λ (s : Setup). CanExchange s asked rd) (sym setup) can.exchange

  -- ---- a fill of the fetch cache

  module _ (line : ℕ) (why : Why) (can : CanFetch line why arch p) (bound : arch.ctl.pc < 2 ^ 32) (runs : CanRun (steps_ended p) 0 p) where
    abbrev text_line : ℕ
    text_line = line_of arch.ctl.pc

    abbrev text_read : Transfer
    text_read = fill_of bus who kinds.Fetch why (line_of arch.ctl.pc) p.arrays.fetch_cache

    has_text : HasLine (initial_byte p.site.image) text_line (text_valid p.site.image text_read) (words_at bus text_line)
    has_text = subst (λ (s : Setup). HasLine (initial_byte s.image) text_line (text_valid s.image text_read) (words_at bus text_line)) setup
        (text_filled_line bus ok (asked_fill bus who kinds.Fetch why text_line p.arrays.fetch_cache.cache) refl (omega arith)
        (fill_here kinds.Fetch why text_line p.arrays.fetch_cache can.fill).in_ram)

    pub fetch_transfers : (p' : Parts) (bus' : BusState) (r : Result Did Bad) → p' ≡ fetch_filled bus who why arch.ctl.pc p
        → bus' ≡ bus_filled bus who kinds.Fetch why (line_of arch.ctl.pc) p.arrays.fetch_cache → r ≡ turn_answer arch.ctl.pc (Fetch (line_of arch.ctl.pc) why) text_read → BusOk bus'
        → Transfers (Fetch line why) arch arch p p' bus bus' r
    fetch_transfers p' bus' r parts made answer ok' = subst (λ (l : ℕ). Transfers (Fetch l why) arch arch p p' bus bus' r) (sym can.at_pc) (record {
      core = λ quiet named phase. ap (λ (q : Parts). value_of arch q quiet named phase) parts;
      made = λ quiet named phase. made;
      answer = λ quiet named phase. answer;
      ok = ok';
      keeps = subst (IsCore arch) (sym parts) (core_fetched arch p is text_line (text_valid p.site.image text_read) (words_at bus text_line) (omega (arith, bound)) has_text);
      runs = subst (λ (q : Parts). CanRun (steps_ended p) 0 (turn_over q)) (sym parts)
          (runs_over (steps_ended p) 0 0 1 p (fetch_filled bus who why arch.ctl.pc p) (omega arith) (omega arith) (leaves_fetched p text_line (text_valid p.site.image text_read) (words_at bus text_line)) runs);
    })

    pub fetch_shown : (n : ℕ) → n ≡ p.«record».steps → (p' : Parts) (bus' : BusState) (r : Result Did Bad) → p' ≡ fetch_filled bus (who_at n) why arch.ctl.pc p
        → bus' ≡ bus_filled bus (who_at n) kinds.Fetch why (line_of arch.ctl.pc) p.arrays.fetch_cache
        → r ≡ turn_answer arch.ctl.pc (Fetch (line_of arch.ctl.pc) why) (fill_of bus (who_at n) kinds.Fetch why (line_of arch.ctl.pc) p.arrays.fetch_cache) → BusOk bus'
        → Transfers (Fetch line why) arch arch p p' bus bus' r
    fetch_shown n at p' bus' r parts made answer ok' =
        fetch_transfers p' bus' r (parts ∙ ap (λ k. fetch_filled bus (who_at k) why arch.ctl.pc p) at)
        (made ∙ ap (λ k. bus_filled bus (who_at k) kinds.Fetch why (line_of arch.ctl.pc) p.arrays.fetch_cache) at)
        (answer ∙ ap (λ k. turn_answer arch.ctl.pc (Fetch (line_of arch.ctl.pc) why) (fill_of bus (who_at k) kinds.Fetch why (line_of arch.ctl.pc) p.arrays.fetch_cache)) at) ok'

  -- ---- one of the data cache

  module _ (addr len : ℕ) (why : Why) (runs : CanRun (steps_ended p) 1 p) where
    abbrev data_read : Transfer
    data_read = fill_of bus who kinds.Load why (line_of addr) p.arrays.data_cache

    pub load_transfers : (p' : Parts) (bus' : BusState) (r : Result Did Bad) → p' ≡ load_filled bus who why addr p
        → bus' ≡ bus_filled bus who kinds.Load why (line_of addr) p.arrays.data_cache → r ≡ turn_answer arch.ctl.pc (Load addr len why) data_read → BusOk bus'
        → Transfers (Load addr len why) arch arch p p' bus bus' r
    load_transfers p' bus' r parts made answer ok' = record {
      core = λ quiet named phase. ap (λ (q : Parts). value_of arch q quiet named phase) parts;
      made = λ quiet named phase. made;
      answer = λ quiet named phase. answer;
      ok = ok';
      keeps = subst (IsCore arch) (sym parts) (core_loaded arch p is (line_of addr) (data_valid data_read) (words_at bus (line_of addr)));
      runs = subst (λ (q : Parts). CanRun (steps_ended p) 0 (turn_over q)) (sym parts)
          (runs_over (steps_ended p) 1 1 0 p (load_filled bus who why addr p) (omega arith) (omega arith) (leaves_loaded p (line_of addr) (data_valid data_read) (words_at bus (line_of addr))) runs);
    }

    pub load_shown : (n : ℕ) → n ≡ p.«record».steps → (p' : Parts) (bus' : BusState) (r : Result Did Bad) → p' ≡ load_filled bus (who_at n) why addr p
        → bus' ≡ bus_filled bus (who_at n) kinds.Load why (line_of addr) p.arrays.data_cache
        → r ≡ turn_answer arch.ctl.pc (Load addr len why) (fill_of bus (who_at n) kinds.Load why (line_of addr) p.arrays.data_cache) → BusOk bus'
        → Transfers (Load addr len why) arch arch p p' bus bus' r
    load_shown n at p' bus' r parts made answer ok' =
        load_transfers p' bus' r (parts ∙ ap (λ k. load_filled bus (who_at k) why addr p) at)
        (made ∙ ap (λ k. bus_filled bus (who_at k) kinds.Load why (line_of addr) p.arrays.data_cache) at)
        (answer ∙ ap (λ k. turn_answer arch.ctl.pc (Load addr len why) (fill_of bus (who_at k) kinds.Load why (line_of addr) p.arrays.data_cache)) at) ok'

  -- ---- a drain

  module _ (why : Why) (runs : CanRun (steps_ended p) 1 p) where
    abbrev store_made : Transfer
    store_made = answered bus (asked_drain bus who why (map waiting_in p.buffer.waiting))

    drained_value : (enters : Bool) (quiet : ℕ) (named : List Word2) (phase : Phase)
        → value_of arch (drained_if enters p) quiet named phase ≡ (if enters then drained (value_of arch p quiet named phase) else stores_lost (first_number p.buffer.waiting) (value_of arch p quiet named phase))
    drained_value true quiet named phase =
        let v : CoreValue = value_of arch p quiet named phase in
        ap (λ (waiting : List Waiting). record v { ports = record v.ports { waiting = waiting }; log_seen = v.log_seen + 1 }) (others_wait p.buffer.waiting)
    drained_value false quiet named phase = refl

    pub drain_transfers : (p' : Parts) (bus' : BusState) (r : Result Did Bad) → p' ≡ drained_if (enters_log store_made) p → bus' ≡ drained_by bus who why p.buffer.waiting
        → r ≡ turn_answer arch.ctl.pc (Drain why) store_made → BusOk bus' → Transfers (Drain why) arch arch p p' bus bus' r
    drain_transfers p' bus' r parts made answer ok' = record {
      core = λ quiet named phase. ap (λ (q : Parts). value_of arch q quiet named phase) parts ∙ drained_value (enters_log store_made) quiet named phase;
      made = λ quiet named phase. made;
      answer = λ quiet named phase. answer;
      ok = ok';
      keeps = subst (IsCore arch) (sym parts) (core_drains arch p is (enters_log store_made));
      runs = subst (λ (q : Parts). CanRun (steps_ended p) 0 (turn_over q)) (sym parts)
          (runs_over (steps_ended p) 1 0 0 p (drained_if (enters_log store_made) p) (omega arith) (omega arith) (leaves_drained p (enters_log store_made)) runs);
    }

    pub drain_shown : (n : ℕ) → n ≡ p.«record».steps → (p' : Parts) (bus' : BusState) (r : Result Did Bad)
        → p' ≡ drained_if (enters_log (answered bus (asked_drain bus (who_at n) why (map waiting_in p.buffer.waiting)))) p → bus' ≡ drained_by bus (who_at n) why p.buffer.waiting
        → r ≡ turn_answer arch.ctl.pc (Drain why) (answered bus (asked_drain bus (who_at n) why (map waiting_in p.buffer.waiting))) → BusOk bus' → Transfers (Drain why) arch arch p p' bus bus' r
    drain_shown n at p' bus' r parts made answer ok' =
        drain_transfers p' bus' r (parts ∙ ap (λ k. drained_if (enters_log (answered bus (asked_drain bus (who_at k) why (map waiting_in p.buffer.waiting)))) p) at)
        (made ∙ ap (λ k. drained_by bus (who_at k) why p.buffer.waiting) at)
        (answer ∙ ap (λ k. turn_answer arch.ctl.pc (Drain why) (answered bus (asked_drain bus (who_at k) why (map waiting_in p.buffer.waiting)))) at) ok'

  -- ---- LDSTUB or SWAP

  module _ (addr len new rd : ℕ) where
    abbrev asked : Pending
    asked = next_atomic_in addr len new arch p

    abbrev asked_at : ℕ → ℕ → Pending
    asked_at n value = record { value = value; addr = addr; k = arch.k; step = n; len = len }

    abbrev atomic_made : Transfer
    atomic_made = answered bus (asked_by bus who kinds.Atomic whys.None addr 0 len)

    pub atomic_transfers : (arch' : Arch) (p' : Parts) (bus' : BusState) (r : Result Did Bad)
        → ((quiet : ℕ) (named : List Word2) (phase : Phase) → value_of arch' p' quiet named phase
        ≡ exchanged_if (enters_log atomic_made) asked rd (part_of (value_at (memory_of bus) (word_of addr)) addr len) (value_of arch p quiet named phase))
        → bus' ≡ exchanged_by who asked bus → r ≡ turn_answer arch.ctl.pc (Atomic addr len new rd) atomic_made → BusOk bus' → IsCore arch' p' → CanRun (steps_ended p) 0 (turn_over p')
        → Transfers (Atomic addr len new rd) arch arch' p p' bus bus' r
    atomic_transfers arch' p' bus' r core made answer ok' keeps runs = record {
      core = core;
      made = λ quiet named phase. made;
      answer = λ quiet named phase. answer;
      ok = ok';
      keeps = keeps;
      runs = runs;
    }

    pub atomic_shown : (n : ℕ) → n ≡ p.«record».steps → (value : ℕ) → value ≡ new → (arch' : Arch) (p' : Parts) (bus' : BusState) (r : Result Did Bad)
        → ((quiet : ℕ) (named : List Word2) (phase : Phase) → value_of arch' p' quiet named phase
        ≡ exchanged_if (enters_log (answered bus (asked_by bus (who_at n) kinds.Atomic whys.None addr 0 len))) (asked_at n value) rd
        (part_of (value_at (memory_of bus) (word_of addr)) addr len) (value_of arch p quiet named phase))
        → bus' ≡ exchanged_by (who_at n) (asked_at n value) bus → r ≡ turn_answer arch.ctl.pc (Atomic addr len value rd) (answered bus (asked_by bus (who_at n) kinds.Atomic whys.None addr 0 len)) → BusOk bus'
        → IsCore arch' p' → CanRun (steps_ended p) 0 (turn_over p') → Transfers (Atomic addr len new rd) arch arch' p p' bus bus' r
    atomic_shown n at value put arch' p' bus' r core made answer ok' keeps runs =
        atomic_transfers arch' p' bus' r
        (λ quiet named phase. core quiet named phase
        ∙ (ap (λ k. exchanged_if (enters_log (answered bus (asked_by bus (who_at k) kinds.Atomic whys.None addr 0 len))) (asked_at k value) rd (part_of (value_at (memory_of bus) (word_of addr)) addr len) (value_of arch p quiet named phase)) at
        ∙ ap (λ v. exchanged_if (enters_log atomic_made) (asked_at p.«record».steps v) rd (part_of (value_at (memory_of bus) (word_of addr)) addr len) (value_of arch p quiet named phase)) put))
        (made ∙ (ap (λ k. exchanged_by (who_at k) (asked_at k value) bus) at ∙ ap (λ v. exchanged_by who (asked_at p.«record».steps v) bus) put))
        (answer ∙ (ap (λ k. turn_answer arch.ctl.pc (Atomic addr len value rd) (answered bus (asked_by bus (who_at k) kinds.Atomic whys.None addr 0 len))) at
        ∙ ap (λ v. turn_answer arch.ctl.pc (Atomic addr len v rd) atomic_made) put))
        ok' keeps runs

  -- ---- a snoop

  pub snoop_transfers : CanRun (steps_ended p) 1 p → (bus' : BusState) → bus' ≡ after_turn (asked_by bus who kinds.Snoop whys.Window 0 0 0) [] bus.values bus → BusOk bus'
      → Transfers Snoop arch arch p p bus bus' (Ok Turned)
  snoop_transfers runs bus' made ok' = record {
    core = λ quiet named phase. refl;
    made = λ quiet named phase. made;
    answer = λ quiet named phase. refl;
    ok = ok';
    keeps = is;
    runs = runs_same (steps_ended p) p runs;
  }
