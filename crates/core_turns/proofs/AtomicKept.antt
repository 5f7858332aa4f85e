-- What holds of a core and its parts stays as an atomic retires, and the core can run on.
use Rattle.std.proofs.Common.{◌≡◌, ◌∙◌, ◌+◌, ◌-◌, ◌*◌, ◌/◌, ◌%◌, ◌^◌, ◌<◌, ◌≤◌, ◌==◌, ◌||◌, ℕ, Bool, true, false, IsTrue, List, [], ◌∷◌, length, fold, refl, ap, sym, subst, arith, inl, inr}
use Rattle.std.proofs.lemmas.Bool.{and_from, lt-ltb, cases_eq}
use Rattle.std.proofs.lemmas.Bool.Decides.{nat_tests}
use Rattle.std.proofs.lemmas.List.{length-append}
use Rattle.std.specs.List.{AllByRecursion as Each, list_all}
use Rattle.std.specs.Vec.{vec_capacity}
use Rattle.ahb_bus.specs.BusState.{part_of}
use Rattle.core_parts.proofs.Quiet.{QuietArrays, quiet_arrays_then, quiet_touch, quiet_touches}
use Rattle.core_parts.proofs.Stays.{arrays_touched}
use Rattle.core_parts.proofs.WaitsKept.{waits_none}
use Rattle.core_parts.specs.Inside.{ports_of, state_in, seen_in, room_in}
use Rattle.core_parts.specs.IsCore.{IsCore, Waits, CanStore}
use Rattle.core_parts.specs.PortState.{arrays_in}
use Rattle.core_parts.specs.RecordState.{RecordState, op_by, fits_bytes}
use Rattle.core_parts.specs.Strikes.{arrays_of}
use Rattle.core_parts.specs.Work.{WorkState}
use Rattle.core_parts.specs.declared.parts.Parts.{Parts}
use Rattle.lf_model.specs.Caches.Change.{snooped}
use Rattle.lf_model.specs.Caches.Slot.{befalls_each, written}
use Rattle.lf_model.specs.Course.Arrays.{Arrays as CourseArrays}
use Rattle.lf_model.specs.Course.Touches.{touched, write_touches}
use Rattle.lf_model.specs.Effect.{cell_written}
use Rattle.lf_model.specs.Promise.Regular.{number_fits, is_regular_op}
use Rattle.lf_model.specs.Start.{initial_byte}
use Rattle.lf_model.specs.State.{State, advanced, with_register}
use Rattle.lf_model.specs.Step.{IsSound, state_of}
use Rattle.lf_model.specs.declared.bus.Pending.{Pending}
use Rattle.lf_model.specs.declared.control.Arch.{Arch}
use Rattle.lf_model.specs.declared.control.Ctl.{Ctl}
use Rattle.lf_model.specs.declared.setup.Setup.{Setup}
use Rattle.lf_model.specs.declared.touch.Touch.TheVariants.{SnoopData}
use Rattle.parity_cache.proofs.LessResident.{formed_snooped}
use Rattle.parity_cache.specs.CacheState.{CacheState, with_cache}
use Rattle.parity_cache.specs.Resident.{Holds, IsWellFormed}
use Rattle.core_turns.proofs.RetiredAtomic.{Retires, cells_written, record_kept, atomic_made}
use Rattle.core_turns.proofs.RunsOn.{Leaves}
use Rattle.core_turns.specs.CanTurn.{CanRetire}
use Rattle.core_turns.specs.Exchanging.{CanExchange, entry_seen}

-- ---- numbers of one byte or four

below_byte : (n : ℕ) → n % 256 < 256
below_byte n = omega arith

below_word : (n : ℕ) → n % 4294967296 < 4294967296
below_word n = omega arith

-- the part of a word that an atomic reads fits its bytes
pub part_small : (word addr len : ℕ) → IsTrue (len == 1 || len == 4) → part_of word addr len < 2 ^ (8 * len)
part_small word addr len size = elim (cases_eq len 1) [
  | inl one ↦ subst (λ (n : ℕ). part_of word addr n < 2 ^ (8 * n)) (sym one) (below_byte (word / 2 ^ (8 * (4 - addr % 4 - 1))))
  | inr not_one ↦
      let four : len ≡ 4 = grind (arith, nat_tests) in
      subst (λ (n : ℕ). part_of word addr n < 2 ^ (8 * n)) (sym four) (below_word (word / 2 ^ (8 * (4 - addr % 4 - 4))))
]

within : (len n : ℕ) → IsTrue (len == 1 || len == 4) → n < 2 ^ (8 * len) → number_fits len n ≡ true
within len n size less = elim (cases_eq len 1) [
  | inl one ↦ subst (λ (l : ℕ). number_fits l n ≡ true) (sym one) (lt-ltb n 256 (subst (λ (l : ℕ). n < 2 ^ (8 * l)) one less))
  | inr not_one ↦
      let four : len ≡ 4 = grind (arith, nat_tests) in
      subst (λ (l : ℕ). number_fits l n ≡ true) (sym four) (lt-ltb n 4294967296 (subst (λ (l : ℕ). n < 2 ^ (8 * l)) four less))
]

-- so the operation is one that a report can show
pub retire_fits : (r : RecordState) (setup : Setup) (asked : Pending) (rd got : ℕ) → CanExchange setup asked rd → got < 2 ^ (8 * asked.len)
    → fits_bytes r (atomic_made asked.addr asked.len asked.value got) ≡ true
retire_fits r setup asked rd got can small =
    and_from _ _ can.store.size (and_from _ _ (within asked.len got can.size small) (and_from _ _ (within asked.len asked.value can.size can.store.value) refl))

-- ---- PC and nPC

ctl_by : (is_none : Bool) (rd got : ℕ) (s : State) → (rd == 0) ≡ is_none → (advanced (with_register rd got s)).ctl ≡ (advanced s).ctl
ctl_by true rd got s is = rw is refl
ctl_by false rd got s is = rw is refl

next_word : (n : ℕ) → n % 4 ≡ 0 → (n + 4) % 2 ^ 32 % 4 ≡ 0
next_word n aligned = omega (arith, aligned)

-- ---- the whole

-- parts: as the turn has caught up; before: with its own entry seen; after: as the operation ends; r: the record once it has retired
module _ (old new : Arch) (parts before after : Parts) (asked : Pending) (rd got : ℕ) (r : RecordState)
    (h : Retires old new parts before after asked.addr rd got r asked.len asked.value) where
  abbrev cells : List ℕ
  cells = cell_written (state_of old (seen_in before)) rd

  -- but for the record, the parts are those that have seen the entry, with cells written
  state_after : state_in after ≡ record (state_in (entry_seen asked.addr parts)) {
    ports = record (ports_of (entry_seen asked.addr parts)) { cells = befalls_each written cells (ports_of (entry_seen asked.addr parts)).cells };
  }
  state_after =
      h.ends.touches
      ∙ (cells_written cells (state_in before)
      ∙ ap (λ (b : Parts). record (state_in b) { ports = record (ports_of b) { cells = befalls_each written cells (ports_of b).cells } }) h.seen)

  site_after : after.site ≡ parts.site
  site_after = ap (λ (w : WorkState). w.setup) state_after

  fetch_after : after.arrays.fetch_cache ≡ parts.arrays.fetch_cache
  fetch_after = ap (λ (w : WorkState). w.ports.fetch_cache) state_after

  data_after : after.arrays.data_cache ≡ with_cache (snooped parts.arrays.data_cache.cache asked.addr) parts.arrays.data_cache
  data_after = ap (λ (w : WorkState). w.ports.data_cache) state_after

  record_after : after.«record» ≡ (entry_seen asked.addr parts).«record»
  record_after = record_kept old new parts before after asked.addr rd got h.seen h.ends

  more_ops : length r.ops ≡ length parts.«record».ops + 1
  more_ops =
      ap (λ (s : RecordState). length s.ops) h.made
      ∙ (length-append after.«record».ops (op_by after.«record» (atomic_made asked.addr asked.len asked.value got) ∷ [])
      ∙ ap (λ (s : RecordState). length s.ops + 1) record_after)

  -- ---- its arrays

  arrays_after : arrays_of after.arrays ≡ fold (touched []) (arrays_of (entry_seen asked.addr parts).arrays) (write_touches cells)
  arrays_after =
      ap (λ (w : WorkState). arrays_in w.ports) h.ends.touches
      ∙ (arrays_touched (write_touches cells) (state_in before)
      ∙ ap (λ (b : Parts). fold (touched []) (arrays_of b.arrays) (write_touches cells)) h.seen)

  quiet_after : QuietArrays (arrays_of parts.arrays) (arrays_of after.arrays)
  quiet_after =
      quiet_arrays_then (arrays_of parts.arrays) (arrays_of (entry_seen asked.addr parts).arrays) (arrays_of after.arrays) (quiet_touch (arrays_of parts.arrays) (SnoopData asked.addr))
      (subst (λ (a : CourseArrays). QuietArrays (arrays_of (entry_seen asked.addr parts).arrays) a) (sym arrays_after) (quiet_touches (write_touches cells) (arrays_of (entry_seen asked.addr parts).arrays)))

  room_before : before.arrays.data_cache.cache.uses ≤ parts.arrays.data_cache.cache.uses → room_in parts ≤ room_in before
  room_before fewer =
      let room : before.«record».room ≡ parts.«record».room = ap (λ (b : Parts). b.«record».room) h.seen in
      let ops : length before.«record».ops ≡ length parts.«record».ops = ap (λ (b : Parts). length b.«record».ops) h.seen in
      let capacity : vec_capacity before.out ≡ vec_capacity parts.out = ap (λ (b : Parts). vec_capacity b.out) h.seen in
      let out : length before.out.items ≡ length parts.out.items = ap (λ (b : Parts). length b.out.items) h.seen in
      omega (arith, room, ops, capacity, out, fewer)

  room_then : room_in after ≤ room_in (record after { «record» = r }) + 1
  room_then =
      let room : r.room ≡ after.«record».room = ap (λ (s : RecordState). s.room) h.made in
      let ops : length r.ops ≡ length after.«record».ops + 1 = more_ops ∙ ap (λ (s : RecordState). length s.ops + 1) (sym record_after) in
      omega (arith, room, ops)

  -- it takes room for one operation
  pub leaves_exchanged : before.arrays.data_cache.cache.uses ≤ parts.arrays.data_cache.cache.uses → room_in before ≤ room_in after → Leaves 1 0 parts (record after { «record» = r })
  leaves_exchanged fewer room = record {
    quiet = quiet_after;
    cells = ap (λ (w : WorkState). w.flips) state_after;
    fetch = ap (λ (c : CacheState). c.flips) fetch_after;
    loads = ap (λ (c : CacheState). c.flips) data_after;
    site = site_after;
    core = ap (λ (s : RecordState). s.core) h.made ∙ ap (λ (s : RecordState). s.core) record_after;
    steps = ap (λ (s : RecordState). s.steps) h.made ∙ ap (λ (s : RecordState). s.steps) record_after;
    room = omega (arith, room_before fewer, room, room_then);
    uses = let same = ap (λ (c : CacheState). c.cache.uses) fetch_after in omega (arith, same);
  }

  -- ---- what holds of the core

  module _ (is : IsCore old parts) (can : CanRetire asked rd old parts) (sound : IsSound new) (fit : list_all is_regular_op r.ops ≡ true) where
    ctl_after : new.ctl ≡ (advanced (state_of old (seen_in before))).ctl
    ctl_after = ap (λ (s : State). s.ctl) h.ends.state ∙ ctl_by (rd == 0) rd got (state_of old (seen_in before)) refl

    none_waits : after.buffer.waiting ≡ []
    none_waits = ap (λ (w : WorkState). w.pending) state_after ∙ can.none_waits

    pub core_exchanged : IsCore new (record after { «record» = r })
    core_exchanged = record {
      sound = sound;
      pc = subst (λ (c : Ctl). c.pc % 4 ≡ 0) (sym ctl_after) is.npc;
      npc = subst (λ (c : Ctl). c.npc % 4 ≡ 0) (sym ctl_after) (next_word old.ctl.npc is.npc);
      core = ap (λ (s : RecordState). s.core) h.made ∙ (ap (λ (s : RecordState). s.core) record_after ∙ (is.core ∙ sym h.ends.core));
      made = h.ends.k ∙ (ap (λ n. n + 1) is.made ∙ sym more_ops);
      depth = ap (λ (w : WorkState). w.ports.depth) state_after ∙ (is.depth ∙ sym (ap (λ (s : Setup). s.config.buffer) site_after));
      few = subst (λ (s : Setup). s.config.buffer ≤ 8) (sym site_after) is.few;
      waits = subst (Waits r.ops) (sym none_waits) (waits_none r.ops);
      can_store = subst (λ (ws : List Pending). Each (CanStore after.site) ws) (sym none_waits) tt;
      fetch_formed = subst IsWellFormed (sym fetch_after) is.fetch_formed;
      data_formed = subst IsWellFormed (sym data_after) (formed_snooped parts.arrays.data_cache asked.addr is.data_formed);
      fetch_lines = subst (λ (c : CacheState). Holds (initial_byte after.site.image) c) (sym fetch_after)
          (subst (λ (s : Setup). Holds (initial_byte s.image) parts.arrays.fetch_cache) (sym site_after) is.fetch_lines);
      ops_fit = fit;
    }
