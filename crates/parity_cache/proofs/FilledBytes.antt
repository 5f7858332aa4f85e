-- What a fill leaves of the bytes of a cache: its line has the words of the fill.
use Rattle.std.proofs.Common.{◌≡◌, ◌≢◌, ℕ, ◌+◌, ◌*◌, ◌/◌, ◌%◌, ◌^◌, ◌<◌, true, List, [], length, slice_index, slice_set, Contains, refl, sym, ap, ap₂, ◌∙◌, subst, arith, inl, inr}
use Rattle.std.specs.Int.{bit_at}
use Rattle.std.specs.List.{range_with_len}
use Rattle.std.proofs.lemmas.Bool.{cases_eq, eqb-true}
use Rattle.std.proofs.lemmas.List.{get_or-set_same, get_or-set_other, length-set}
use Rattle.std.proofs.lemmas.List.FromFn.{length-map-range_with_len, get_or-map-range_with_len}
use Rattle.lf_model.proofs.CheckLemmas.{slot_same, slot_other}
use Rattle.lf_model.proofs.FillLemmas.{victim_matches}
use Rattle.lf_model.specs.Caches.Cache.{slot_at, with_slot}
use Rattle.lf_model.specs.Caches.Change.{victim}
use Rattle.lf_model.specs.Caches.Slot.{Slot, filled_slot, holds}
use Rattle.lf_model.specs.Operation.{byte_of}
use Rattle.parity_slots.specs.SlotState.{bytes_of}
use Rattle.parity_cache.specs.CacheState.{CacheState, line_at, filled_in, filled_cache}
use Rattle.parity_cache.specs.Resident.{Holds, IsApart, IsWellFormed}
use Rattle.parity_cache.proofs.LessResident.{Resides, resides, is_resident}
use Rattle.parity_cache.proofs.SetLemmas.{filled_is}
use Rattle.parity_cache.proofs.SetPlaces.{InSet, contained, set_within, one_set, AreSets, are_sets, HasBytes, has_bytes, one_line, found_one, same_tag}
use Rattle.parity_cache.proofs.VictimLemmas.{victim_among}

module _ (addr valid : ℕ) (words : List ℕ) (c : CacheState) (formed : IsWellFormed c) where
  -- the slot that the fill takes
  abbrev v : ℕ
  v = victim addr c.cache

  abbrev new_slot : Slot
  new_slot = record (filled_slot addr valid (slot_at (victim addr c.cache) c.cache)) { used = c.cache.uses + 1 }

  abbrev after : CacheState
  after = filled_in (victim addr c.cache) addr valid words c

  sets : AreSets c.cache.shape.sets
  sets = are_sets c.cache.shape.sets formed.shape.sets

  taken : InSet c.cache addr v
  taken =
      let range = victim_among addr c.cache formed.shape.some_way in
      contained (addr / 32 % c.cache.shape.sets * c.cache.shape.ways) c.cache.shape.ways (victim addr c.cache) (record { from = range.0; below = range.1 })

  within : v < length c.cache.slots
  within = set_within c.cache addr v taken sets.some formed.slots

  within_lines : v < length c.lines
  within_lines = subst (λ (n : ℕ). victim addr c.cache < n) (sym formed.lines) within

  at_taken : slot_at v after.cache ≡ new_slot
  at_taken =
      slot_same (λ slot. record slot { used = c.cache.uses + 1 }) v (with_slot (filled_slot addr valid) v c.cache)
      (subst (λ (n : ℕ). victim addr c.cache < n) (sym (length-set c.cache.slots v (filled_slot addr valid (slot_at (victim addr c.cache) c.cache)))) within)
      ∙ ap (λ (s : Slot). record s { used = c.cache.uses + 1 }) (slot_same (filled_slot addr valid) v c.cache within)

  at_others : (j : ℕ) → j ≢ v → slot_at j after.cache ≡ slot_at j c.cache
  at_others j other = slot_other (λ slot. record slot { used = c.cache.uses + 1 }) v j (with_slot (filled_slot addr valid) v c.cache) other ∙ slot_other (filled_slot addr valid) v j c.cache other

  as_many : length after.cache.slots ≡ length c.cache.slots
  as_many =
      length-set (with_slot (filled_slot addr valid) v c.cache).slots v (record (slot_at (victim addr c.cache) (with_slot (filled_slot addr valid) (victim addr c.cache) c.cache)) { used = c.cache.uses + 1 })
      ∙ length-set c.cache.slots v (filled_slot addr valid (slot_at (victim addr c.cache) c.cache))

  new_bytes : HasBytes new_slot addr
  new_bytes = record { high = refl; middle = refl; low = refl }

  -- another slot that holds a line of the new slot is the one that the fill takes
  only_taken : (a j : ℕ) → InSet c.cache a v → InSet c.cache a j → holds a new_slot ≡ true → holds a (slot_at j c.cache) ≡ true → v ≡ j
  only_taken a j of_v of_j new_holds is =
      let same = one_set c.cache a addr v of_v taken in
      let of_addr : InSet c.cache addr j = subst (λ (q : ℕ). Contains (range_with_len (q * c.cache.shape.ways) c.cache.shape.ways) j) same of_j in
      let held = sym (same_tag new_slot a addr (slot_at j c.cache) (has_bytes a new_slot new_holds) new_bytes) ∙ is in
      victim_matches addr j c.cache (found_one c.cache addr j formed.apart of_addr held)

  before : (i a : ℕ) → i ≢ v → holds a (slot_at i after.cache) ≡ true → holds a (slot_at i c.cache) ≡ true
  before i a other is = ap (holds a) (sym (at_others i other)) ∙ is

  now : (i a : ℕ) → i ≡ v → holds a (slot_at i after.cache) ≡ true → holds a new_slot ≡ true
  now i a here is = ap (holds a) (sym at_taken) ∙ subst (λ (k : ℕ). holds a (slot_at k after.cache) ≡ true) here is

  apart : IsApart after.cache
  apart a i j of_i of_j at_i at_j = elim (cases_eq i v) [
    | inl i_here ↦ elim (cases_eq j v) [
      | inl j_here ↦ i_here ∙ sym j_here
      | inr j_other ↦ i_here ∙ only_taken a j (subst (InSet c.cache a) i_here of_i) of_j (now i a i_here at_i) (before j a j_other at_j)
    ]
    | inr i_other ↦ elim (cases_eq j v) [
      | inl j_here ↦ sym (only_taken a i (subst (InSet c.cache a) j_here of_j) of_i (now j a j_here at_j) (before i a i_other at_i)) ∙ sym j_here
      | inr j_other ↦ formed.apart a i j of_i of_j (before i a i_other at_i) (before j a j_other at_j)
    ]
  ]

  line_now : line_at v after ≡ bytes_of words
  line_now = get_or-set_same c.lines v (bytes_of words) [] within_lines

  bytes : (slot : ℕ) → slot < length (slice_set c.lines v (bytes_of words)) → length (line_at slot after) ≡ 32
  bytes slot lt = elim (cases_eq slot v) [
    | inl here ↦ subst (λ (k : ℕ). length (line_at k after) ≡ 32) (sym here)
        (ap length line_now ∙ length-map-range_with_len (λ (i : ℕ). byte_of (slice_index words (i / 4)) 4 (i % 4)) 0 32)
    | inr other ↦ ap length (get_or-set_other c.lines v slot (bytes_of words) [] other) ∙ formed.bytes slot (subst (λ (n : ℕ). slot < n) (length-set c.lines v (bytes_of words)) lt)
  ]

  pub formed_filled : IsWellFormed (filled_cache addr valid words c)
  formed_filled = subst IsWellFormed (filled_is addr valid words c) (record {
    shape = formed.shape;
    slots = as_many ∙ formed.slots;
    lines = length-set c.lines v (bytes_of words) ∙ formed.lines ∙ sym as_many;
    bytes = bytes;
    apart = apart;
  })

  -- the words of the fill are those of memory, where they are valid
  module _ (byte : ℕ → ℕ) (bound : addr < 2 ^ 32) (right : (a : ℕ) → a / 32 ≡ addr / 32 → bit_at valid (a / 4 % 8) ≡ 1 → byte_of (slice_index words (a / 4 % 8)) 4 (a % 4) ≡ byte a) (held : Holds byte c) where
    in_line : (a : ℕ) → a < 4294967296 → InSet c.cache a v → Resides new_slot a → slice_index (line_at v after) (a % 32) ≡ byte a
    in_line a lt of_set is =
        let line = one_line c.cache a addr v new_slot sets lt bound of_set taken (has_bytes a new_slot is.held) new_bytes in
        let word : a % 32 / 4 ≡ a / 4 % 8 = omega arith in
        let place : a % 32 % 4 ≡ a % 4 = omega arith in
        ap (λ (bs : List ℕ). slice_index bs (a % 32)) line_now
        ∙ get_or-map-range_with_len (λ (i : ℕ). byte_of (slice_index words (i / 4)) 4 (i % 4)) 0 32 (a % 32) (a % 32) 0 (omega arith) (omega arith)
        ∙ ap₂ (λ (w k : ℕ). byte_of (slice_index words w) 4 k) word place
        ∙ right a line (eqb-true (bit_at valid (a / 4 % 8)) 1 is.valid)

    pub holds_filled : Holds byte (filled_cache addr valid words c)
    holds_filled = subst (Holds byte) (filled_is addr valid words c) all
      where
        all : Holds byte after
        all slot a lt is = elim (cases_eq slot v) [
          | inl here ↦ subst (λ (k : ℕ). slice_index (line_at k after) (a % 32) ≡ byte a) (sym here)
              (in_line a lt (subst (InSet c.cache a) here is.of_set) (subst (λ (t : Slot). Resides t a) at_taken (subst (λ (k : ℕ). Resides (slot_at k after.cache) a) here (resides after slot a is))))
          | inr other ↦
              ap (λ (bs : List ℕ). slice_index bs (a % 32)) (get_or-set_other c.lines v slot (bytes_of words) [] other)
              ∙ held slot a lt (is_resident c slot a is.of_set (subst (λ (t : Slot). Resides t a) (at_others slot other) (resides after slot a is)))
        ]
