-- What an own store leaves of the bytes of a cache: those that it wrote are its own, where its line is present.
use Rattle.std.proofs.Common.{◌≡◌, ◌≢◌, ◌⊎◌, ℕ, ◌+◌, ◌-◌, ◌/◌, ◌%◌, ◌^◌, ◌<◌, ◌≤◌, true, List, [], length, slice_index, slice_set, Contains, Option, Some, None, refl, sym, ap, ◌∙◌, subst, arith, inl, inr}
use Rattle.std.specs.List.{range_with_len}
use Rattle.std.proofs.lemmas.Bool.{cases_eq, cases_lt}
use Rattle.std.proofs.lemmas.List.{get_or-set_same, get_or-set_other, length-set}
use Rattle.lf_model.proofs.CheckLemmas.{slot_same, slot_other}
use Rattle.lf_model.proofs.LineLemmas.{is_among}
use Rattle.lf_model.specs.Caches.Cache.{Cache, slot_at, with_slot, matching, used}
use Rattle.lf_model.specs.Caches.Change.{stored_bytes, stored_in}
use Rattle.lf_model.specs.Caches.Look.{checked}
use Rattle.lf_model.specs.Caches.Slot.{Slot, history_at, written, holds, is_valid_word}
use Rattle.lf_model.specs.Flips.{Moment, is_struck_byte}
use Rattle.lf_model.specs.Operation.{byte_of}
use Rattle.parity_slots.specs.SlotState.{IsAccess, bytes_stored}
use Rattle.parity_slots.proofs.AccessLemmas.{lies}
use Rattle.parity_cache.specs.CacheState.{CacheState, with_cache, line_at, stored_by, stored_cache}
use Rattle.parity_cache.specs.Resident.{Holds, IsWellFormed}
use Rattle.parity_cache.proofs.LessResident.{Resides, resides, is_resident, each_with, apart_less, less_checked, formed_less, holds_less}
use Rattle.parity_cache.proofs.PutPlaces.{others_kept, as_long, put_there, passes, none_passes, not_among}
use Rattle.parity_cache.proofs.SetLemmas.{stored_is}
use Rattle.parity_cache.proofs.SetPlaces.{InSet, Matches, matches, none_holds, same_holds, same_set_of, set_within, AreSets, are_sets, one_line, has_bytes}

-- ---- a slot

abbrev pub stored_used : ℕ → ℕ → ℕ → Slot → Slot
stored_used addr len n s = record (stored_in addr len s) { used = n }

module _ (addr len i : ℕ) (c : Cache) where
  abbrev pub stored_slots : Cache
  stored_slots = used i (with_slot (stored_in addr len) i c)

  -- the tags are what they were
  pub held_stored : (j a : ℕ) → holds a (slot_at j stored_slots) ≡ true → holds a (slot_at j c) ≡ true
  held_stored j a is =
      each_with (λ (old new : Slot). holds a new ≡ true → holds a old ≡ true) (λ s is. is) (stored_in addr len) i c (λ is. is) j
      (each_with (λ (old new : Slot). holds a new ≡ true → holds a old ≡ true) (λ s is. is) (λ slot. record slot { used = c.uses + 1 }) i (with_slot (stored_in addr len) i c) (λ is. is) j is)

  pub at_stored : i < length c.slots → slot_at i stored_slots ≡ stored_used addr len (c.uses + 1) (slot_at i c)
  at_stored within =
      slot_same (λ slot. record slot { used = c.uses + 1 }) i (with_slot (stored_in addr len) i c) (subst (λ (n : ℕ). i < n) (sym (length-set c.slots i (stored_in addr len (slot_at i c)))) within)
      ∙ ap (λ (s : Slot). record s { used = c.uses + 1 }) (slot_same (stored_in addr len) i c within)

  pub at_others : (j : ℕ) → j ≢ i → slot_at j stored_slots ≡ slot_at j c
  at_others j other = slot_other (λ slot. record slot { used = c.uses + 1 }) i j (with_slot (stored_in addr len) i c) other ∙ slot_other (stored_in addr len) i j c other

  pub as_many : length stored_slots.slots ≡ length c.slots
  as_many = length-set (with_slot (stored_in addr len) i c).slots i (record (slot_at i (with_slot (stored_in addr len) i c)) { used = c.uses + 1 }) ∙ length-set c.slots i (stored_in addr len (slot_at i c))

-- ---- the store, after the tag check

module _ (addr len value : ℕ) (access : IsAccess addr len) where
  fits : addr % 32 + len ≤ 32
  fits = let l = lies addr len access in omega (arith, l.ends, l.bytes_fit)

  line : (a : ℕ) → addr ≤ a → a < addr + len → a / 32 ≡ addr / 32
  line a from below = omega (arith, from, below, fits)

  module _ (c : CacheState) (formed : IsWellFormed c) where
    formed_by : (found : Option ℕ) → IsWellFormed (stored_by addr len value c found)
    formed_by None = formed
    formed_by (Some i) = record {
      shape = formed.shape;
      slots = as_many addr len i c.cache ∙ formed.slots;
      lines = length-set c.lines i put ∙ formed.lines ∙ sym (as_many addr len i c.cache);
      bytes = bytes;
      apart = apart_less c.cache (stored_slots addr len i c.cache) refl (held_stored addr len i c.cache) formed.apart;
    }
      where
        put : List ℕ
        put = bytes_stored addr len value (stored_bytes addr len (slot_at i c.cache)) (line_at i c)

        bytes : (slot : ℕ) → slot < length (slice_set c.lines i put) → length (line_at slot (stored_by addr len value c (Some i))) ≡ 32
        bytes slot lt = elim (cases_eq slot i) [
          | inl here ↦ subst (λ (k : ℕ). length (line_at k (stored_by addr len value c (Some i))) ≡ 32) (sym here)
              (ap length (get_or-set_same c.lines i put [] (within here)) ∙ as_long (λ (ys : List ℕ) w. byte_of value len (w - addr % 32)) (stored_bytes addr len (slot_at i c.cache)) (line_at i c) ∙ formed.bytes i (within here))
          | inr other ↦ ap length (get_or-set_other c.lines i slot put [] other) ∙ formed.bytes slot (subst (λ (n : ℕ). slot < n) (length-set c.lines i put) lt)
        ]
          where
            within : slot ≡ i → i < length c.lines
            within here = subst (λ (k : ℕ). k < length c.lines) here (subst (λ (n : ℕ). slot < n) (length-set c.lines i put) lt)

    module _ (bound : addr < 2 ^ 32) (old new : ℕ → ℕ)
        (inside : (a : ℕ) → addr ≤ a → a < addr + len → new a ≡ byte_of value len (a - addr)) (outside : (a : ℕ) → (a < addr) ⊎ (addr + len ≤ a) → new a ≡ old a) (held : Holds old c) where
      -- where no byte of the store can be resident
      same_out : (a : ℕ) → (addr ≤ a → a < addr + len → ⊥) → new a ≡ old a
      same_out a out = elim (cases_lt a addr) [
        | inl under ↦ outside a (inl under)
        | inr from ↦ elim (cases_lt a (addr + len)) [
          | inl below ↦ absurd (out from below)
          | inr past ↦ outside a (inr past)
        ]
      ]

      of_addr : (a j : ℕ) → a / 32 ≡ addr / 32 → InSet c.cache a j → InSet c.cache addr j
      of_addr a j e is = subst (λ (ws : List ℕ). Contains ws j) (same_set_of c.cache a addr e) is

      none_stored : matching addr c.cache ≡ None → Holds new c
      none_stored none slot a lt is = held slot a lt is ∙ sym (same_out a (λ from below.
          none_holds c.cache addr slot none (of_addr a slot (line a from below) is.of_set) (sym (same_holds a addr (slot_at slot c.cache) (line a from below)) ∙ is.held)))

      module _ (i : ℕ) (found : matching addr c.cache ≡ Some i) where
        abbrev s : Slot
        s = slot_at i c.cache

        abbrev places : List ℕ
        places = stored_bytes addr len (slot_at i c.cache)

        abbrev after : CacheState
        after = stored_by addr len value c (Some i)

        sets : AreSets c.cache.shape.sets
        sets = are_sets c.cache.shape.sets formed.shape.sets

        is_match : Matches c.cache addr i
        is_match = matches c.cache addr i found

        within : i < length c.cache.slots
        within = set_within c.cache addr i is_match.of_set sets.some formed.slots

        within_lines : i < length c.lines
        within_lines = subst (λ (n : ℕ). i < n) (sym formed.lines) within

        line_now : line_at i after ≡ bytes_stored addr len value places (line_at i c)
        line_now = get_or-set_same c.lines i (bytes_stored addr len value places (line_at i c)) [] within_lines

        -- a byte of the slot that was written
        written_in : (a : ℕ) → Resides (stored_used addr len (c.cache.uses + 1) s) a → addr ≤ a → a < addr + len → slice_index (line_at i after) (a % 32) ≡ new a
        written_in a is from below =
            let l = line a from below in
            let word : a / 4 % 8 ≡ a % 32 / 4 = omega arith in
            let any = passes (λ k. is_valid_word (slot_at i c.cache) (k / 4)) (range_with_len (addr % 32) len) (a % 32) (subst (λ (w : ℕ). is_valid_word (slot_at i c.cache) w ≡ true) word is.valid)
            (is_among (a % 32) (addr % 32) len (omega (arith, l, from)) (omega (arith, l, from, below))) in
            let place : a % 32 - addr % 32 ≡ a - addr = omega (arith, l, from) in
            ap (λ (bs : List ℕ). slice_index bs (a % 32)) line_now
            ∙ put_there (λ w. byte_of value len (w - addr % 32)) places (line_at i c) (a % 32) any (subst (λ (n : ℕ). a % 32 < n) (sym (formed.bytes i within_lines)) (omega arith))
            ∙ ap (byte_of value len) place
            ∙ sym (inside a from below)

        -- one that was not
        kept_in : (a : ℕ) → a < 4294967296 → InSet c.cache a i → Resides (stored_used addr len (c.cache.uses + 1) s) a → (a < addr) ⊎ (addr + len ≤ a) → slice_index (line_at i after) (a % 32) ≡ new a
        kept_in a lt of_set is out =
            let l = one_line c.cache a addr i (slot_at i c.cache) sets lt bound of_set is_match.of_set (has_bytes a (slot_at i c.cache) is.held) (has_bytes addr (slot_at i c.cache) is_match.held) in
            let none = none_passes (λ k. is_valid_word (slot_at i c.cache) (k / 4)) (range_with_len (addr % 32) len) (a % 32) (not_among (a % 32) (addr % 32) len (out_of a l out)) in
            ap (λ (bs : List ℕ). slice_index bs (a % 32)) line_now
            ∙ others_kept (λ (ys : List ℕ) w. byte_of value len (w - addr % 32)) places (line_at i c) (a % 32) 0 none
            ∙ held i a lt (is_resident c i a of_set (record {
              held = is.held;
              valid = is.valid;
              tag_good = is.tag_good;
              byte_good = ap is_struck_byte (sym (others_kept (λ (hs : List (List Moment)) w. written (history_at w hs)) places (slot_at i c.cache).line_histories (a % 32) [] none)) ∙ is.byte_good;
            }))
            ∙ sym (outside a out)
          where
            out_of : (a : ℕ) → a / 32 ≡ addr / 32 → (a < addr) ⊎ (addr + len ≤ a) → (a % 32 < addr % 32) ⊎ (addr % 32 + len ≤ a % 32)
            out_of a l (inl under) = inl (omega (arith, l, under))
            out_of a l (inr past) = inr (omega (arith, l, past))

        in_slot : (a : ℕ) → a < 4294967296 → InSet c.cache a i → Resides (stored_used addr len (c.cache.uses + 1) s) a → slice_index (line_at i after) (a % 32) ≡ new a
        in_slot a lt of_set is = elim (cases_lt a addr) [
          | inl under ↦ kept_in a lt of_set is (inl under)
          | inr from ↦ elim (cases_lt a (addr + len)) [
            | inl below ↦ written_in a is from below
            | inr past ↦ kept_in a lt of_set is (inr past)
          ]
        ]

        some_stored : Holds new after
        some_stored slot a lt is = elim (cases_eq slot i) [
          | inl here ↦ subst (λ (k : ℕ). slice_index (line_at k after) (a % 32) ≡ new a) (sym here)
              (in_slot a lt (subst (InSet c.cache a) here is.of_set)
              (subst (λ (t : Slot). Resides t a) (at_stored addr len i c.cache within) (subst (λ (k : ℕ). Resides (slot_at k (stored_slots addr len i c.cache)) a) here (resides after slot a is))))
          | inr other ↦
              let before = subst (λ (t : Slot). Resides t a) (at_others addr len i c.cache slot other) (resides after slot a is) in
              ap (λ (bs : List ℕ). slice_index bs (a % 32)) (get_or-set_other c.lines i slot (bytes_stored addr len value places (line_at i c)) [] other)
              ∙ held slot a lt (is_resident c slot a is.of_set before)
              ∙ sym (same_out a (λ from below. other (formed.apart addr slot i (of_addr a slot (line a from below) is.of_set) is_match.of_set
              (sym (same_holds a addr (slot_at slot c.cache) (line a from below)) ∙ before.held) is_match.held)))
        ]

      pub holds_by : (found : Option ℕ) → found ≡ matching addr c.cache → Holds new (stored_by addr len value c found)
      holds_by None e = none_stored (sym e)
      holds_by (Some i) e = some_stored i (sym e)

    -- ---- the store with its tag check

    abbrev pub checked_first : CacheState
    checked_first = with_cache (checked addr c.cache).cache c

    still : IsWellFormed checked_first
    still = formed_less c (checked addr c.cache).cache (less_checked addr c.cache) formed

  pub formed_stored : (c : CacheState) → IsWellFormed c → IsWellFormed (stored_cache addr len value c)
  formed_stored c formed =
      let found : Option ℕ = matching addr (checked addr c.cache).cache in
      subst IsWellFormed (stored_is addr len value c found refl) (formed_by (checked_first c formed) (still c formed) found)

  pub holds_stored : (c : CacheState) → IsWellFormed c → addr < 2 ^ 32 → (old new : ℕ → ℕ)
      → ((a : ℕ) → addr ≤ a → a < addr + len → new a ≡ byte_of value len (a - addr)) → ((a : ℕ) → (a < addr) ⊎ (addr + len ≤ a) → new a ≡ old a) → Holds old c
      → Holds new (stored_cache addr len value c)
  holds_stored c formed bound old new inside outside held =
      let found : Option ℕ = matching addr (checked addr c.cache).cache in
      subst (Holds new) (stored_is addr len value c found refl)
      (holds_by (checked_first c formed) (still c formed) bound old new inside outside
      (holds_less c (checked addr c.cache).cache (less_checked addr c.cache) old old held (λ slot a lt is. refl)) found refl)
