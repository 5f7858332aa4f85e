-- The units of a cache and their numbers in its array: unit u of slot i has number 36 * i + u.
use Rattle.std.proofs.Common.{◌≡◌, ℕ, ◌+◌, ◌*◌, ◌-◌, ◌/◌, ◌%◌, ◌<◌, ◌≤◌, Bool, true, false, cond, length, ap, ◌∙◌, subst, inl, inr, mul_comm, arith}
use Rattle.std.proofs.lemmas.Bool.{cases_lt}
use Rattle.std.proofs.lemmas.Nat.{div_below, mod_below, mul-add-lt, div-add-mod'}
use Rattle.flip_ledger.specs.Follows.{has_struck}
use Rattle.lf_model.specs.Caches.Cache.{Cache, slot_at}
use Rattle.lf_model.specs.Caches.Slot.{Slot, history_at}
use Rattle.parity_cache.specs.CacheUnits.{IsUnit, slot_of_unit, history_of_unit, IsToCome}
use Rattle.parity_cache.specs.declared.unit.Unit.{Unit}
use Rattle.parity_slots.proofs.UnitLemmas.{histories_at, unit_tag, unit_line, unit_past}
use Rattle.parity_slots.specs.SlotsState.{IsToCome as IsToComeIn}
use Rattle.parity_slots.specs.Units.{slot_units, unit_of, histories_of}

-- ---- the number of a unit

abbrev pub unit_in_slot : Unit → ℕ
unit_in_slot at = cond at.tag at.byte (at.byte + 4)

unit_small : (at : Unit) (cache : Cache) → IsUnit at cache → unit_in_slot at < slot_units
unit_small at cache is = go at.tag is.byte_fits
  where
    go : (tag : Bool) → at.byte < cond tag 4 32 → cond tag at.byte (at.byte + 4) < slot_units
    go true lt = omega (arith, lt)
    go false lt = omega (arith, lt)

unit_history : (at : Unit) (cache : Cache) (slot : Slot) → IsUnit at cache → unit_of slot (unit_in_slot at) ≡ history_at at.byte (cond at.tag slot.tag_histories slot.line_histories)
unit_history at cache slot is = go at.tag is.byte_fits
  where
    go : (tag : Bool) → at.byte < cond tag 4 32 → unit_of slot (cond tag at.byte (at.byte + 4)) ≡ history_at at.byte (cond tag slot.tag_histories slot.line_histories)
    go true lt = unit_tag slot at.byte lt
    go false lt = unit_line slot at.byte

pub history_is : (at : Unit) (cache : Cache) → IsUnit at cache → histories_of cache.slots (slot_units * slot_of_unit at cache + unit_in_slot at) ≡ history_of_unit at cache
history_is at cache is = histories_at cache.slots (slot_of_unit at cache) (unit_in_slot at) (unit_small at cache is) ∙ unit_history at cache (slot_at (slot_of_unit at cache) cache) is

pub slot_within : (at : Unit) (cache : Cache) → IsUnit at cache → length cache.slots ≡ cache.shape.ways * cache.shape.sets → slot_of_unit at cache < length cache.slots
slot_within at cache is all = rw all (mul-add-lt at.set cache.shape.ways at.way cache.shape.sets is.set_fits is.way_fits)

pub number_within : (at : Unit) (cache : Cache) → IsUnit at cache → slot_of_unit at cache < length cache.slots → slot_units * slot_of_unit at cache + unit_in_slot at < slot_units * length cache.slots
number_within at cache is lt =
    let i : ℕ = slot_of_unit at cache in
    let small = unit_small at cache is in
    omega (arith, small, lt)

-- ---- the unit of a number

-- slot i is in a way of a set
module _ (cache : Cache) (i : ℕ) (within : i < length cache.slots) (some : 1 ≤ cache.shape.ways) (all : length cache.slots ≡ cache.shape.ways * cache.shape.sets) where
  place : i / cache.shape.ways * cache.shape.ways + i % cache.shape.ways ≡ i
  place = div-add-mod' i cache.shape.ways

  fits : (tag : Bool) (byte : ℕ) → byte < cond tag 4 32 → IsUnit (record { tag = tag; way = i % cache.shape.ways; set = i / cache.shape.ways; byte = byte }) cache
  fits tag byte lt = record {
    way_fits = mod_below i cache.shape.ways (omega (arith, some));
    set_fits = div_below i cache.shape.ways cache.shape.sets (omega (arith, some)) (omega (arith, within, all, mul_comm cache.shape.ways cache.shape.sets));
    byte_fits = lt;
  }

  pub none_in_slot : (number : ℕ) → IsToCome number cache → (u : ℕ) → u < slot_units → has_struck number (unit_of (slot_at i cache) u) ≡ false
  none_in_slot number none u small = elim (cases_lt u 4) [
    | inl few ↦
        ap (has_struck number) (unit_tag (slot_at i cache) u few)
        ∙ subst (λ (k : ℕ). has_struck number (history_at u (slot_at k cache).tag_histories) ≡ false) place
        (none (record { tag = true; way = i % cache.shape.ways; set = i / cache.shape.ways; byte = u }) (fits true u few))
    | inr many ↦
        ap (has_struck number) (unit_past (slot_at i cache) u many)
        ∙ subst (λ (k : ℕ). has_struck number (history_at (u - 4) (slot_at k cache).line_histories) ≡ false) place
        (none (record { tag = false; way = i % cache.shape.ways; set = i / cache.shape.ways; byte = u - 4 }) (fits false (u - 4) (omega (arith, many, small))))
  ]

pub to_come_in : (number : ℕ) (cache : Cache) → 1 ≤ cache.shape.ways → length cache.slots ≡ cache.shape.ways * cache.shape.sets → IsToCome number cache → IsToComeIn number cache.slots
to_come_in number cache some all none unit lt =
    none_in_slot cache (unit / slot_units) (omega (arith, lt)) some all number none (unit % slot_units) (omega arith)
