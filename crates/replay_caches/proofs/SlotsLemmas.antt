-- The slots of a cache as they are kept: their units, and what is seen of them as a unit changes or what is stored does.
use Rattle.std.proofs.Common.{◌≡◌, ℕ, ◌*◌, ◌<◌, ◌≤◌, true, nat_lt, List, [], length, slice_index_or, slice_set, sym, ap, ◌∙◌, inl, inr, arith}
use Rattle.std.proofs.lemmas.Bool.{cases_lt, false≢true}
use Rattle.std.proofs.lemmas.List.{set_past}
use Rattle.lf_model.specs.Caches.Slot.{Slot, history_at}
use Rattle.lf_model.specs.Flips.{Moment, standing, is_struck_byte}
use Rattle.replay_units.specs.Units.{befallen}
use Rattle.replay_caches.specs.Part.{slot_units, most_slots, size_of, unit_in, histories_in, with_histories, befallen_in}
use Rattle.replay_caches.specs.SlotsInside.{slot_of, slots_from, seen, AreSlots}
use Rattle.replay_caches.specs.SlotsState.{SlotsState, slot_in, changed}
use Rattle.replay_caches.specs.declared.part.Part.{Part}
use Rattle.replay_caches.specs.declared.slots.Slots.TheInside.{Inside}
use Rattle.replay_caches.specs.declared.stored.Stored.{Stored}
use Rattle.replay_caches.proofs.RunLemmas.{part_same, changed_same}
use Rattle.replay_caches.proofs.SlotLists.{slots_length, slots_at, slots_befallen, slots_stored, part_length, byte_history, unit_within, past_size}

module _ (s : Inside) (kept : AreSlots s) (i : ℕ) (lt : i < length (seen s).slots) where
  pub place : i < length s.stored.items
  place = omega (arith, lt, slots_length 0 s.units.histories s.stored.items)

  pub few : i < most_slots
  few = omega (arith, place, kept.few)

  abbrev slot : Slot
  slot = slot_in i (seen s)

  pub slot_is : (d : Stored) → slot_in i (seen s) ≡ slot_of (slot_units * i) s.units.histories (slice_index_or s.stored.items i d)
  slot_is d = slots_at 0 s.units.histories s.stored.items i d place ∙ ap (λ (n : ℕ). slot_of n s.units.histories (slice_index_or s.stored.items i d)) (omega arith)

  pub lengths : (part : Part) → length (histories_in part (slot_in i (seen s))) ≡ size_of part
  lengths part = part_length s.units.histories s.stored.items kept.units i place part

  -- ---- a byte of the slot, and its unit

  module _ (part : Part) (byte : ℕ) where
    pub past_part : size_of part ≤ byte → history_at byte (histories_in part (slot_in i (seen s))) ≡ []
    past_part le = past_size s.units.histories s.stored.items kept.units i place part byte le

    -- nothing happens to a byte that is none
    pub none_befallen : (f : List Moment → List Moment) → size_of part ≤ byte → changed (befallen_in part f byte) i (seen s) ≡ seen s
    none_befallen f le = changed_same i (seen s) (befallen_in part f byte)
        (ap (λ (hs : List (List Moment)). with_histories part hs (slot_in i (seen s)))
        (set_past (histories_in part (slot_in i (seen s))) byte (f (history_at byte (histories_in part (slot_in i (seen s))))) (omega (arith, le, lengths part)))
        ∙ part_same part (slot_in i (seen s)))

    pub byte_is : byte < size_of part → history_at byte (histories_in part (slot_in i (seen s))) ≡ history_at (unit_in part i byte) s.units.histories
    byte_is small = byte_history s.units.histories s.stored.items kept.units i place part byte small

    pub is_unit : byte < size_of part → unit_in part i byte < length s.units.histories
    is_unit small = unit_within s.units.histories s.stored.items kept.units i place part byte small

    pub seen_befallen : (f : List Moment → List Moment) → byte < size_of part
        → seen (record { stored = s.stored; units = befallen f (unit_in part i byte) s.units }) ≡ changed (befallen_in part f byte) i (seen s)
    seen_befallen f small =
        ap (λ (slots : List Slot). record { slots = slots; flips = s.units.flips })
        (slots_befallen part f byte small 0 (unit_in part i byte) s.units.histories s.stored.items i place (omega arith))

    -- whether it is struck
    pub struck_is : (unit : ℕ) → unit ≡ unit_in part i byte → byte < size_of part
        → nat_lt 0 (length (standing s.units.budget (history_at unit s.units.histories))) ≡ is_struck_byte (history_at byte (histories_in part (slot_in i (seen s))))
    struck_is unit is small =
        ap (λ (budget : ℕ). nat_lt 0 (length (standing budget (history_at unit s.units.histories)))) kept.budget
        ∙ ap (λ (u : ℕ). is_struck_byte (history_at u s.units.histories)) is
        ∙ ap is_struck_byte (sym (byte_is small))

    pub struck_small : is_struck_byte (history_at byte (histories_in part (slot_in i (seen s)))) ≡ true → byte < size_of part
    struck_small struck = elim (cases_lt byte (size_of part)) [
      | inl small ↦ small
      | inr past ↦ absurd (false≢true (sym (ap is_struck_byte (past_part past)) ∙ struck))
    ]

  -- ---- what is stored of the slot

  pub seen_stored : (change : Slot → Slot) (new : Stored) → slot_of (slot_units * i) s.units.histories new ≡ change (slot_in i (seen s))
      → ◌≡◌ {A = SlotsState} (record { slots = slots_from 0 s.units.histories (slice_set s.stored.items i new); flips = s.units.flips }) (changed change i (seen s))
  seen_stored change new is =
      ap (λ (slots : List Slot). record { slots = slots; flips = s.units.flips })
      (slots_stored 0 s.units.histories s.stored.items i new
      ∙ ap (slice_set (slots_from 0 s.units.histories s.stored.items) i) (ap (λ (n : ℕ). slot_of n s.units.histories new) (omega arith) ∙ is))
