-- The slots of a cache stay kept as one of them changes.
use Rattle.std.proofs.Common.{◌≡◌, ◌≢◌, ℕ, zero, suc, ◌+◌, ◌*◌, ◌-◌, ◌/◌, ◌%◌, ◌<◌, ◌≤◌, Bool, true, false, cond, nat_lt, inl, inr, List, [], ◌∷◌, length, map, slice_index_or, slice_set, refl, sym, ap, ◌∙◌, subst, arith}
use Rattle.std.proofs.lemmas.List.{get_or-map, get_or-set_same, get_or-set_other, length-map, length-set, map-set, set-get_or}
use Rattle.std.specs.Prelude.{replicate}
use Rattle.std.proofs.lemmas.Bool.{cases_eq}
use Rattle.flip_ledger.specs.Follows.{Gains, Follows, Keeps, number_of}
use Rattle.flip_ledger.specs.Ledger.{Ledger, standing_in}
use Rattle.lf_model.specs.Caches.Slot.{Slot, empty_slot, history_at}
use Rattle.lf_model.specs.Flips.{Moment, standing, byte_budget, is_struck_byte}
use Rattle.lf_model.specs.Flips.Moment.{Struck}
use Rattle.parity_slots.specs.Kept.{slot_of, bytes_of_slot, seen, most_slots, IsKept}
use Rattle.parity_slots.specs.SlotState.{SlotState, empty_state}
use Rattle.parity_slots.specs.SlotsState.{SlotsState, slot_in, line_in, state_in, changed, with_state}
use Rattle.parity_slots.specs.Units.{slot_units, unit_of, with_units, histories_of}
use Rattle.parity_slots.specs.declared.cache_slots.Slots.TheInside.{Inside}
use Rattle.parity_units.specs.Bytes.{answer_of}
use Rattle.parity_slots.proofs.UnitLemmas.{histories_at, histories_here, histories_set}

-- the slot that is read at a place
module _ (s : Inside) (i : ℕ) {now : SlotState} (read : now ≡ slice_index_or s.slots.items i now) (within : i < length s.slots.items) where
  pub slot_here : slot_in i (seen s) ≡ now.slot
  slot_here = get_or-map slot_of s.slots.items i now empty_slot within ∙ ap slot_of (sym read)

  pub line_here : line_in i (seen s) ≡ now.bytes
  line_here = get_or-map bytes_of_slot s.slots.items i now [] within ∙ ap bytes_of_slot (sym read)

  pub state_here : state_in i (seen s) ≡ now
  state_here =
      ap (λ (slot : Slot). record { slot = slot; bytes = line_in i (seen s) }) slot_here
      ∙ ap (λ (bytes : List ℕ). record { slot = now.slot; bytes = bytes }) line_here

  -- the histories of its units before and after
  before : histories_of (map slot_of s.slots.items) ≡ with_units (slot_units * i) now.slot (histories_of (map slot_of s.slots.items))
  before =
      histories_here (map slot_of s.slots.items) i
      ∙ ap (λ (slot : Slot). with_units (slot_units * i) slot (histories_of (map slot_of s.slots.items))) slot_here

  after : (new : SlotState) → histories_of (map slot_of (slice_set s.slots.items i new)) ≡ with_units (slot_units * i) new.slot (histories_of (map slot_of s.slots.items))
  after new =
      ap histories_of (map-set slot_of s.slots.items i new)
      ∙ histories_set (map slot_of s.slots.items) i new.slot (omega (arith, within, length-map s.slots.items slot_of))

  module _ (new : SlotState) (l : Ledger) (kept : IsKept s) where
    pub few : length (slice_set s.slots.items i new) ≤ most_slots
    few = omega (arith, kept.few, length-set s.slots.items i new)

    pub units : Keeps s.ledger l → length l.standing ≡ slot_units * length (slice_set s.slots.items i new)
    units keeps = keeps.units ∙ kept.units ∙ ap (λ (n : ℕ). slot_units * n) (sym (length-set s.slots.items i new))

    -- a ledger that follows the units of the slot follows all
    pub follows : ((h : ℕ → List Moment) → Follows byte_budget (with_units (slot_units * i) now.slot h) s.ledger → Follows byte_budget (with_units (slot_units * i) new.slot h) l)
        → Follows byte_budget (histories_of (map slot_of (slice_set s.slots.items i new))) l
    follows on =
        subst (λ (g : ℕ → List Moment). Follows byte_budget g l) (sym (after new))
        (on (histories_of (map slot_of s.slots.items)) (subst (λ (g : ℕ → List Moment). Follows byte_budget g s.ledger) before kept.follows))

  -- what users see then
  pub seen_with : (new : SlotState) (l : Ledger) → length l.flips ≡ length s.ledger.flips
      → ◌≡◌ {A = SlotsState} (record { slots = map slot_of (slice_set s.slots.items i new); lines = map bytes_of_slot (slice_set s.slots.items i new); flips = length l.flips }) (with_state new i (seen s))
  seen_with new l flips =
      ap (λ (slots : List Slot). record { slots = slots; lines = map bytes_of_slot (slice_set s.slots.items i new); flips = length l.flips }) (map-set slot_of s.slots.items i new)
      ∙ ap (λ (lines : List (List ℕ)). record { slots = slice_set (map slot_of s.slots.items) i new.slot; lines = lines; flips = length l.flips }) (map-set bytes_of_slot s.slots.items i new)
      ∙ ap (λ (n : ℕ). record { slots = slice_set (map slot_of s.slots.items) i new.slot; lines = slice_set (map bytes_of_slot s.slots.items) i new.bytes; flips = n }) flips

  -- where its line is the same
  pub seen_changed : (change : Slot → Slot) (new : SlotState) (l : Ledger) → length l.flips ≡ length s.ledger.flips → new ≡ record now { slot = change now.slot }
      → ◌≡◌ {A = SlotsState} (record { slots = map slot_of (slice_set s.slots.items i new); lines = map bytes_of_slot (slice_set s.slots.items i new); flips = length l.flips }) (changed change i (seen s))
  seen_changed change new l flips is =
      seen_with new l flips
      ∙ ap (λ (slot : Slot). record { slots = slice_set (map slot_of s.slots.items) i slot; lines = slice_set (map bytes_of_slot s.slots.items) i new.bytes; flips = length s.ledger.flips })
      (ap slot_of is ∙ ap change (sym slot_here))
      ∙ ap (λ (bytes : List ℕ). record { slots = slice_set (map slot_of s.slots.items) i (change (slot_in i (seen s))); lines = slice_set (map bytes_of_slot s.slots.items) i bytes; flips = length s.ledger.flips })
      (ap bytes_of_slot is ∙ sym line_here)
      ∙ ap (λ (lines : List (List ℕ)). record { slots = slice_set (map slot_of s.slots.items) i (change (slot_in i (seen s))); lines = lines; flips = length s.ledger.flips })
      (set-get_or (map bytes_of_slot s.slots.items) i [])

  -- ---- a flip of a unit

  pub answer_noted : IsKept s → (u : ℕ) → u < slot_units → answer_of (is_struck_byte (unit_of now.slot u)) ≡ answer_of (nat_lt 0 (length (standing_in s.ledger (slot_units * i + u))))
  answer_noted kept u lt =
      let unit : ℕ = slot_units * i + u in
      let fits : slot_units * i + u < length s.ledger.standing = omega (arith, kept.units, within, lt) in
      let is : histories_of (map slot_of s.slots.items) (slot_units * i + u) ≡ unit_of now.slot u = histories_at (map slot_of s.slots.items) i u lt ∙ ap (λ (slot : Slot). unit_of slot u) slot_here in
      ap (λ (h : List Moment). answer_of (is_struck_byte h)) (sym is)
      ∙ ap (λ (n : ℕ). answer_of (nat_lt 0 n))
      (sym (length-map (standing byte_budget (histories_of (map slot_of s.slots.items) (slot_units * i + u))) number_of)
      ∙ ap (length {A = ℕ}) (sym (kept.follows.standing_is (slot_units * i + u) fits)))

  pub gains_unit : (new : SlotState) (u number bit : ℕ) → u < slot_units → Gains u (Struck number bit) (unit_of now.slot) (unit_of new.slot)
      → Gains (slot_units * i + u) (Struck number bit) (histories_of (map slot_of s.slots.items)) (histories_of (map slot_of (slice_set s.slots.items i new)))
  gains_unit new u number bit lt gains = record {
    here =
        at_new u lt
        ∙ gains.here
        ∙ ap (λ (x : List Moment). Struck number bit ∷ x) (sym (at_old u lt));
    others = λ w other. elim (cases_eq (w / slot_units) i) [
      | inl same ↦
          let is : slot_units * i + w % slot_units ≡ w = omega (arith, same) in
          let apart : w % slot_units ≢ u = λ e. other (sym is ∙ ap (λ (r : ℕ). slot_units * i + r) e) in
          let small : w % slot_units < slot_units = omega arith in
          subst (λ (v : ℕ). histories_of (map slot_of (slice_set s.slots.items i new)) v ≡ histories_of (map slot_of s.slots.items) v) is
          (at_new (w % slot_units) small ∙ gains.others (w % slot_units) apart ∙ sym (at_old (w % slot_units) small))
      | inr elsewhere ↦
          ap (λ (slots : List Slot). histories_of slots w) (map-set slot_of s.slots.items i new)
          ∙ ap (λ (slot : Slot). unit_of slot (w % slot_units)) (get_or-set_other (map slot_of s.slots.items) i (w / slot_units) new.slot empty_slot elsewhere)
    ];
  }
    where
      at_old : (k : ℕ) → k < slot_units → histories_of (map slot_of s.slots.items) (slot_units * i + k) ≡ unit_of now.slot k
      at_old k few = histories_at (map slot_of s.slots.items) i k few ∙ ap (λ (slot : Slot). unit_of slot k) slot_here

      at_new : (k : ℕ) → k < slot_units → histories_of (map slot_of (slice_set s.slots.items i new)) (slot_units * i + k) ≡ unit_of new.slot k
      at_new k few =
          ap (λ (slots : List Slot). histories_of slots (slot_units * i + k)) (map-set slot_of s.slots.items i new)
          ∙ histories_at (slice_set (map slot_of s.slots.items) i new.slot) i k few
          ∙ ap (λ (slot : Slot). unit_of slot k) (get_or-set_same (map slot_of s.slots.items) i new.slot empty_slot (omega (arith, within, length-map s.slots.items slot_of)))

-- ---- slots at reset

pub slots_of_reset : (n : ℕ) → map slot_of (replicate n empty_state) ≡ replicate n empty_slot
slots_of_reset zero = refl
slots_of_reset (suc n) = ap (λ (slots : List Slot). empty_slot ∷ slots) (slots_of_reset n)

pub lines_of_reset : (n : ℕ) → map bytes_of_slot (replicate n empty_state) ≡ replicate n (replicate 32 0)
lines_of_reset zero = refl
lines_of_reset (suc n) = ap (λ (lines : List (List ℕ)). replicate 32 0 ∷ lines) (lines_of_reset n)

empty_at : (n i : ℕ) → slice_index_or (replicate n empty_slot) i empty_slot ≡ empty_slot
empty_at zero i = refl
empty_at (suc n) zero = refl
empty_at (suc n) (suc i) = empty_at n i

nothing_at : (n i : ℕ) → history_at i (replicate n []) ≡ []
nothing_at zero i = refl
nothing_at (suc n) zero = refl
nothing_at (suc n) (suc i) = nothing_at n i

pub empty_histories : (n unit : ℕ) → histories_of (replicate n empty_slot) unit ≡ []
empty_histories n unit =
    ap (λ (slot : Slot). unit_of slot (unit % slot_units)) (empty_at n (unit / slot_units)) ∙ either (nat_lt (unit % slot_units) 4)
  where
    either : (b : Bool) → cond b (history_at (unit % slot_units) (replicate 4 [])) (history_at (unit % slot_units - 4) (replicate 32 [])) ≡ []
    either true = nothing_at 4 (unit % slot_units)
    either false = nothing_at 32 (unit % slot_units - 4)
