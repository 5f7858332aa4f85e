-- The slots of a cache by the histories of all units, as one unit or one slot changes.
use Rattle.std.proofs.Common.{◌≡◌, ℕ, zero, suc, ◌+◌, ◌-◌, ◌*◌, ◌/◌, ◌%◌, ◌<◌, ◌≤◌, true, false, List, [], ◌∷◌, length, take, drop, slice_index_or, slice_set, refl, sym, ap, ap₂, ◌∙◌, inl, inr, arith}
use Rattle.std.specs.Prelude.{replicate}
use Rattle.std.proofs.lemmas.Bool.{cases_lt, false≢true}
use Rattle.std.proofs.lemmas.List.{drop-set-add, drop-set-lt, take-set-le, get_or-take, get_or-drop, get_or_past, length-take-le, length-drop}
use Rattle.flip_ledger.specs.Follows.{has_struck}
use Rattle.lf_model.specs.Caches.Slot.{Slot, empty_tag, empty_slot, history_at, befalls}
use Rattle.lf_model.specs.Flips.{Moment}
use Rattle.replay_caches.specs.Part.{slot_units, size_of, first_in, unit_in, histories_in, befallen_in}
use Rattle.replay_caches.specs.SlotsInside.{histories_from, slot_of, slots_from}
use Rattle.replay_caches.specs.SlotsState.{IsToCome}
use Rattle.replay_caches.specs.declared.part.Part.{Part}
use Rattle.replay_caches.specs.declared.part.Part.TheVariants.{Tag, Line}
use Rattle.replay_caches.specs.declared.stored.Stored.{Stored}

-- ---- a run of histories

take_set : (n : ℕ) (xs : List (List Moment)) (i : ℕ) (x : List Moment) → i < n → take n (slice_set xs i x) ≡ slice_set (take n xs) i x
take_set zero xs i x lt = absurd (omega arith)
take_set (suc n) [] i x lt = refl
take_set (suc n) (y ∷ ys) zero x lt = refl
take_set (suc n) (y ∷ ys) (suc i) x lt = ap (λ (rest : List (List Moment)). y ∷ rest) (take_set n ys i x (omega arith))

module _ (hs : List (List Moment)) (first count : ℕ) where
  pub history_run : (byte : ℕ) → byte < count → history_at byte (histories_from first count hs) ≡ history_at (first + byte) hs
  history_run byte lt = get_or-take count (drop first hs) byte [] lt ∙ get_or-drop first hs byte []

  -- something happens to one of them, or to a unit before or after them
  run_inside : (f : List Moment → List Moment) (byte : ℕ) → byte < count → histories_from first count (befalls f (first + byte) hs) ≡ befalls f byte (histories_from first count hs)
  run_inside f byte lt =
      ap (take count) (drop-set-add first hs byte (f (history_at (first + byte) hs)))
      ∙ take_set count (drop first hs) byte (f (history_at (first + byte) hs)) lt
      ∙ ap (λ (h : List Moment). slice_set (histories_from first count hs) byte (f h)) (sym (history_run byte lt))

  run_before : (unit : ℕ) (x : List Moment) → unit < first → histories_from first count (slice_set hs unit x) ≡ histories_from first count hs
  run_before unit x lt = ap (take count) (drop-set-lt first hs unit x lt)

  run_after : (unit : ℕ) (x : List Moment) → first + count ≤ unit → histories_from first count (slice_set hs unit x) ≡ histories_from first count hs
  run_after unit x le =
      let is : first + (unit - first) ≡ unit = omega (arith, le) in
      ap (λ (u : ℕ). take count (drop first (slice_set hs u x))) (sym is)
      ∙ ap (take count) (drop-set-add first hs (unit - first) x)
      ∙ take-set-le count (drop first hs) (unit - first) x (omega (arith, le))

  pub run_length : first + count ≤ length hs → length (histories_from first count hs) ≡ count
  run_length fits = length-take-le count (drop first hs) (omega (arith, length-drop first hs, fits))

-- ---- one slot

same_slot : (stored : Stored) {a b c d : List (List Moment)} → a ≡ b → c ≡ d
    → ◌≡◌ {A = Slot} (record { tag = stored.tag; tag_histories = a; line_histories = c; used = stored.used }) (record { tag = stored.tag; tag_histories = b; line_histories = d; used = stored.used })
same_slot stored tags lines = ap₂ (λ (t l : List (List Moment)). record { tag = stored.tag; tag_histories = t; line_histories = l; used = stored.used }) tags lines

pub byte_small : (part : Part) (byte : ℕ) → byte < size_of part → first_in part + byte < slot_units
byte_small Tag byte lt = omega (arith, lt)
byte_small Line byte lt = omega (arith, lt)

module _ (first : ℕ) (stored : Stored) (hs : List (List Moment)) where
  slot_before : (unit : ℕ) (x : List Moment) → unit < first → slot_of first (slice_set hs unit x) stored ≡ slot_of first hs stored
  slot_before unit x lt = same_slot stored (run_before hs first 4 unit x lt) (run_before hs (first + 4) 32 unit x (omega (arith, lt)))

  slot_after : (unit : ℕ) (x : List Moment) → first + slot_units ≤ unit → slot_of first (slice_set hs unit x) stored ≡ slot_of first hs stored
  slot_after unit x le = same_slot stored (run_after hs first 4 unit x (omega (arith, le))) (run_after hs (first + 4) 32 unit x (omega (arith, le)))

  slot_here : (part : Part) (f : List Moment → List Moment) (byte unit : ℕ) → unit ≡ first + first_in part + byte → byte < size_of part
      → slot_of first (befalls f unit hs) stored ≡ befallen_in part f byte (slot_of first hs stored)
  slot_here Tag f byte unit is lt =
      let at : unit ≡ first + byte = omega (arith, is) in
      same_slot stored
      (ap (λ (u : ℕ). histories_from first 4 (befalls f u hs)) at ∙ run_inside hs first 4 f byte lt)
      (run_before hs (first + 4) 32 unit (f (history_at unit hs)) (omega (arith, at, lt)))
  slot_here Line f byte unit is lt =
      same_slot stored
      (run_after hs first 4 unit (f (history_at unit hs)) (omega (arith, is)))
      (ap (λ (u : ℕ). histories_from (first + 4) 32 (befalls f u hs)) is ∙ run_inside hs (first + 4) 32 f byte lt)

-- ---- the slots

pub slots_length : (first : ℕ) (hs : List (List Moment)) (stored : List Stored) → length (slots_from first hs stored) ≡ length stored
slots_length first hs [] = refl
slots_length first hs (s ∷ stored) = ap suc (slots_length (first + slot_units) hs stored)

pub slots_at : (first : ℕ) (hs : List (List Moment)) (stored : List Stored) (i : ℕ) (d : Stored) → i < length stored
    → slice_index_or (slots_from first hs stored) i empty_slot ≡ slot_of (first + slot_units * i) hs (slice_index_or stored i d)
slots_at first hs [] i d lt = absurd (omega arith)
slots_at first hs (s ∷ stored) zero d lt = ap (λ (n : ℕ). slot_of n hs s) (omega arith)
slots_at first hs (s ∷ stored) (suc i) d lt =
    slots_at (first + slot_units) hs stored i d (omega arith) ∙ ap (λ (n : ℕ). slot_of n hs (slice_index_or stored i d)) (omega arith)

slots_before : (first unit : ℕ) (x : List Moment) (hs : List (List Moment)) (stored : List Stored) → unit < first → slots_from first (slice_set hs unit x) stored ≡ slots_from first hs stored
slots_before first unit x hs [] lt = refl
slots_before first unit x hs (s ∷ stored) lt =
    ap₂ (λ (slot : Slot) (rest : List Slot). slot ∷ rest) (slot_before first s hs unit x lt) (slots_before (first + slot_units) unit x hs stored (omega (arith, lt)))

-- something happens to a byte of a slot
pub slots_befallen : (part : Part) (f : List Moment → List Moment) (byte : ℕ) → byte < size_of part
    → (first unit : ℕ) (hs : List (List Moment)) (stored : List Stored) (i : ℕ) → i < length stored → unit ≡ first + slot_units * i + first_in part + byte
    → slots_from first (befalls f unit hs) stored ≡ slice_set (slots_from first hs stored) i (befallen_in part f byte (slice_index_or (slots_from first hs stored) i empty_slot))
slots_befallen part f byte small first unit hs [] i lt is = absurd (omega arith)
slots_befallen part f byte small first unit hs (s ∷ stored) zero lt is =
    let few = byte_small part byte small in
    ap₂ (λ (slot : Slot) (rest : List Slot). slot ∷ rest)
    (slot_here first s hs part f byte unit (omega (arith, is)) small)
    (slots_before (first + slot_units) unit (f (history_at unit hs)) hs stored (omega (arith, is, few)))
slots_befallen part f byte small first unit hs (s ∷ stored) (suc i) lt is =
    ap₂ (λ (slot : Slot) (rest : List Slot). slot ∷ rest)
    (slot_after first s hs unit (f (history_at unit hs)) (omega (arith, is)))
    (slots_befallen part f byte small (first + slot_units) unit hs stored i (omega arith) (omega (arith, is)))

-- what is stored of a slot changes
pub slots_stored : (first : ℕ) (hs : List (List Moment)) (stored : List Stored) (i : ℕ) (new : Stored)
    → slots_from first hs (slice_set stored i new) ≡ slice_set (slots_from first hs stored) i (slot_of (first + slot_units * i) hs new)
slots_stored first hs [] i new = refl
slots_stored first hs (s ∷ stored) zero new = ap (λ (n : ℕ). slot_of n hs new ∷ slots_from (first + slot_units) hs stored) (omega arith)
slots_stored first hs (s ∷ stored) (suc i) new =
    ap (λ (rest : List Slot). slot_of first hs s ∷ rest)
    (slots_stored (first + slot_units) hs stored i new
    ∙ ap (λ (n : ℕ). slice_set (slots_from (first + slot_units) hs stored) i (slot_of n hs new)) (omega arith))

-- ---- at reset

run_fresh : (n first count : ℕ) → first + count ≤ n → histories_from first count (replicate n []) ≡ replicate count []
run_fresh n zero zero le = refl
run_fresh zero zero (suc count) le = absurd (omega (arith, le))
run_fresh (suc n) zero (suc count) le = ap (λ (rest : List (List Moment)). [] ∷ rest) (run_fresh n zero count (omega (arith, le)))
run_fresh zero (suc first) count le = absurd (omega (arith, le))
run_fresh (suc n) (suc first) count le = run_fresh n first count (omega (arith, le))

pub slots_fresh : (n first count : ℕ) → first + slot_units * count ≤ n
    → slots_from first (replicate n []) (replicate count (record { tag = empty_tag; used = 0 })) ≡ replicate count empty_slot
slots_fresh n first zero le = refl
slots_fresh n first (suc count) le =
    ap₂ (λ (slot : Slot) (rest : List Slot). slot ∷ rest)
    (same_slot (record { tag = empty_tag; used = 0 }) (run_fresh n first 4 (omega (arith, le))) (run_fresh n (first + 4) 32 (omega (arith, le))))
    (slots_fresh n (first + slot_units) count (omega (arith, le)))

-- ---- the history of a byte

module _ (hs : List (List Moment)) (stored : List Stored) (all : length hs ≡ slot_units * length stored) where
  abbrev here : ℕ → Slot
  here i = slice_index_or (slots_from 0 hs stored) i empty_slot

  module _ (i : ℕ) (within : i < length stored) where
    slot_is : here i ≡ slot_of (slot_units * i) hs (slice_index_or stored i (record { tag = empty_tag; used = 0 }))
    slot_is =
        slots_at 0 hs stored i (record { tag = empty_tag; used = 0 }) within
        ∙ ap (λ (n : ℕ). slot_of n hs (slice_index_or stored i (record { tag = empty_tag; used = 0 }))) (omega arith)

    pub part_length : (part : Part) → length (histories_in part (here i)) ≡ size_of part
    part_length Tag = ap (λ (s : Slot). length s.tag_histories) slot_is ∙ run_length hs (slot_units * i) 4 (omega (arith, within, all))
    part_length Line = ap (λ (s : Slot). length s.line_histories) slot_is ∙ run_length hs (slot_units * i + 4) 32 (omega (arith, within, all))

    pub byte_history : (part : Part) (byte : ℕ) → byte < size_of part → history_at byte (histories_in part (here i)) ≡ history_at (unit_in part i byte) hs
    byte_history Tag byte lt =
        ap (λ (s : Slot). history_at byte s.tag_histories) slot_is
        ∙ history_run hs (slot_units * i) 4 byte lt
        ∙ ap (λ (u : ℕ). history_at u hs) (omega arith)
    byte_history Line byte lt = ap (λ (s : Slot). history_at byte s.line_histories) slot_is ∙ history_run hs (slot_units * i + 4) 32 byte lt

    pub unit_within : (part : Part) (byte : ℕ) → byte < size_of part → unit_in part i byte < length hs
    unit_within part byte lt = let few = byte_small part byte lt in omega (arith, within, all, few)

    pub past_size : (part : Part) (byte : ℕ) → size_of part ≤ byte → history_at byte (histories_in part (here i)) ≡ []
    past_size part byte le = get_or_past (histories_in part (here i)) byte [] (omega (arith, le, part_length part))

  -- a byte that a flip struck is one of a slot
  pub record IsByte (i byte : ℕ) (part : Part) : Type 0 where
    pub slot : i < length stored
    pub place : byte < size_of part

  none_in : (n byte : ℕ) → history_at byte (replicate n []) ≡ []
  none_in zero byte = refl
  none_in (suc n) zero = refl
  none_in (suc n) (suc byte) = none_in n byte

  none_empty : (part : Part) (byte : ℕ) → history_at byte (histories_in part empty_slot) ≡ []
  none_empty Tag byte = none_in 4 byte
  none_empty Line byte = none_in 32 byte

  pub struck_byte : (number i byte : ℕ) (part : Part) → has_struck number (history_at byte (histories_in part (here i))) ≡ true → IsByte i byte part
  struck_byte number i byte part struck = elim (cases_lt i (length stored)) [
    | inl within ↦ elim (cases_lt byte (size_of part)) [
      | inl small ↦ record { slot = within; place = small }
      | inr past ↦ absurd (false≢true (sym (ap (has_struck number) (past_size i within part byte past)) ∙ struck))
    ]
    | inr past ↦
        let none = ap (λ (s : Slot). history_at byte (histories_in part s)) (get_or_past (slots_from 0 hs stored) i empty_slot (omega (arith, past, slots_length 0 hs stored))) ∙ none_empty part byte in
        absurd (false≢true (sym (ap (has_struck number) none) ∙ struck))
  ]

  pub to_come : (number : ℕ) → IsToCome number (slots_from 0 hs stored) → (unit : ℕ) → unit < length hs → has_struck number (history_at unit hs) ≡ false
  to_come number none unit lt =
      let i : ℕ = unit / slot_units in
      let within : unit / slot_units < length stored = omega (arith, lt, all) in
      elim (cases_lt (unit % slot_units) 4) [
        | inl tag ↦
            let is : unit_in Tag (unit / slot_units) (unit % slot_units) ≡ unit = omega arith in
            ap (λ (u : ℕ). has_struck number (history_at u hs)) (sym is)
            ∙ ap (has_struck number) (sym (byte_history (unit / slot_units) within Tag (unit % slot_units) tag))
            ∙ none.tags i (unit % slot_units)
        | inr line ↦
            let is : unit_in Line (unit / slot_units) (unit % slot_units - 4) ≡ unit = omega (arith, line) in
            let few : unit % slot_units - 4 < 32 = omega (arith, line) in
            ap (λ (u : ℕ). has_struck number (history_at u hs)) (sym is)
            ∙ ap (has_struck number) (sym (byte_history (unit / slot_units) within Line (unit % slot_units - 4) few))
            ∙ none.lines i (unit % slot_units - 4)
      ]
