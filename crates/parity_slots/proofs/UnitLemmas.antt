-- The histories of an array's units, as one slot changes.
use Rattle.std.proofs.Common.{◌≡◌, ◌≢◌, ℕ, zero, suc, ◌+◌, ◌*◌, ◌-◌, ◌/◌, ◌%◌, ◌<◌, ◌≤◌, Bool, cond, nat_lt, List, [], ◌∷◌, length, map, slice_index_or, slice_set, refl, sym, ap, ap₂, ◌∙◌, subst, inl, inr, arith}
use Rattle.std.specs.List.{range_with_len}
use Rattle.std.proofs.Math.Path.{fun_ext}
use Rattle.std.proofs.lemmas.Bool.{cases_eq, cases_lt, lt-ltb, le-ltb}
use Rattle.std.proofs.lemmas.List.{get_or-map, get_or-set_same, get_or-set_other, length-set}
use Rattle.lf_model.specs.Caches.Slot.{Slot, empty_slot, history_at, befalls, befalls_each}
use Rattle.flip_ledger.specs.Follows.{Gains}
use Rattle.lf_model.specs.Flips.{Moment}
use Rattle.lf_model.specs.Flips.Moment.{Struck}
use Rattle.parity_slots.specs.SlotState.{tag_flipped, line_flipped}
use Rattle.parity_slots.specs.Units.{slot_units, unit_of, with_units, histories_of}
use Rattle.parity_units.specs.Events.{over}
use Rattle.parity_units.proofs.EventLemmas.{over_below, over_within, over_above}

-- ---- the units of one slot

pub unit_tag : (slot : Slot) (k : ℕ) → k < 4 → unit_of slot k ≡ history_at k slot.tag_histories
unit_tag slot k lt = ap (λ (b : Bool). cond b (history_at k slot.tag_histories) (history_at (k - 4) slot.line_histories)) (lt-ltb k 4 lt)

pub unit_line : (slot : Slot) (k : ℕ) → unit_of slot (k + 4) ≡ history_at k slot.line_histories
unit_line slot k =
    ap (λ (b : Bool). cond b (history_at (k + 4) slot.tag_histories) (history_at (k + 4 - 4) slot.line_histories)) (le-ltb (k + 4) 4 (omega arith))
    ∙ ap (λ (j : ℕ). history_at j slot.line_histories) (omega arith)

pub unit_past : (slot : Slot) (u : ℕ) → 4 ≤ u → unit_of slot u ≡ history_at (u - 4) slot.line_histories
unit_past slot u le = ap (λ (b : Bool). cond b (history_at u slot.tag_histories) (history_at (u - 4) slot.line_histories)) (le-ltb u 4 le)

module _ (first : ℕ) (slot : Slot) (h : ℕ → List Moment) where
  pub with_below : (u : ℕ) → u < first → with_units first slot h u ≡ h u
  with_below u lt = ap (λ (b : Bool). cond b (h u) (cond (nat_lt u (first + slot_units)) (unit_of slot (u - first)) (h u))) (lt-ltb u first lt)

  pub with_above : (u : ℕ) → first + slot_units ≤ u → with_units first slot h u ≡ h u
  with_above u le =
      ap (λ (b : Bool). cond b (h u) (cond (nat_lt u (first + slot_units)) (unit_of slot (u - first)) (h u))) (le-ltb u first (omega arith))
      ∙ ap (λ (b : Bool). cond b (unit_of slot (u - first)) (h u)) (le-ltb u (first + slot_units) le)

  pub with_within : (k : ℕ) → k < slot_units → with_units first slot h (first + k) ≡ unit_of slot k
  with_within k lt =
      ap (λ (b : Bool). cond b (h (first + k)) (cond (nat_lt (first + k) (first + slot_units)) (unit_of slot (first + k - first)) (h (first + k)))) (le-ltb (first + k) first (omega arith))
      ∙ ap (λ (b : Bool). cond b (unit_of slot (first + k - first)) (h (first + k))) (lt-ltb (first + k) (first + slot_units) (omega arith))
      ∙ ap (unit_of slot) (omega arith)

  pub with_tag : (k : ℕ) → k < 4 → with_units first slot h (first + k) ≡ history_at k slot.tag_histories
  with_tag k lt = with_within k (omega arith) ∙ unit_tag slot k lt

  pub with_line : (k : ℕ) → k < 32 → with_units first slot h (first + (k + 4)) ≡ history_at k slot.line_histories
  with_line k lt = with_within (k + 4) (omega arith) ∙ unit_line slot k

  -- histories are these where they are so at each unit
  pub same_units : (g : ℕ → List Moment) → ((u : ℕ) → u < first → g u ≡ h u) → ((k : ℕ) → k < 4 → g (first + k) ≡ history_at k slot.tag_histories)
      → ((k : ℕ) → k < 32 → g (first + (k + 4)) ≡ history_at k slot.line_histories) → ((u : ℕ) → first + slot_units ≤ u → g u ≡ h u) → g ≡ with_units first slot h
  same_units g below tag line above = fun_ext (λ u. elim (cases_lt u first) [
    | inl lt ↦ below u lt ∙ sym (with_below u lt)
    | inr le ↦ elim (cases_lt u (first + slot_units)) [
      | inr past ↦ above u past ∙ sym (with_above u past)
      | inl within ↦ elim (cases_lt (u - first) 4) [
        | inl few ↦
            let is : first + (u - first) ≡ u = omega (arith, le) in
            subst (λ (v : ℕ). g v ≡ with_units first slot h v) is (tag (u - first) few ∙ sym (with_tag (u - first) few))
        | inr more ↦
            let is : first + (u - first - 4 + 4) ≡ u = omega (arith, le, more) in
            let lt : u - first - 4 < 32 = omega (arith, le, more, within) in
            subst (λ (v : ℕ). g v ≡ with_units first slot h v) is (line (u - first - 4) lt ∙ sym (with_line (u - first - 4) lt))
      ]
    ]
  ])

-- ---- an event of its tag, and of bytes of its line

pub over_tag : (first : ℕ) (slot : Slot) (h : ℕ → List Moment) (f : List Moment → List Moment) → length slot.tag_histories ≡ 4
    → over first 4 f (with_units first slot h) ≡ with_units first (record slot { tag_histories = map f slot.tag_histories }) h
over_tag first slot h f all =
    same_units first (record slot { tag_histories = map f slot.tag_histories }) h (over first 4 f (with_units first slot h))
    (λ u lt. over_below first 4 f (with_units first slot h) u lt ∙ with_below first slot h u lt)
    (λ k lt.
    over_within first 4 f (with_units first slot h) (first + k) (omega arith) (omega arith)
    ∙ ap f (with_tag first slot h k lt)
    ∙ sym (get_or-map f slot.tag_histories k [] [] (omega (arith, lt, all))))
    (λ k lt. over_above first 4 f (with_units first slot h) (first + (k + 4)) (omega arith) ∙ with_line first slot h k lt)
    (λ u le. over_above first 4 f (with_units first slot h) u (omega (arith, le)) ∙ with_above first slot h u le)

pub over_whole_line : (first : ℕ) (slot : Slot) (h : ℕ → List Moment) (f : List Moment → List Moment) → length slot.line_histories ≡ 32
    → over (first + 4) 32 f (with_units first slot h) ≡ with_units first (record slot { line_histories = map f slot.line_histories }) h
over_whole_line first slot h f all =
    same_units first (record slot { line_histories = map f slot.line_histories }) h (over (first + 4) 32 f (with_units first slot h))
    (λ u lt. over_below (first + 4) 32 f (with_units first slot h) u (omega (arith, lt)) ∙ with_below first slot h u lt)
    (λ k lt. over_below (first + 4) 32 f (with_units first slot h) (first + k) (omega (arith, lt)) ∙ with_tag first slot h k lt)
    (λ k lt.
    over_within (first + 4) 32 f (with_units first slot h) (first + (k + 4)) (omega arith) (omega (arith, lt))
    ∙ ap f (with_line first slot h k lt)
    ∙ sym (get_or-map f slot.line_histories k [] [] (omega (arith, lt, all))))
    (λ u le. over_above (first + 4) 32 f (with_units first slot h) u (omega (arith, le)) ∙ with_above first slot h u le)

-- a run of places in a list of histories
length_each : (f : List Moment → List Moment) (places : List ℕ) (hs : List (List Moment)) → length (befalls_each f places hs) ≡ length hs
length_each f [] hs = refl
length_each f (place ∷ places) hs = length_each f places (befalls f place hs) ∙ length-set hs place (f (history_at place hs))

each_below : (f : List Moment → List Moment) (place count : ℕ) (hs : List (List Moment)) (k : ℕ) → k < place → history_at k (befalls_each f (range_with_len place count) hs) ≡ history_at k hs
each_below f place zero hs k lt = refl
each_below f place (suc count) hs k lt =
    each_below f (place + 1) count (befalls f place hs) k (omega arith)
    ∙ get_or-set_other hs place k (f (history_at place hs)) [] (omega arith)

each_above : (f : List Moment → List Moment) (place count : ℕ) (hs : List (List Moment)) (k : ℕ) → place + count ≤ k → history_at k (befalls_each f (range_with_len place count) hs) ≡ history_at k hs
each_above f place zero hs k le = refl
each_above f place (suc count) hs k le =
    each_above f (place + 1) count (befalls f place hs) k (omega arith)
    ∙ get_or-set_other hs place k (f (history_at place hs)) [] (omega arith)

each_within : (f : List Moment → List Moment) (place count : ℕ) (hs : List (List Moment)) (k : ℕ) → place ≤ k → k < place + count → k < length hs
    → history_at k (befalls_each f (range_with_len place count) hs) ≡ f (history_at k hs)
each_within f place zero hs k le lt within = absurd (omega arith)
each_within f place (suc count) hs k le lt within = elim (cases_eq k place) [
  | inl here ↦
      each_below f (place + 1) count (befalls f place hs) k (omega (arith, here))
      ∙ subst (λ (j : ℕ). history_at j (befalls f place hs) ≡ f (history_at j hs)) (sym here) (get_or-set_same hs place (f (history_at place hs)) [] (rw (← here) within))
  | inr other ↦
      each_within f (place + 1) count (befalls f place hs) k (omega (arith, le, other)) (omega (arith, lt)) (omega (arith, within, length-set hs place (f (history_at place hs))))
      ∙ ap f (get_or-set_other hs place k (f (history_at place hs)) [] other)
]

pub over_line : (first place count : ℕ) (slot : Slot) (h : ℕ → List Moment) (f : List Moment → List Moment) → length slot.line_histories ≡ 32 → place + count ≤ 32
    → over (first + 4 + place) count f (with_units first slot h) ≡ with_units first (record slot { line_histories = befalls_each f (range_with_len place count) slot.line_histories }) h
over_line first place count slot h f all fits =
    same_units first (record slot { line_histories = befalls_each f (range_with_len place count) slot.line_histories }) h (over (first + 4 + place) count f (with_units first slot h))
    (λ u lt. over_below (first + 4 + place) count f (with_units first slot h) u (omega (arith, lt)) ∙ with_below first slot h u lt)
    (λ k lt. over_below (first + 4 + place) count f (with_units first slot h) (first + k) (omega (arith, lt)) ∙ with_tag first slot h k lt)
    (λ k lt. at k lt)
    (λ u le. over_above (first + 4 + place) count f (with_units first slot h) u (omega (arith, le, fits)) ∙ with_above first slot h u le)
  where
    at : (k : ℕ) → k < 32 → over (first + 4 + place) count f (with_units first slot h) (first + (k + 4)) ≡ history_at k (befalls_each f (range_with_len place count) slot.line_histories)
    at k lt = elim (cases_lt k place) [
      | inl below ↦
          over_below (first + 4 + place) count f (with_units first slot h) (first + (k + 4)) (omega (arith, below))
          ∙ with_line first slot h k lt
          ∙ sym (each_below f place count slot.line_histories k below)
      | inr from ↦ elim (cases_lt k (place + count)) [
        | inl within ↦
            over_within (first + 4 + place) count f (with_units first slot h) (first + (k + 4)) (omega (arith, from)) (omega (arith, within))
            ∙ ap f (with_line first slot h k lt)
            ∙ sym (each_within f place count slot.line_histories k from within (omega (arith, lt, all)))
        | inr past ↦
            over_above (first + 4 + place) count f (with_units first slot h) (first + (k + 4)) (omega (arith, past))
            ∙ with_line first slot h k lt
            ∙ sym (each_above f place count slot.line_histories k past)
      ]
    ]

-- ---- a flip of one unit

pub gains_tag : (slot : Slot) (place number bit : ℕ) → place < 4 → length slot.tag_histories ≡ 4 → Gains place (Struck number bit) (unit_of slot) (unit_of (tag_flipped place number bit slot))
gains_tag slot place number bit lt all = record {
  here =
      unit_tag (tag_flipped place number bit slot) place lt
      ∙ get_or-set_same slot.tag_histories place (Struck number bit ∷ history_at place slot.tag_histories) [] (omega (arith, lt, all))
      ∙ ap (λ (x : List Moment). Struck number bit ∷ x) (sym (unit_tag slot place lt));
  others = λ u other. elim (cases_lt u 4) [
    | inl few ↦
        unit_tag (tag_flipped place number bit slot) u few
        ∙ get_or-set_other slot.tag_histories place u (Struck number bit ∷ history_at place slot.tag_histories) [] other
        ∙ sym (unit_tag slot u few)
    | inr many ↦ unit_past (tag_flipped place number bit slot) u many ∙ sym (unit_past slot u many)
  ];
}

pub gains_line : (slot : Slot) (place number bit : ℕ) → place < 32 → length slot.line_histories ≡ 32 → Gains (place + 4) (Struck number bit) (unit_of slot) (unit_of (line_flipped place number bit slot))
gains_line slot place number bit lt all = record {
  here =
      unit_line (line_flipped place number bit slot) place
      ∙ get_or-set_same slot.line_histories place (Struck number bit ∷ history_at place slot.line_histories) [] (omega (arith, lt, all))
      ∙ ap (λ (x : List Moment). Struck number bit ∷ x) (sym (unit_line slot place));
  others = λ u other. elim (cases_lt u 4) [
    | inl few ↦ unit_tag (line_flipped place number bit slot) u few ∙ sym (unit_tag slot u few)
    | inr many ↦
        let apart : u - 4 ≢ place = omega (arith, many, other) in
        unit_past (line_flipped place number bit slot) u many
        ∙ get_or-set_other slot.line_histories place (u - 4) (Struck number bit ∷ history_at place slot.line_histories) [] apart
        ∙ sym (unit_past slot u many)
  ];
}

-- ---- the slots of an array

quotient : (i k : ℕ) → k < slot_units → (slot_units * i + k) / slot_units ≡ i
quotient i k lt = omega arith

rest : (i k : ℕ) → k < slot_units → (slot_units * i + k) % slot_units ≡ k
rest i k lt = omega arith

pub histories_at : (slots : List Slot) (i k : ℕ) → k < slot_units → histories_of slots (slot_units * i + k) ≡ unit_of (slice_index_or slots i empty_slot) k
histories_at slots i k lt = ap₂ (λ (j r : ℕ). unit_of (slice_index_or slots j empty_slot) r) (quotient i k lt) (rest i k lt)

pub histories_here : (slots : List Slot) (i : ℕ) → histories_of slots ≡ with_units (slot_units * i) (slice_index_or slots i empty_slot) (histories_of slots)
histories_here slots i =
    same_units (slot_units * i) (slice_index_or slots i empty_slot) (histories_of slots) (histories_of slots)
    (λ u lt. refl)
    (λ k lt. histories_at slots i k (omega arith) ∙ unit_tag (slice_index_or slots i empty_slot) k lt)
    (λ k lt. histories_at slots i (k + 4) (omega arith) ∙ unit_line (slice_index_or slots i empty_slot) k)
    (λ u le. refl)

pub histories_set : (slots : List Slot) (i : ℕ) (slot : Slot) → i < length slots → histories_of (slice_set slots i slot) ≡ with_units (slot_units * i) slot (histories_of slots)
histories_set slots i slot within =
    same_units (slot_units * i) slot (histories_of slots) (histories_of (slice_set slots i slot))
    (λ u lt. there u (omega (arith, lt)))
    (λ k lt. here k (omega arith) ∙ unit_tag slot k lt)
    (λ k lt. here (k + 4) (omega arith) ∙ unit_line slot k)
    (λ u le. there u (omega (arith, le)))
  where
    here : (k : ℕ) → k < slot_units → histories_of (slice_set slots i slot) (slot_units * i + k) ≡ unit_of slot k
    here k lt = histories_at (slice_set slots i slot) i k lt ∙ ap (λ (s : Slot). unit_of s k) (get_or-set_same slots i slot empty_slot within)

    there : (u : ℕ) → u / slot_units ≢ i → histories_of (slice_set slots i slot) u ≡ histories_of slots u
    there u other = ap (λ (s : Slot). unit_of s (u % slot_units)) (get_or-set_other slots i (u / slot_units) slot empty_slot other)
