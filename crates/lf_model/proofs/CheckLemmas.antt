-- The tag check of a set: each of its slots is dropped where a tag byte is struck, and every other slot stays.
use Rattle.std.proofs.Common.{◌≡◌, ◌∙◌, ◌==◌, ◌&&◌, ◌||◌, ◌≤◌, ◌<◌, nat_lt, ℕ, Bool, true, false, List, [], ◌∷◌, length, fold, refl, ap, sym, subst, arith, if◌then◌else◌, inl, inr}
use Rattle.std.proofs.lemmas.Bool.{cases_Bool, eqb-true, eq-eqb}
use Rattle.std.proofs.lemmas.List.{get_or-set_same, get_or-set_other, get_or_past, length-set}
use Rattle.std.specs.List.{list_any, slice_index_or}
use Rattle.lf_model.specs.Caches.Slot.{Slot, empty_slot}
use Rattle.lf_model.specs.Caches.Cache.{Cache, raised, slot_at, with_slot}
use Rattle.lf_model.specs.Caches.Look.{Checked}

-- ---- one slot changes

pub slot_same : (change : Slot → Slot) (i : ℕ) (c : Cache) → i < length c.slots → slot_at i (with_slot change i c) ≡ change (slot_at i c)
slot_same change i c within = get_or-set_same c.slots i (change (slot_at i c)) empty_slot within

pub slot_other : (change : Slot → Slot) (i j : ℕ) (c : Cache) → (j ≡ i → ⊥) → slot_at j (with_slot change i c) ≡ slot_at j c
slot_other change i j c differ = get_or-set_other c.slots i j (change (slot_at i c)) empty_slot differ

pub slot_past : (i : ℕ) (c : Cache) → length c.slots ≤ i → slot_at i c ≡ empty_slot
slot_past i c past = get_or_past c.slots i empty_slot past

pub is_among : List ℕ → ℕ → Bool
is_among ws i = list_any (λ j. j == i) ws

true_not_false : true ≡ false → ⊥
true_not_false e = absurd cc

-- ---- a check by any test

module _ (bad : Slot → Bool) (drop : Slot → Slot) (none : bad empty_slot ≡ false) (fixed : (s : Slot) → bad (drop s) ≡ false) where
  abbrev pub check_one : Checked → ℕ → Checked
  check_one k i = if bad (slot_at i k.cache) then record { dropped = true; cache = record (with_slot drop i k.cache) { tag_errors = raised k.cache.tag_errors } } else k

  -- what the check makes of a slot, which is of the set or not
  abbrev pub check_slot : Bool → Slot → Slot
  check_slot of_set s = if of_set && bad s then drop s else s

  pub unchanged : (of_set : Bool) (s : Slot) → bad s ≡ false → check_slot of_set s ≡ s
  unchanged true s good = rw good refl
  unchanged false s good = refl

  pub changed : (s : Slot) → bad s ≡ true → check_slot true s ≡ drop s
  changed s is_bad = rw is_bad refl

  twice : (a b : Bool) (s : Slot) → check_slot b (check_slot a s) ≡ check_slot (a || b) s
  twice true b s = elim (cases_Bool (bad s)) [
    | inl is_bad ↦ ap (check_slot b) (changed s is_bad) ∙ (unchanged b (drop s) (fixed s) ∙ sym (changed s is_bad))
    | inr good ↦ ap (check_slot b) (unchanged true s good) ∙ (unchanged b s good ∙ sym (unchanged true s good))
  ]
  twice false b s = refl

  took : (k : Checked) (w : ℕ) → bad (slot_at w k.cache) ≡ true → (check_one k w).cache.slots ≡ (with_slot drop w k.cache).slots
  took k w is_bad = rw is_bad refl

  kept : (k : Checked) (w : ℕ) → bad (slot_at w k.cache) ≡ false → check_one k w ≡ k
  kept k w good = rw good refl

  -- a struck slot is one of the cache
  within : (k : Checked) (w : ℕ) → bad (slot_at w k.cache) ≡ true → w < length k.cache.slots
  within k w is_bad = elim (cases_Bool (nat_lt w (length k.cache.slots))) [
    | inl below ↦ grind (arith, below)
    | inr past ↦ absurd (true_not_false (sym is_bad ∙ (ap bad (slot_past w k.cache (grind (arith, past))) ∙ none)))
  ]

  one_self : (w : ℕ) (k : Checked) → slot_at w (check_one k w).cache ≡ check_slot true (slot_at w k.cache)
  one_self w k = elim (cases_Bool (bad (slot_at w k.cache))) [
    | inl is_bad ↦ ap (λ slots. slice_index_or slots w empty_slot) (took k w is_bad)
        ∙ (slot_same drop w k.cache (within k w is_bad) ∙ sym (changed (slot_at w k.cache) is_bad))
    | inr good ↦ ap (λ (j : Checked). slot_at w j.cache) (kept k w good) ∙ sym (unchanged true (slot_at w k.cache) good)
  ]

  one_at : (i w : ℕ) (k : Checked) (same : Bool) → (w == i) ≡ same → slot_at i (check_one k w).cache ≡ check_slot same (slot_at i k.cache)
  one_at i w k true e = subst (λ j. slot_at j (check_one k w).cache ≡ check_slot true (slot_at j k.cache)) (eqb-true w i e) (one_self w k)
  one_at i w k false e = elim (cases_Bool (bad (slot_at w k.cache))) [
    | inl is_bad ↦ ap (λ slots. slice_index_or slots i empty_slot) (took k w is_bad) ∙ slot_other drop w i k.cache (λ same. true_not_false (sym (eq-eqb w i (sym same)) ∙ e))
    | inr good ↦ ap (λ (j : Checked). slot_at i j.cache) (kept k w good)
  ]

  one : (i w : ℕ) (k : Checked) → slot_at i (check_one k w).cache ≡ check_slot (w == i) (slot_at i k.cache)
  one i w k = one_at i w k (w == i) refl

  pub check_all : (ws : List ℕ) (i : ℕ) (k : Checked) → slot_at i (fold check_one k ws).cache ≡ check_slot (list_any (λ j. j == i) ws) (slot_at i k.cache)
  check_all [] i k = refl
  check_all (w ∷ ws) i k =
      check_all ws i (check_one k w)
      ∙ (ap (check_slot (list_any (λ j. j == i) ws)) (one i w k) ∙ twice (w == i) (list_any (λ j. j == i) ws) (slot_at i k.cache))

  pub check_shape : (ws : List ℕ) (k : Checked) → ((fold check_one k ws).cache.shape ≡ k.cache.shape) × (length (fold check_one k ws).cache.slots ≡ length k.cache.slots)
  check_shape [] k = (refl, refl)
  check_shape (w ∷ ws) k = let h = check_shape ws (check_one k w) in let g = one_shape k w in (h.0 ∙ g.0, h.1 ∙ g.1)
    where
      one_shape : (k : Checked) (w : ℕ) → ((check_one k w).cache.shape ≡ k.cache.shape) × (length (check_one k w).cache.slots ≡ length k.cache.slots)
      one_shape k w = elim (cases_Bool (bad (slot_at w k.cache))) [
        | inl is_bad ↦ (rw is_bad refl, rw is_bad (length-set k.cache.slots w _))
        | inr good ↦ (rw good refl, rw good refl)
      ]
