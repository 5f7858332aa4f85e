-- Where the mark of a set is clear, no tag byte of it is struck.
use Rattle.std.proofs.Common.{◌≡◌, ◌≢◌, ℕ, zero, suc, ◌+◌, ◌*◌, ◌/◌, ◌%◌, ◌<◌, ◌≤◌, Bool, true, false, not, List, [], ◌∷◌, length, slice_index_or, slice_set, refl, sym, ap, ◌∙◌, subst, inl, inr}
use Rattle.std.proofs.lemmas.Bool.{cases_eq}
use Rattle.std.proofs.lemmas.List.{get_or-set_same, get_or-set_other, get_or_default}
use Rattle.std.proofs.lemmas.Nat.{div-add-mod', div-mul-add, mod_below}
use Rattle.lf_model.specs.Caches.Slot.{Slot, empty_slot, has_struck_tag}
use Rattle.parity_cache.specs.Kept.{AreMarked}
use Rattle.parity_cache.proofs.SetLemmas.{written_tag, dropped_below}

module _ (marks : List Bool) (ways : ℕ) where
  -- one slot becomes another, in which no tag byte is struck where none was
  pub marked_with : (slots : List Slot) (i : ℕ) (new : Slot) → i < length slots → (has_struck_tag (slice_index_or slots i empty_slot) ≡ false → has_struck_tag new ≡ false)
      → AreMarked marks ways slots → AreMarked marks ways (slice_set slots i new)
  marked_with slots i new within keeps marked j clear = elim (cases_eq j i) [
    | inl here ↦
        subst (λ (k : ℕ). has_struck_tag (slice_index_or (slice_set slots i new) k empty_slot) ≡ false) (sym here)
        (ap has_struck_tag (get_or-set_same slots i new empty_slot within) ∙ keeps (subst (λ (k : ℕ). has_struck_tag (slice_index_or slots k empty_slot) ≡ false) here (marked j clear)))
    | inr other ↦ ap has_struck_tag (get_or-set_other slots i j new empty_slot other) ∙ marked j clear
  ]

  -- some slots are dropped
  pub marked_below : (n : ℕ) (slots : List Slot) → AreMarked marks ways slots → AreMarked marks ways (dropped_below n slots)
  marked_below n slots marked i clear = below n slots i (marked i clear)
    where
      below : (n : ℕ) (slots : List Slot) (i : ℕ) → has_struck_tag (slice_index_or slots i empty_slot) ≡ false → has_struck_tag (slice_index_or (dropped_below n slots) i empty_slot) ≡ false
      below zero slots i good = good
      below (suc n) [] i good = good
      below (suc n) (slot ∷ slots) zero good = written_tag slot.tag_histories
      below (suc n) (slot ∷ slots) (suc i) good = below n slots i good

  -- a flip comes to a slot, and its set is marked
  pub marked_flip : (slots : List Slot) (set way : ℕ) (new : Slot) → way < ways → set < length marks → AreMarked marks ways slots → AreMarked (slice_set marks set true) ways (slice_set slots (set * ways + way) new)
  marked_flip slots set way new lt within marked j clear = elim (cases_eq (j / ways) set) [
    | inl here ↦ absurd (not_both (sym (get_or-set_same marks set true true within) ∙ subst (λ (k : ℕ). slice_index_or (slice_set marks set true) k true ≡ false) here clear))
    | inr other ↦
        let apart : j ≢ set * ways + way = λ e. other (ap (λ (k : ℕ). k / ways) e ∙ div-mul-add set ways way lt) in
        ap has_struck_tag (get_or-set_other slots (set * ways + way) j new empty_slot apart) ∙ marked j (sym (get_or-set_other marks set (j / ways) true true other) ∙ clear)
  ]
    where
      not_both : true ≡ false → ⊥
      not_both e = absurd cc

  -- the mark of a clean set is cleared
  pub marked_clear : (slots : List Slot) (set : ℕ) → 1 ≤ ways → ((way : ℕ) → way < ways → has_struck_tag (slice_index_or slots (set * ways + way) empty_slot) ≡ false)
      → AreMarked marks ways slots → AreMarked (slice_set marks set false) ways slots
  marked_clear slots set some clean marked j clear = elim (cases_eq (j / ways) set) [
    | inl here ↦
        let place : set * ways + j % ways ≡ j = ap (λ (k : ℕ). k * ways + j % ways) (sym here) ∙ div-add-mod' j ways in
        subst (λ (k : ℕ). has_struck_tag (slice_index_or slots k empty_slot) ≡ false) place (clean (j % ways) (mod_below j ways some))
    | inr other ↦ marked j (sym (get_or-set_other marks set (j / ways) false true other) ∙ clear)
  ]

  -- a set whose mark is clear
  pub marked_set : (slots : List Slot) (set way : ℕ) → way < ways → AreMarked marks ways slots → slice_index_or marks set true ≡ false → has_struck_tag (slice_index_or slots (set * ways + way) empty_slot) ≡ false
  marked_set slots set way lt marked clear = marked (set * ways + way) (ap (λ (k : ℕ). slice_index_or marks k true) (div-mul-add set ways way lt) ∙ clear)

-- a mark that reads clear
pub clear_mark : (marks : List Bool) (set : ℕ) → set < length marks → not (slice_index_or marks set false) ≡ true → slice_index_or marks set true ≡ false
clear_mark marks set within clear = get_or_default marks set true false within ∙ flip_of (slice_index_or marks set false) clear
  where
    flip_of : (b : Bool) → not b ≡ true → b ≡ false
    flip_of true e = sym e
    flip_of false e = refl
