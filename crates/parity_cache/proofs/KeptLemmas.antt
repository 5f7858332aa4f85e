-- What keeps a cache as it is kept.
use Rattle.std.proofs.Common.{◌≡◌, ℕ, ◌+◌, ◌*◌, ◌<◌, ◌≤◌, true, false, List, length, slice_index_or, slice_set, ◌∙◌, arith}
use Rattle.std.proofs.lemmas.List.{length-set}
use Rattle.lf_model.specs.Caches.Slot.{Slot, empty_slot, has_struck_tag}
use Rattle.parity_slots.specs.SlotsState.{slot_in}
use Rattle.parity_cache.specs.Kept.{IsKept}
use Rattle.parity_cache.specs.declared.cache.ParityCache.TheInside.{Inside}
use Rattle.parity_cache.proofs.MarkLemmas.{marked_with, marked_flip, marked_clear}

module _ (c : Inside) (is : IsKept c) where
  -- one slot becomes another, in which no tag byte is struck where none was
  pub kept_one : (i : ℕ) (new : Slot) (lines : List (List ℕ)) (byte_errors : ℕ) → i < length c.slots.slots → byte_errors ≤ 3
      → (has_struck_tag (slot_in i c.slots) ≡ false → has_struck_tag new ≡ false)
      → IsKept (record c { slots = record c.slots { slots = slice_set c.slots.slots i new; lines = lines }; byte_errors = byte_errors })
  kept_one i new lines byte_errors within few keeps = record {
    shape = is.shape;
    some_set = is.some_set;
    few_sets = is.few_sets;
    slots = length-set c.slots.slots i new ∙ is.slots;
    tag_errors = is.tag_errors;
    byte_errors = few;
    marks = is.marks;
    marked = marked_with c.may_be_struck c.shape.ways c.slots.slots i new within keeps is.marked;
  }

  -- a flip comes to a tag byte of a way of a set
  pub kept_flip : (set way : ℕ) (new : Slot) → way < c.shape.ways → set < c.shape.sets
      → IsKept (record c { slots = record c.slots { slots = slice_set c.slots.slots (set * c.shape.ways + way) new }; may_be_struck = slice_set c.may_be_struck set true })
  kept_flip set way new way_fits set_fits = record {
    shape = is.shape;
    some_set = is.some_set;
    few_sets = is.few_sets;
    slots = length-set c.slots.slots (set * c.shape.ways + way) new ∙ is.slots;
    tag_errors = is.tag_errors;
    byte_errors = is.byte_errors;
    marks = length-set c.may_be_struck set true ∙ is.marks;
    marked = marked_flip c.may_be_struck c.shape.ways c.slots.slots set way new way_fits (omega (arith, set_fits, is.few_sets, is.marks)) is.marked;
  }

  -- the mark of a clean set is cleared
  pub kept_clear : (set : ℕ) → ((way : ℕ) → way < c.shape.ways → has_struck_tag (slice_index_or c.slots.slots (set * c.shape.ways + way) empty_slot) ≡ false) → IsKept (record c { may_be_struck = slice_set c.may_be_struck set false })
  kept_clear set clean = record {
    shape = is.shape;
    some_set = is.some_set;
    few_sets = is.few_sets;
    slots = is.slots;
    tag_errors = is.tag_errors;
    byte_errors = is.byte_errors;
    marks = length-set c.may_be_struck set false ∙ is.marks;
    marked = marked_clear c.may_be_struck c.shape.ways c.slots.slots set is.shape.some_way clean is.marked;
  }
