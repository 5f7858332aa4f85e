-- The slots of a set, one after the other.
use Rattle.std.proofs.Common.{◌≡◌, ◌≢◌, ℕ, zero, suc, ◌+◌, ◌*◌, ◌/◌, ◌%◌, ◌<◌, ◌≤◌, Bool, true, false, ◌||◌, cond, List, [], ◌∷◌, length, map, slice_index_or, slice_set, Option, Some, None, refl, sym, ap, ◌∙◌, subst, arith, add-one}
use Rattle.std.specs.Prelude.{find, fold}
use Rattle.std.specs.List.{list_any, range_with_len}
use Rattle.std.proofs.lemmas.Grind.{fold-append}
use Rattle.std.proofs.lemmas.List.{length-set, get_or-set_same, get_or-set_other}
use Rattle.lf_model.specs.Caches.Cache.{Cache, slot_at, with_slot, matching, raised}
use Rattle.lf_model.specs.Caches.Change.{older, updated, drop_by, snooped, victim, filled}
use Rattle.lf_model.specs.Caches.Look.{Checked, check_way, checked, LookUp, look_by, look}
use Rattle.lf_model.specs.Caches.Look.LookUp.{Hit as Hits, Miss as Misses}
use Rattle.lf_model.specs.Caches.Slot.{Slot, empty_slot, written, checked_byte, dropped, dropped_by_tag, has_struck_tag}
use Rattle.lf_model.specs.Flips.{Moment, is_struck_byte}
use Rattle.lf_model.specs.declared.config.Shape.{Shape}
use Rattle.parity_slots.specs.SlotState.{value_at}
use Rattle.parity_slots.proofs.RangeLemmas.{range_more}
use Rattle.parity_cache.specs.CacheState.{CacheState, IsCleanSet, line_at, with_cache, answer_of, victim_by, filled_in, filled_cache, stored_by, stored_cache}
use Rattle.lf_model.specs.declared.step.Look.TheVariants.{Hit}

-- ---- the first slot of a set that passes a test

module _ (p : ℕ → Bool) where
  pub find_more : (a n : ℕ) → find p (range_with_len a n) ≡ None → p (a + n) ≡ false → find p (range_with_len a (suc n)) ≡ None
  find_more a zero none next = ap (λ (b : Bool). cond b (Some a) None) (subst (λ (i : ℕ). p i ≡ false) (omega arith) next)
  find_more a (suc n) none next = both (p a) none (λ e. find_more (a + 1) n e (subst (λ (i : ℕ). p i ≡ false) (omega arith) next))
    where
      both : (b : Bool) → cond b (Some a) (find p (range_with_len (a + 1) n)) ≡ None → (find p (range_with_len (a + 1) n) ≡ None → find p (range_with_len (a + 1) (suc n)) ≡ None)
          → cond b (Some a) (find p (range_with_len (a + 1) (suc n))) ≡ None
      both true e later = cc
      both false e later = later e

  pub find_found : (a n i : ℕ) → i < n → find p (range_with_len a i) ≡ None → p (a + i) ≡ true → find p (range_with_len a n) ≡ Some (a + i)
  find_found a zero i lt none is = absurd (omega arith)
  find_found a (suc n) zero lt none is =
      let here : a + 0 ≡ a = omega arith in
      ap (λ (b : Bool). cond b (Some a) (find p (range_with_len (a + 1) n))) (subst (λ (j : ℕ). p j ≡ true) here is) ∙ ap (λ (j : ℕ). Some j) (sym here)
  find_found a (suc n) (suc i) lt none is =
      both (p a) none (λ e. find_found (a + 1) n i (omega arith) e (subst (λ (j : ℕ). p j ≡ true) (omega arith) is) ∙ ap (λ (j : ℕ). Some j) (omega arith))
    where
      both : (b : Bool) → cond b (Some a) (find p (range_with_len (a + 1) i)) ≡ None → (find p (range_with_len (a + 1) i) ≡ None → find p (range_with_len (a + 1) n) ≡ Some (a + suc i))
          → cond b (Some a) (find p (range_with_len (a + 1) n)) ≡ Some (a + suc i)
      both true e later = cc
      both false e later = later e

-- ---- the tag check

joined : (b : Bool) (k : Checked) (c : Cache)
    → cond b (record { dropped = true; cache = c }) k ≡ record { dropped = b || k.dropped; cache = (cond {A = Checked} b (record { dropped = true; cache = c }) (record { dropped = false; cache = k.cache })).cache }
joined true k c = refl
joined false k c = refl

-- a way that is checked after others
pub checked_step : (k : Checked) (i : ℕ)
    → check_way k i ≡ record { dropped = has_struck_tag (slot_at i k.cache) || k.dropped; cache = (check_way (record { dropped = false; cache = k.cache }) i).cache }
checked_step k i = joined (has_struck_tag (slot_at i k.cache)) k (record (with_slot dropped_by_tag i k.cache) { tag_errors = raised k.cache.tag_errors })

-- a tag that was written has no struck byte
pub written_tag : (hs : List (List Moment)) → list_any is_struck_byte (map written hs) ≡ false
written_tag [] = refl
written_tag (h ∷ hs) = written_tag hs

-- one way that is checked
module _ (cache : Cache) (i : ℕ) (within : i < length cache.slots) where
  cases_way : (P : Cache → Type 0) → (has_struck_tag (slot_at i cache) ≡ false → P cache) → P (record (with_slot dropped_by_tag i cache) { tag_errors = raised cache.tag_errors })
      → P (check_way (record { dropped = false; cache = cache }) i).cache
  cases_way P kept is_dropped = go (has_struck_tag (slot_at i cache)) refl
    where
      go : (b : Bool) → has_struck_tag (slot_at i cache) ≡ b
          → P (cond {A = Checked} b (record { dropped = true; cache = record (with_slot dropped_by_tag i cache) { tag_errors = raised cache.tag_errors } }) (record { dropped = false; cache = cache })).cache
      go true e = is_dropped
      go false e = kept e

  pub way_clean : has_struck_tag (slot_at i (check_way (record { dropped = false; cache = cache }) i).cache) ≡ false
  way_clean = cases_way (λ c. has_struck_tag (slot_at i c) ≡ false) (λ e. e)
      (ap has_struck_tag (get_or-set_same cache.slots i (dropped_by_tag (slot_at i cache)) empty_slot within) ∙ written_tag (map checked_byte (slot_at i cache).tag_histories))

  pub way_others : (j : ℕ) → j ≢ i → slot_at j (check_way (record { dropped = false; cache = cache }) i).cache ≡ slot_at j cache
  way_others j other = cases_way (λ c. slot_at j c ≡ slot_at j cache) (λ e. refl) (get_or-set_other cache.slots i j (dropped_by_tag (slot_at i cache)) empty_slot other)

  pub way_slots : length (check_way (record { dropped = false; cache = cache }) i).cache.slots ≡ length cache.slots
  way_slots = cases_way (λ c. length c.slots ≡ length cache.slots) (λ e. refl) (length-set cache.slots i (dropped_by_tag (slot_at i cache)))

  pub way_shape : (check_way (record { dropped = false; cache = cache }) i).cache.shape ≡ cache.shape
  way_shape = cases_way (λ c. c.shape ≡ cache.shape) (λ e. refl) refl

  pub way_uses : (check_way (record { dropped = false; cache = cache }) i).cache.uses ≡ cache.uses
  way_uses = cases_way (λ c. c.uses ≡ cache.uses) (λ e. refl) refl

-- the ways from the first on
abbrev pub checked_from : ℕ → ℕ → Cache → Checked
checked_from first count cache = fold check_way (record { dropped = false; cache = cache }) (range_with_len first count)

pub checked_next : (first count : ℕ) (cache : Cache) → checked_from first (count + 1) cache ≡ check_way (checked_from first count cache) (first + count)
checked_next first count cache =
    ap (λ (n : ℕ). checked_from first n cache) (add-one count)
    ∙ ap (fold check_way (record { dropped = false; cache = cache })) (range_more first count)
    ∙ fold-append check_way (record { dropped = false; cache = cache }) (range_with_len first count) ((first + count) ∷ [])

-- a set in which no tag byte is struck is checked without effect
clean_from : (first n : ℕ) (cache : Cache) → ((w : ℕ) → w < n → has_struck_tag (slot_at (first + w) cache) ≡ false) → checked_from first n cache ≡ record { dropped = false; cache = cache }
clean_from first zero cache clean = refl
clean_from first (suc n) cache clean =
    let kept : Checked = record { dropped = false; cache = cache } in
    sym (ap (λ (m : ℕ). checked_from first m cache) (add-one n))
    ∙ checked_next first n cache
    ∙ ap (λ (k : Checked). check_way k (first + n)) (clean_from first n cache (λ w lt. clean w (omega (arith, lt))))
    ∙ ap (λ (b : Bool). cond {A = Checked} b (record { dropped = true; cache = record (with_slot dropped_by_tag (first + n) cache) { tag_errors = raised cache.tag_errors } }) (record { dropped = false; cache = cache }))
    (clean n (omega arith))

pub clean_checked : (addr : ℕ) (cache : Cache) → IsCleanSet addr cache → checked addr cache ≡ record { dropped = false; cache = cache }
clean_checked addr cache clean = clean_from (addr / 32 % cache.shape.sets * cache.shape.ways) cache.shape.ways cache clean

-- ---- the least recently used way

pub older_next : (cache : Cache) (first count : ℕ) → fold (older cache) None (range_with_len first (count + 1)) ≡ older cache (fold (older cache) None (range_with_len first count)) (first + count)
older_next cache first count =
    ap (λ (n : ℕ). fold (older cache) None (range_with_len first n)) (add-one count)
    ∙ ap (fold (older cache) None) (range_more first count)
    ∙ fold-append (older cache) None (range_with_len first count) ((first + count) ∷ [])

-- ---- every line dropped

abbrev pub dropped_below : ℕ → List Slot → List Slot
dropped_below zero slots = slots
dropped_below (suc n) [] = []
dropped_below (suc n) (slot ∷ slots) = dropped slot ∷ dropped_below n slots

pub dropped_length : (n : ℕ) (slots : List Slot) → length (dropped_below n slots) ≡ length slots
dropped_length zero slots = refl
dropped_length (suc n) [] = refl
dropped_length (suc n) (slot ∷ slots) = ap suc (dropped_length n slots)

pub dropped_next : (n : ℕ) (slots : List Slot) → n < length slots → slice_set (dropped_below n slots) n (dropped (slice_index_or (dropped_below n slots) n empty_slot)) ≡ dropped_below (suc n) slots
dropped_next zero [] lt = absurd (omega arith)
dropped_next zero (slot ∷ slots) lt = refl
dropped_next (suc n) [] lt = absurd (omega arith)
dropped_next (suc n) (slot ∷ slots) lt = ap (λ (rest : List Slot). dropped slot ∷ rest) (dropped_next n slots (omega arith))

pub dropped_all : (n : ℕ) (slots : List Slot) → length slots ≤ n → dropped_below n slots ≡ map dropped slots
dropped_all zero [] le = refl
dropped_all zero (slot ∷ slots) le = absurd (omega arith)
dropped_all (suc n) [] le = refl
dropped_all (suc n) (slot ∷ slots) le = ap (λ (rest : List Slot). dropped slot ∷ rest) (dropped_all n slots (omega arith))

-- ---- what a look-up answers, by a cache with the same lines and shape

pub answer_same : (addr len : ℕ) (s : CacheState) (cache : Cache) (found : LookUp) → cache.shape ≡ s.cache.shape → answer_of addr len (with_cache cache s) found ≡ answer_of addr len s found
answer_same addr len s cache (Hits i) same = ap (λ (shape : Shape). Hit (value_at addr len (line_at i s)) (i % shape.ways)) same
answer_same addr len s cache (Misses why) same = refl

-- ---- after the tag check, by the slot in which the line is present

pub victim_is : (addr : ℕ) (cache : Cache) (found : Option ℕ) → found ≡ matching addr cache → victim_by addr cache found ≡ victim addr cache
unfolding victim
victim_is addr cache found is = ap (victim_by addr cache) is

pub look_is : (addr len : ℕ) (cache : Cache) (found : Option ℕ) → found ≡ matching addr (checked addr cache).cache → look addr len cache ≡ look_by addr len (checked addr cache) found
unfolding look
look_is addr len cache found is = ap (look_by addr len (checked addr cache)) (sym is)

pub look_clean : (addr len : ℕ) (cache : Cache) (found : Option ℕ) → IsCleanSet addr cache → found ≡ matching addr cache → look addr len cache ≡ look_by addr len (record { dropped = false; cache = cache }) found
unfolding look
look_clean addr len cache found clean is =
    ap (λ (k : Checked). look_by addr len k (matching addr k.cache)) (clean_checked addr cache clean)
    ∙ ap (look_by addr len (record { dropped = false; cache = cache })) (sym is)

pub snooped_is : (addr : ℕ) (cache : Cache) (found : Option ℕ) → found ≡ matching addr (checked addr cache).cache → snooped cache addr ≡ drop_by (checked addr cache).cache found
unfolding snooped
snooped_is addr cache found is = ap (drop_by (checked addr cache).cache) (sym is)

pub stored_is : (addr len value : ℕ) (s : CacheState) (found : Option ℕ) → found ≡ matching addr (checked addr s.cache).cache
    → stored_by addr len value (with_cache (checked addr s.cache).cache s) found ≡ stored_cache addr len value s
unfolding updated
stored_is addr len value s found is = ap (stored_by addr len value (with_cache (checked addr s.cache).cache s)) is

pub filled_is : (addr valid : ℕ) (words : List ℕ) (s : CacheState) → filled_in (victim addr s.cache) addr valid words s ≡ filled_cache addr valid words s
unfolding filled
filled_is addr valid words s = refl
