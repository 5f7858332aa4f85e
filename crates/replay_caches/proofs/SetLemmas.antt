-- The slots of a set, one after the other, and what is done to a cache after the tag check.
use Rattle.std.proofs.Common.{◌≡◌, ℕ, zero, suc, ◌+◌, ◌<◌, ◌≤◌, Bool, true, false, ◌||◌, cond, List, [], ◌∷◌, length, map, slice_index_or, slice_set, Option, Some, None, refl, sym, ap, ◌∙◌, subst, arith, add-one}
use Rattle.std.specs.Prelude.{find, fold}
use Rattle.std.specs.List.{range_with_len}
use Rattle.std.proofs.lemmas.List.Sums.{fold-append}
use Rattle.lf_model.specs.Caches.Cache.{Cache, slot_at, with_slot, matching, raised, used}
use Rattle.lf_model.specs.Caches.Change.{older, update_by, updated, drop_by, snooped, victim, filled}
use Rattle.lf_model.specs.Caches.Look.{Checked, check_way, checked, look_by, look}
use Rattle.lf_model.specs.Caches.Slot.{Slot, empty_slot, dropped, dropped_by_tag, has_struck_tag, filled_slot}
use Rattle.replay_caches.specs.CacheState.{CacheState, victim_by}
use Rattle.replay_caches.specs.Keeps.{Keeps}
use Rattle.replay_caches.proofs.RunLemmas.{range_more}

-- ---- the first slot of a set that passes a test

module _ (p : ℕ → Bool) where
  pub find_more : (a n : ℕ) → find p (range_with_len a n) ≡ None → p (a + n) ≡ false → find p (range_with_len a (n + 1)) ≡ None
  find_more a n none next = ap (λ (m : ℕ). find p (range_with_len a m)) (add-one n) ∙ by a n none next
    where
      both : (a n : ℕ) (b : Bool) → cond b (Some a) (find p (range_with_len (a + 1) n)) ≡ None → (find p (range_with_len (a + 1) n) ≡ None → find p (range_with_len (a + 1) (suc n)) ≡ None)
          → cond b (Some a) (find p (range_with_len (a + 1) (suc n))) ≡ None
      both a n true e later = cc
      both a n false e later = later e

      by : (a n : ℕ) → find p (range_with_len a n) ≡ None → p (a + n) ≡ false → find p (range_with_len a (suc n)) ≡ None
      by a zero none next = ap (λ (b : Bool). cond b (Some a) None) (subst (λ (i : ℕ). p i ≡ false) (omega arith) next)
      by a (suc n) none next = both a n (p a) none (λ e. by (a + 1) n e (subst (λ (i : ℕ). p i ≡ false) (omega arith) next))

  pub find_found : (a n i : ℕ) → i < n → find p (range_with_len a i) ≡ None → p (a + i) ≡ true → find p (range_with_len a n) ≡ Some (a + i)
  find_found a zero i lt none is = absurd (omega arith)
  find_found a (suc n) zero lt none is =
      let here : a + 0 ≡ a = omega arith in
      ap (λ (b : Bool). cond b (Some a) (find p (range_with_len (a + 1) n))) (subst (λ (j : ℕ). p j ≡ true) here is) ∙ ap (λ (j : ℕ). Some j) (sym here)
  find_found a (suc n) (suc i) lt none is =
      both (p a) none (λ e. find_found (a + 1) n i (omega arith) e (subst (λ (j : ℕ). p j ≡ true) (omega arith) is) ∙ ap (λ (j : ℕ). Some j) (omega arith))
    where
      both : (b : Bool) → cond b (Some a) (find p (range_with_len (a + 1) i)) ≡ None → (find p (range_with_len (a + 1) i) ≡ None → find p (range_with_len (a + 1) n) ≡ Some (a + suc i))
          → cond b (Some a) (find p (range_with_len (a + 1) n)) ≡ Some (a + suc i)
      both true e later = cc
      both false e later = later e

-- ---- the tag check

joined : (b : Bool) (k : Checked) (c : Cache)
    → cond b (record { dropped = true; cache = c }) k ≡ record { dropped = b || k.dropped; cache = (cond {A = Checked} b (record { dropped = true; cache = c }) (record { dropped = false; cache = k.cache })).cache }
joined true k c = refl
joined false k c = refl

-- a way that is checked after others
pub checked_step : (k : Checked) (i : ℕ)
    → check_way k i ≡ record { dropped = has_struck_tag (slot_at i k.cache) || k.dropped; cache = (check_way (record { dropped = false; cache = k.cache }) i).cache }
checked_step k i = joined (has_struck_tag (slot_at i k.cache)) k (record (with_slot dropped_by_tag i k.cache) { tag_errors = raised k.cache.tag_errors })

-- the ways from the first on
abbrev pub checked_from : ℕ → ℕ → Cache → Checked
checked_from first count cache = fold check_way (record { dropped = false; cache = cache }) (range_with_len first count)

pub checked_next : (first count : ℕ) (cache : Cache) → checked_from first (count + 1) cache ≡ check_way (checked_from first count cache) (first + count)
checked_next first count cache =
    ap (fold check_way (record { dropped = false; cache = cache })) (range_more first count)
    ∙ fold-append check_way (record { dropped = false; cache = cache }) (range_with_len first count) ((first + count) ∷ [])

-- ---- the least recently used way

pub older_next : (cache : Cache) (first count : ℕ) → fold (older cache) None (range_with_len first (count + 1)) ≡ older cache (fold (older cache) None (range_with_len first count)) (first + count)
older_next cache first count =
    ap (fold (older cache) None) (range_more first count)
    ∙ fold-append (older cache) None (range_with_len first count) ((first + count) ∷ [])

-- ---- every line dropped

abbrev pub dropped_below : ℕ → List Slot → List Slot
dropped_below zero slots = slots
dropped_below (suc n) [] = []
dropped_below (suc n) (slot ∷ slots) = dropped slot ∷ dropped_below n slots

pub dropped_length : (n : ℕ) (slots : List Slot) → length (dropped_below n slots) ≡ length slots
dropped_length zero slots = refl
dropped_length (suc n) [] = refl
dropped_length (suc n) (slot ∷ slots) = ap suc (dropped_length n slots)

pub dropped_next : (n : ℕ) (slots : List Slot) → n < length slots → slice_set (dropped_below n slots) n (dropped (slice_index_or (dropped_below n slots) n empty_slot)) ≡ dropped_below (suc n) slots
dropped_next zero [] lt = absurd (omega arith)
dropped_next zero (slot ∷ slots) lt = refl
dropped_next (suc n) [] lt = absurd (omega arith)
dropped_next (suc n) (slot ∷ slots) lt = ap (λ (rest : List Slot). dropped slot ∷ rest) (dropped_next n slots (omega arith))

pub dropped_all : (n : ℕ) (slots : List Slot) → length slots ≤ n → dropped_below n slots ≡ map dropped slots
dropped_all zero [] le = refl
dropped_all zero (slot ∷ slots) le = absurd (omega arith)
dropped_all (suc n) [] le = refl
dropped_all (suc n) (slot ∷ slots) le = ap (λ (rest : List Slot). dropped slot ∷ rest) (dropped_all n slots (omega arith))

-- ---- after the tag check, by the slot in which the line is present

pub victim_is : (addr : ℕ) (cache : Cache) (found : Option ℕ) → found ≡ matching addr cache → victim_by addr cache found ≡ victim addr cache
unfolding victim
victim_is addr cache found is = ap (victim_by addr cache) is

pub look_is : (addr len : ℕ) (cache : Cache) (found : Option ℕ) → found ≡ matching addr (checked addr cache).cache → look addr len cache ≡ look_by addr len (checked addr cache) found
unfolding look
look_is addr len cache found is = ap (look_by addr len (checked addr cache)) (sym is)

pub snooped_is : (addr : ℕ) (cache : Cache) (found : Option ℕ) → found ≡ matching addr (checked addr cache).cache → snooped cache addr ≡ drop_by (checked addr cache).cache found
unfolding snooped
snooped_is addr cache found is = ap (drop_by (checked addr cache).cache) (sym is)

pub updated_is : (addr len : ℕ) (cache : Cache) (found : Option ℕ) → found ≡ matching addr (checked addr cache).cache → updated addr len cache ≡ update_by addr len (checked addr cache).cache found
unfolding updated
updated_is addr len cache found is = ap (update_by addr len (checked addr cache).cache) (sym is)

pub filled_is : (addr valid : ℕ) (cache : Cache) → used (victim addr cache) (with_slot (filled_slot addr valid) (victim addr cache) cache) ≡ filled addr valid cache
unfolding filled
filled_is addr valid cache = refl

-- ---- what calls keep, one after the other

pub keeps_then : (m n k : ℕ) (a b c : CacheState) → m + n ≤ k → Keeps m a b → Keeps n b c → Keeps k a c
keeps_then m n k a b c all first second = record {
  shape = second.shape ∙ first.shape;
  slots = second.slots ∙ first.slots;
  flips = second.flips ∙ first.flips;
  uses_at_most = omega (arith, all, first.uses_at_most, second.uses_at_most);
}

pub keeps_more : (m n : ℕ) (a b : CacheState) → m ≤ n → Keeps m a b → Keeps n a b
keeps_more m n a b le keeps = record {
  shape = keeps.shape;
  slots = keeps.slots;
  flips = keeps.flips;
  uses_at_most = omega (arith, le, keeps.uses_at_most);
}
