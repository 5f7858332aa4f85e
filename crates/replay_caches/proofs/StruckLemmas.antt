-- Only a flip strikes: a look-up, a store, a snooped store, a fill and FLUSH leave which flips struck each byte.
use Rattle.std.proofs.Common.{◌≡◌, ℕ, zero, suc, ◌+◌, Bool, true, false, cond, List, [], ◌∷◌, map, slice_index_or, slice_set, Option, Some, None, refl, ◌∙◌}
use Rattle.std.specs.Prelude.{fold, not}
use Rattle.flip_ledger.specs.Follows.{has_struck}
use Rattle.lf_model.specs.Caches.Cache.{Cache, slot_at, with_slot, set_of, matching, raised, used}
use Rattle.lf_model.specs.Caches.Change.{stored_bytes, stored_in, update_by, updated, drop_by, snooped, victim, filled, flushed}
use Rattle.lf_model.specs.Caches.Look.{Checked, check_way, checked, Looked, look_in, look_by, look}
use Rattle.lf_model.specs.Caches.Look.LookUp.{Hit as Hits, Miss as Misses}
use Rattle.lf_model.specs.Caches.Slot.{Slot, empty_slot, history_at, befalls, befalls_each, written, checked_byte, wanted_bytes, has_struck_tag, has_wanted_words, has_struck_byte, dropped, dropped_by_tag, dropped_by_byte, filled_slot}
use Rattle.lf_model.specs.Flips.{Moment, is_struck_byte}
use Rattle.lf_model.specs.Flips.Moment.{Found}
use Rattle.lf_model.specs.declared.bus.Why.TheVariants as whys
use Rattle.replay_caches.specs.KeepsStruck.{AreAlike, KeepsStruck}

-- ---- one history, and histories

abbrev pub IsNoStrike : (List Moment → List Moment) → Type 0
IsNoStrike f = (number : ℕ) (h : List Moment) → has_struck number (f h) ≡ has_struck number h

pub write_no_strike : IsNoStrike written
write_no_strike number h = refl

check_no_strike : IsNoStrike checked_byte
check_no_strike number h = by (is_struck_byte h)
  where
    by : (b : Bool) → has_struck number (cond b (Found ∷ h) h) ≡ has_struck number h
    by true = refl
    by false = refl

module _ (f : List Moment → List Moment) (none : IsNoStrike f) (number : ℕ) where
  pub in_all : (hs : List (List Moment)) (byte : ℕ) → has_struck number (history_at byte (map f hs)) ≡ has_struck number (history_at byte hs)
  in_all [] byte = refl
  in_all (h ∷ hs) zero = none number h
  in_all (h ∷ hs) (suc byte) = in_all hs byte

  pub in_one : (hs : List (List Moment)) (i byte : ℕ) → has_struck number (history_at byte (befalls f i hs)) ≡ has_struck number (history_at byte hs)
  in_one [] i byte = refl
  in_one (h ∷ hs) zero zero = none number h
  in_one (h ∷ hs) zero (suc byte) = refl
  in_one (h ∷ hs) (suc i) zero = refl
  in_one (h ∷ hs) (suc i) (suc byte) = in_one hs i byte

  pub in_each : (bytes : List ℕ) (hs : List (List Moment)) (byte : ℕ) → has_struck number (history_at byte (befalls_each f bytes hs)) ≡ has_struck number (history_at byte hs)
  in_each [] hs byte = refl
  in_each (i ∷ bytes) hs byte = in_each bytes (befalls f i hs) byte ∙ in_one hs i byte

-- ---- one slot

alike : (slot : Slot) → AreAlike slot slot
alike slot = record { tags = λ number byte. refl; lines = λ number byte. refl }

then_alike : (a b c : Slot) → AreAlike b a → AreAlike c b → AreAlike c a
then_alike a b c first second = record {
  tags = λ number byte. second.tags number byte ∙ first.tags number byte;
  lines = λ number byte. second.lines number byte ∙ first.lines number byte;
}

drop_alike : (slot : Slot) → AreAlike (dropped slot) slot
drop_alike slot = record { tags = λ number byte. in_all written write_no_strike number slot.tag_histories byte; lines = λ number byte. refl }

drop_by_tag_alike : (slot : Slot) → AreAlike (dropped_by_tag slot) slot
drop_by_tag_alike slot = record {
  tags = λ number byte. in_all written write_no_strike number (map checked_byte slot.tag_histories) byte ∙ in_all checked_byte check_no_strike number slot.tag_histories byte;
  lines = λ number byte. refl;
}

drop_by_byte_alike : (addr len : ℕ) (slot : Slot) → AreAlike (dropped_by_byte addr len slot) slot
drop_by_byte_alike addr len slot = record {
  tags = λ number byte. in_all written write_no_strike number slot.tag_histories byte;
  lines = λ number byte. in_each checked_byte check_no_strike number (wanted_bytes addr len) slot.line_histories byte;
}

fill_alike : (addr valid : ℕ) (slot : Slot) → AreAlike (filled_slot addr valid slot) slot
fill_alike addr valid slot = record {
  tags = λ number byte. in_all written write_no_strike number slot.tag_histories byte;
  lines = λ number byte. in_all written write_no_strike number slot.line_histories byte;
}

store_alike : (addr len : ℕ) (slot : Slot) → AreAlike (stored_in addr len slot) slot
store_alike addr len slot = record {
  tags = λ number byte. refl;
  lines = λ number byte. in_each written write_no_strike number (stored_bytes addr len slot) slot.line_histories byte;
}

use_alike : (at : ℕ) (slot : Slot) → AreAlike (record slot { used = at }) slot
use_alike at slot = record { tags = λ number byte. refl; lines = λ number byte. refl }

-- ---- a cache

keeps_none : (c : Cache) → KeepsStruck c c
keeps_none c slot = alike (slot_at slot c)

keeps_both : (a b c : Cache) → KeepsStruck a b → KeepsStruck b c → KeepsStruck a c
keeps_both a b c first second slot = then_alike (slot_at slot a) (slot_at slot b) (slot_at slot c) (first slot) (second slot)

set_alike : (slots : List Slot) (i : ℕ) (new : Slot) → AreAlike new (slice_index_or slots i empty_slot)
    → (j : ℕ) → AreAlike (slice_index_or (slice_set slots i new) j empty_slot) (slice_index_or slots j empty_slot)
set_alike [] i new is j = alike empty_slot
set_alike (s ∷ slots) zero new is zero = is
set_alike (s ∷ slots) zero new is (suc j) = alike (slice_index_or slots j empty_slot)
set_alike (s ∷ slots) (suc i) new is zero = alike s
set_alike (s ∷ slots) (suc i) new is (suc j) = set_alike slots i new is j

with_keeps : (change : Slot → Slot) (i : ℕ) (c : Cache) → AreAlike (change (slot_at i c)) (slot_at i c) → KeepsStruck c (with_slot change i c)
with_keeps change i c is = set_alike c.slots i (change (slot_at i c)) is

use_keeps : (i : ℕ) (c : Cache) → KeepsStruck c (used i c)
use_keeps i c = set_alike c.slots i (record (slot_at i c) { used = c.uses + 1 }) (use_alike (c.uses + 1) (slot_at i c))

check_way_keeps : (k : Checked) (i : ℕ) → KeepsStruck k.cache (check_way k i).cache
check_way_keeps k i = by (has_struck_tag (slot_at i k.cache))
  where
    by : (b : Bool) → KeepsStruck k.cache (cond {A = Checked} b (record { dropped = true; cache = record (with_slot dropped_by_tag i k.cache) { tag_errors = raised k.cache.tag_errors } }) k).cache
    by true = set_alike k.cache.slots i (dropped_by_tag (slot_at i k.cache)) (drop_by_tag_alike (slot_at i k.cache))
    by false = keeps_none k.cache

check_keeps : (ways : List ℕ) (k : Checked) → KeepsStruck k.cache (fold check_way k ways).cache
check_keeps [] k = keeps_none k.cache
check_keeps (i ∷ ways) k = keeps_both k.cache (check_way k i).cache (fold check_way (check_way k i) ways).cache (check_way_keeps k i) (check_keeps ways (check_way k i))

checked_keeps : (addr : ℕ) (c : Cache) → KeepsStruck c (checked addr c).cache
checked_keeps addr c = check_keeps (set_of addr c) (record { dropped = false; cache = c })

look_in_keeps : (addr len i : ℕ) (c : Cache) → KeepsStruck c (look_in addr len i c).cache
look_in_keeps addr len i c = by (not (has_wanted_words addr len (slot_at i c))) (has_struck_byte addr len (slot_at i c))
  where
    by : (invalid struck : Bool) → KeepsStruck c (cond {A = Looked} invalid (record { answer = Misses whys.Word; cache = c })
        (cond struck (record { answer = Misses whys.Byte; cache = record (with_slot (dropped_by_byte addr len) i c) { byte_errors = raised c.byte_errors } })
        (record { answer = Hits i; cache = used i c }))).cache
    by true struck = keeps_none c
    by false true = set_alike c.slots i (dropped_by_byte addr len (slot_at i c)) (drop_by_byte_alike addr len (slot_at i c))
    by false false = use_keeps i c

-- ---- what is done to a cache

pub look_keeps : (addr len : ℕ) (c : Cache) → KeepsStruck c (look addr len c).cache
unfolding look
look_keeps addr len c = by (matching addr (checked addr c).cache)
  where
    by : (found : Option ℕ) → KeepsStruck c (look_by addr len (checked addr c) found).cache
    by None = checked_keeps addr c
    by (Some i) = keeps_both c (checked addr c).cache (look_in addr len i (checked addr c).cache).cache (checked_keeps addr c) (look_in_keeps addr len i (checked addr c).cache)

pub update_keeps : (addr len : ℕ) (c : Cache) → KeepsStruck c (updated addr len c)
unfolding updated
update_keeps addr len c = by (matching addr (checked addr c).cache)
  where
    by : (found : Option ℕ) → KeepsStruck c (update_by addr len (checked addr c).cache found)
    by None = checked_keeps addr c
    by (Some i) =
        let k : Cache = (checked addr c).cache in
        let s : Cache = with_slot (stored_in addr len) i (checked addr c).cache in
        keeps_both c k (used i s) (checked_keeps addr c)
        (keeps_both k s (used i s) (with_keeps (stored_in addr len) i k (store_alike addr len (slot_at i k))) (use_keeps i s))

pub snoop_keeps : (addr : ℕ) (c : Cache) → KeepsStruck c (snooped c addr)
unfolding snooped
snoop_keeps addr c = by (matching addr (checked addr c).cache)
  where
    by : (found : Option ℕ) → KeepsStruck c (drop_by (checked addr c).cache found)
    by None = checked_keeps addr c
    by (Some i) =
        let k : Cache = (checked addr c).cache in
        keeps_both c k (with_slot dropped i k) (checked_keeps addr c) (with_keeps dropped i k (drop_alike (slot_at i k)))

pub fill_keeps : (addr valid : ℕ) (c : Cache) → KeepsStruck c (filled addr valid c)
unfolding filled
fill_keeps addr valid c =
    let i : ℕ = victim addr c in
    let s : Cache = with_slot (filled_slot addr valid) (victim addr c) c in
    keeps_both c s (used i s) (with_keeps (filled_slot addr valid) i c (fill_alike addr valid (slot_at i c))) (use_keeps i s)

pub flush_keeps : (c : Cache) → KeepsStruck c (flushed c)
unfolding flushed
flush_keeps c = by c.slots
  where
    by : (slots : List Slot) (j : ℕ) → AreAlike (slice_index_or (map dropped slots) j empty_slot) (slice_index_or slots j empty_slot)
    by [] j = alike empty_slot
    by (s ∷ slots) zero = drop_alike s
    by (s ∷ slots) (suc j) = by slots j
