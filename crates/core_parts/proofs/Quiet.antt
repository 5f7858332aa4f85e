-- No touch of an instruction or of a turn makes a flip strike: a flip that has struck a unit after it had struck that unit before.
use Rattle.std.proofs.Common.{◌≡◌, ℕ, zero, suc, ◌+◌, Bool, true, false, cond, List, [], ◌∷◌, length, map, Option, Some, None, slice_index_or, refl, ◌∙◌, ⊎_elim}
use Rattle.std.specs.Prelude.{fold, not}
use Rattle.std.proofs.lemmas.List.{length-set}
use Rattle.core_parts.proofs.StrikeLemmas.{changed}
use Rattle.flip_ledger.specs.Follows.{has_struck}
use Rattle.lf_model.specs.Caches.Cache.{Cache, raised, slot_at, with_slot, set_of, matching, used}
use Rattle.lf_model.specs.Caches.Change.{stored_bytes, stored_in, update_by, updated, drop_by, snooped, victim, filled, flushed}
use Rattle.lf_model.specs.Caches.Look.{Checked, check_way, checked, Looked, look, look_in, look_by}
use Rattle.lf_model.specs.Caches.Look.LookUp.{Hit as Hits, Miss as Misses}
use Rattle.lf_model.specs.Caches.Slot.{Slot, empty_slot, history_at, befalls, befalls_each, written, checked_byte, dropped, dropped_by_tag, dropped_by_byte, filled_slot, has_struck_tag, has_struck_byte, has_wanted_words, wanted_bytes}
use Rattle.lf_model.specs.Course.Arrays.{read_back}
use Rattle.lf_model.specs.Course.Arrays.{Arrays as CourseArrays}
use Rattle.lf_model.specs.Course.Touches.{touched}
use Rattle.lf_model.specs.Flips.{Moment, is_struck_byte, is_fixed_word}
use Rattle.lf_model.specs.Flips.How.{ByReadBack}
use Rattle.lf_model.specs.Flips.Moment.{Written, Found, Named}
use Rattle.lf_model.specs.declared.bus.Why.TheVariants as whys
use Rattle.lf_model.specs.declared.touch.Touch.{Touch}
use Rattle.lf_model.specs.declared.touch.Touch.TheVariants.{StartStep, LookFetch, ReadCell, WriteCell, LookData, StoreData, FlushCaches, SnoopData, FillFetch, FillData}

-- ---- one history

-- what happens to a unit makes no flip strike it
abbrev pub IsQuiet : (List Moment → List Moment) → Type 0
IsQuiet happen = (i : ℕ) (h : List Moment) → has_struck i (happen h) ≡ true → has_struck i h ≡ true

quiet_written : IsQuiet written
quiet_written i h struck = struck

pub quiet_named : IsQuiet (λ h. Named ∷ h)
quiet_named i h struck = struck

quiet_checked : IsQuiet checked_byte
quiet_checked i h struck = by (is_struck_byte h) struck
  where
    by : (b : Bool) → has_struck i (cond b (Found ∷ h) h) ≡ true → has_struck i h ≡ true
    by true s = s
    by false s = s

quiet_read : IsQuiet read_back
quiet_read i h struck = by (is_fixed_word h) struck
  where
    by : (b : Bool) → has_struck i (cond b (Written ByReadBack ∷ h) h) ≡ true → has_struck i h ≡ true
    by true s = s
    by false s = s

-- ---- lists of histories

-- every element is replaced
mapped : {X : Type 0} (P : X → Type 0) (change : X → X) → ((x : X) → P (change x) → P x) → (xs : List X) (j : ℕ) (e : X) → P (slice_index_or (map change xs) j e) → P (slice_index_or xs j e)
mapped P change back [] j e p = p
mapped P change back (x ∷ xs) zero e p = back x p
mapped P change back (x ∷ xs) (suc j) e p = mapped P change back xs j e p

module _ (i place : ℕ) (happen : List Moment → List Moment) (quiet : IsQuiet happen) where
  quiet_befalls : (k : ℕ) (hs : List (List Moment)) → has_struck i (history_at place (befalls happen k hs)) ≡ true → has_struck i (history_at place hs) ≡ true
  quiet_befalls k hs struck =
      ⊎_elim (λ old. old) (λ it. quiet i (history_at place hs) it.1) (changed (λ (h : List Moment). has_struck i h ≡ true) happen hs k place [] struck)

  quiet_map : (hs : List (List Moment)) → has_struck i (history_at place (map happen hs)) ≡ true → has_struck i (history_at place hs) ≡ true
  quiet_map hs struck = mapped (λ (h : List Moment). has_struck i h ≡ true) happen (quiet i) hs place [] struck

  quiet_each : (units : List ℕ) (hs : List (List Moment)) → has_struck i (history_at place (befalls_each happen units hs)) ≡ true → has_struck i (history_at place hs) ≡ true
  quiet_each [] hs struck = struck
  quiet_each (k ∷ units) hs struck = quiet_befalls k hs (quiet_each units (befalls happen k hs) struck)

-- ---- a slot

-- flip i struck a tag byte, or a byte of the line
abbrev pub StruckIn : Bool → ℕ → ℕ → Slot → Type 0
StruckIn tag i byte slot = has_struck i (history_at byte (cond tag slot.tag_histories slot.line_histories)) ≡ true

abbrev pub IsQuietSlot : (Slot → Slot) → Type 0
IsQuietSlot change = (tag : Bool) (i byte : ℕ) (slot : Slot) → StruckIn tag i byte (change slot) → StruckIn tag i byte slot

slot_dropped : IsQuietSlot dropped
slot_dropped true i byte slot struck = quiet_map i byte written quiet_written slot.tag_histories struck
slot_dropped false i byte slot struck = struck

slot_by_tag : IsQuietSlot dropped_by_tag
slot_by_tag true i byte slot struck = quiet_map i byte checked_byte quiet_checked slot.tag_histories (quiet_map i byte written quiet_written (map checked_byte slot.tag_histories) struck)
slot_by_tag false i byte slot struck = struck

slot_by_byte : (addr len : ℕ) → IsQuietSlot (dropped_by_byte addr len)
slot_by_byte addr len true i byte slot struck = quiet_map i byte written quiet_written slot.tag_histories struck
slot_by_byte addr len false i byte slot struck = quiet_each i byte checked_byte quiet_checked (wanted_bytes addr len) slot.line_histories struck

slot_filled : (addr valid : ℕ) → IsQuietSlot (filled_slot addr valid)
slot_filled addr valid true i byte slot struck = quiet_map i byte written quiet_written slot.tag_histories struck
slot_filled addr valid false i byte slot struck = quiet_map i byte written quiet_written slot.line_histories struck

slot_stored : (addr len : ℕ) → IsQuietSlot (stored_in addr len)
slot_stored addr len true i byte slot struck = struck
slot_stored addr len false i byte slot struck = quiet_each i byte written quiet_written (stored_bytes addr len slot) slot.line_histories struck

slot_used : (n : ℕ) → IsQuietSlot (λ slot. record slot { used = n })
slot_used n true i byte slot struck = struck
slot_used n false i byte slot struck = struck

-- ---- a cache

-- from the first to the second no flip struck, and the shape is the same
pub record QuietCache (old new : Cache) : Type 0 where
  pub shape : new.shape ≡ old.shape
  pub units : (tag : Bool) (i byte j : ℕ) → StruckIn tag i byte (slot_at j new) → StruckIn tag i byte (slot_at j old)

quiet_same : (c : Cache) → QuietCache c c
quiet_same c = record { shape = refl; units = λ tag i byte j struck. struck }

quiet_then : (a b c : Cache) → QuietCache a b → QuietCache b c → QuietCache a c
quiet_then a b c first second = record { shape = second.shape ∙ first.shape; units = λ tag i byte j struck. first.units tag i byte j (second.units tag i byte j struck) }

slot_changes : (change : Slot → Slot) → IsQuietSlot change → (k : ℕ) (c : Cache) (tag : Bool) (i byte j : ℕ) → StruckIn tag i byte (slot_at j (with_slot change k c)) → StruckIn tag i byte (slot_at j c)
slot_changes change quiet k c tag i byte j struck =
    ⊎_elim (λ old. old) (λ it. quiet tag i byte (slot_at j c) it.1) (changed (λ (s : Slot). StruckIn tag i byte s) change c.slots k j empty_slot struck)

quiet_slot : (change : Slot → Slot) → IsQuietSlot change → (k : ℕ) (c : Cache) → QuietCache c (with_slot change k c)
quiet_slot change quiet k c = record { shape = refl; units = slot_changes change quiet k c }

quiet_used : (k : ℕ) (c : Cache) → QuietCache c (used k c)
quiet_used k c = record { shape = refl; units = slot_changes (λ slot. record slot { used = c.uses + 1 }) (slot_used (c.uses + 1)) k c }

quiet_way : (k : Checked) (i : ℕ) → QuietCache k.cache (check_way k i).cache
quiet_way k i = by (has_struck_tag (slot_at i k.cache))
  where
    by : (b : Bool) → QuietCache k.cache (cond b (record { dropped = true; cache = record (with_slot dropped_by_tag i k.cache) { tag_errors = raised k.cache.tag_errors } }) k).cache
    by true = record { shape = refl; units = slot_changes dropped_by_tag slot_by_tag i k.cache }
    by false = quiet_same k.cache

quiet_ways : (ways : List ℕ) (k : Checked) → QuietCache k.cache (fold check_way k ways).cache
quiet_ways [] k = quiet_same k.cache
quiet_ways (i ∷ ways) k = quiet_then k.cache (check_way k i).cache (fold check_way (check_way k i) ways).cache (quiet_way k i) (quiet_ways ways (check_way k i))

quiet_check : (addr : ℕ) (c : Cache) → QuietCache c (checked addr c).cache
quiet_check addr c = quiet_ways (set_of addr c) (record { dropped = false; cache = c })

quiet_in : (addr len i : ℕ) (c : Cache) → QuietCache c (look_in addr len i c).cache
quiet_in addr len i c = by (not (has_wanted_words addr len (slot_at i c))) (has_struck_byte addr len (slot_at i c))
  where
    by : (lacks struck : Bool) → QuietCache c (cond {A = Looked} lacks (record { answer = Misses whys.Word; cache = c })
        (cond {A = Looked} struck (record { answer = Misses whys.Byte; cache = record (with_slot (dropped_by_byte addr len) i c) { byte_errors = raised c.byte_errors } })
        (record { answer = Hits i; cache = used i c }))).cache
    by true struck = quiet_same c
    by false true = record { shape = refl; units = slot_changes (dropped_by_byte addr len) (slot_by_byte addr len) i c }
    by false false = quiet_used i c

quiet_by : (addr len : ℕ) (k : Checked) (found : Option ℕ) → QuietCache k.cache (look_by addr len k found).cache
quiet_by addr len k None = quiet_same k.cache
quiet_by addr len k (Some i) = quiet_in addr len i k.cache

quiet_look : (addr len : ℕ) (c : Cache) → QuietCache c (look addr len c).cache
unfolding look
quiet_look addr len c =
    let k : Checked = checked addr c in
    quiet_then c k.cache (look_by addr len k (matching addr k.cache)).cache (quiet_check addr c) (quiet_by addr len k (matching addr k.cache))

quiet_update : (addr len : ℕ) (c : Cache) (found : Option ℕ) → QuietCache c (update_by addr len c found)
quiet_update addr len c None = quiet_same c
quiet_update addr len c (Some i) =
    quiet_then c (with_slot (stored_in addr len) i c) (used i (with_slot (stored_in addr len) i c)) (quiet_slot (stored_in addr len) (slot_stored addr len) i c) (quiet_used i (with_slot (stored_in addr len) i c))

quiet_store : (addr len : ℕ) (c : Cache) → QuietCache c (updated addr len c)
unfolding updated
quiet_store addr len c =
    let k : Cache = (checked addr c).cache in
    quiet_then c k (update_by addr len k (matching addr k)) (quiet_check addr c) (quiet_update addr len k (matching addr k))

quiet_drop : (c : Cache) (found : Option ℕ) → QuietCache c (drop_by c found)
quiet_drop c None = quiet_same c
quiet_drop c (Some i) = quiet_slot dropped slot_dropped i c

quiet_snoop : (addr : ℕ) (c : Cache) → QuietCache c (snooped c addr)
unfolding snooped
quiet_snoop addr c =
    let k : Cache = (checked addr c).cache in
    quiet_then c k (drop_by k (matching addr k)) (quiet_check addr c) (quiet_drop k (matching addr k))

quiet_fill : (addr valid : ℕ) (c : Cache) → QuietCache c (filled addr valid c)
unfolding filled
quiet_fill addr valid c =
    let i : ℕ = victim addr c in
    quiet_then c (with_slot (filled_slot addr valid) i c) (used i (with_slot (filled_slot addr valid) i c)) (quiet_slot (filled_slot addr valid) (slot_filled addr valid) i c)
    (quiet_used i (with_slot (filled_slot addr valid) i c))

quiet_flush : (c : Cache) → QuietCache c (flushed c)
unfolding flushed
quiet_flush c = record {
  shape = refl;
  units = λ tag i byte j struck. mapped (λ (s : Slot). StruckIn tag i byte s) dropped (slot_dropped tag i byte) c.slots j empty_slot struck;
}

-- ---- the arrays

pub record QuietArrays (old new : CourseArrays) : Type 0 where
  pub count : length new.cells ≡ length old.cells
  pub cells : (i place : ℕ) → has_struck i (history_at place new.cells) ≡ true → has_struck i (history_at place old.cells) ≡ true
  pub fetch_cache : QuietCache old.fetch_cache new.fetch_cache
  pub data_cache : QuietCache old.data_cache new.data_cache

pub quiet_arrays_then : (a b c : CourseArrays) → QuietArrays a b → QuietArrays b c → QuietArrays a c
quiet_arrays_then a b c first second = record {
  count = second.count ∙ first.count;
  cells = λ i place struck. first.cells i place (second.cells i place struck);
  fetch_cache = quiet_then a.fetch_cache b.fetch_cache c.fetch_cache first.fetch_cache second.fetch_cache;
  data_cache = quiet_then a.data_cache b.data_cache c.data_cache first.data_cache second.data_cache;
}

module _ (a : CourseArrays) where
  with_caches : (fetch loads : Cache) → QuietCache a.fetch_cache fetch → QuietCache a.data_cache loads → QuietArrays a (record a { fetch_cache = fetch; data_cache = loads })
  with_caches fetch loads quiet_fetch quiet_data = record { count = refl; cells = λ i place struck. struck; fetch_cache = quiet_fetch; data_cache = quiet_data }

  pub quiet_cell : (happen : List Moment → List Moment) → IsQuiet happen → (k : ℕ) → QuietArrays a (record a { cells = befalls happen k a.cells })
  quiet_cell happen quiet k = record {
    count = length-set a.cells k (happen (history_at k a.cells));
    cells = λ i place struck. quiet_befalls i place happen quiet k a.cells struck;
    fetch_cache = quiet_same a.fetch_cache;
    data_cache = quiet_same a.data_cache;
  }

  pub quiet_touch : (t : Touch) → QuietArrays a (touched [] a t)
  quiet_touch (StartStep step) = with_caches a.fetch_cache a.data_cache (quiet_same a.fetch_cache) (quiet_same a.data_cache)
  quiet_touch (LookFetch addr) = with_caches (look addr 4 a.fetch_cache).cache a.data_cache (quiet_look addr 4 a.fetch_cache) (quiet_same a.data_cache)
  quiet_touch (ReadCell k) = quiet_cell read_back quiet_read k
  quiet_touch (WriteCell k) = quiet_cell written quiet_written k
  quiet_touch (LookData addr len) = with_caches a.fetch_cache (look addr len a.data_cache).cache (quiet_same a.fetch_cache) (quiet_look addr len a.data_cache)
  quiet_touch (StoreData addr len value) = with_caches a.fetch_cache (updated addr len a.data_cache) (quiet_same a.fetch_cache) (quiet_store addr len a.data_cache)
  quiet_touch FlushCaches = with_caches (flushed a.fetch_cache) (flushed a.data_cache) (quiet_flush a.fetch_cache) (quiet_flush a.data_cache)
  quiet_touch (SnoopData addr) = with_caches a.fetch_cache (snooped a.data_cache addr) (quiet_same a.fetch_cache) (quiet_snoop addr a.data_cache)
  quiet_touch (FillFetch addr valid) = with_caches (filled addr valid a.fetch_cache) a.data_cache (quiet_fill addr valid a.fetch_cache) (quiet_same a.data_cache)
  quiet_touch (FillData addr valid) = with_caches a.fetch_cache (filled addr valid a.data_cache) (quiet_same a.fetch_cache) (quiet_fill addr valid a.data_cache)

-- touches of an instruction or a turn
pub quiet_touches : (ts : List Touch) (a : CourseArrays) → QuietArrays a (fold (touched []) a ts)
quiet_touches [] a = with_caches a a.fetch_cache a.data_cache (quiet_same a.fetch_cache) (quiet_same a.data_cache)
quiet_touches (t ∷ ts) a = quiet_arrays_then a (touched [] a t) (fold (touched []) (touched [] a t) ts) (quiet_touch a t) (quiet_touches ts (touched [] a t))
