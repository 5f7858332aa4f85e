-- Where lines are dropped and bytes are struck, no byte becomes resident.
use Rattle.std.proofs.Common.{◌≡◌, ◌≢◌, ℕ, zero, suc, ◌+◌, ◌*◌, ◌/◌, ◌%◌, ◌<◌, ◌≤◌, ◌||◌, nat_lt, not, Bool, true, false, cond, List, [], ◌∷◌, map, length, Contains, Option, Some, None, refl, sym, ap, ◌∙◌, subst, arith, inl, inr}
use Rattle.std.specs.Prelude.{fold}
use Rattle.std.specs.List.{list_any, range_with_len}
use Rattle.std.proofs.lemmas.Bool.{cases_eq, cases_lt}
use Rattle.std.proofs.lemmas.List.{get_or-set_same, get_or-set_other, get_or_past, get_or-map, length-map, length-set}
use Rattle.lf_model.proofs.CheckLemmas.{slot_same, slot_other, slot_past}
use Rattle.lf_model.proofs.ResidenceLaw.{has_tag}
use Rattle.lf_model.specs.Caches.Cache.{Cache, slot_at, with_slot, set_of, matching, used, raised}
use Rattle.lf_model.specs.Caches.Change.{drop_by, snooped, flushed}
use Rattle.lf_model.specs.Caches.Look.{Checked, Looked, check_way, checked, look_in, look_by, look}
use Rattle.lf_model.specs.Caches.Look.LookUp.{Hit as Hits, Miss as Misses}
use Rattle.lf_model.specs.Caches.Slot.{Slot, empty_slot, empty_tag, history_at, befalls, holds, is_valid_word, has_struck_tag, has_wanted_words, has_struck_byte, dropped, dropped_by_tag, dropped_by_byte}
use Rattle.lf_model.specs.Course.Arrays.{struck_by, struck_tag, struck_line}
use Rattle.lf_model.specs.Flips.{Moment, Standing, byte_budget, standing, struck, is_struck_byte}
use Rattle.lf_model.specs.declared.bus.Why.TheVariants as whys
use Rattle.lf_model.specs.declared.config.Shape.{Shape}
use Rattle.parity_cache.specs.CacheState.{CacheState, with_cache}
use Rattle.parity_cache.specs.Resident.{IsResident, Holds, IsApart, IsWellFormed}
use Rattle.parity_cache.proofs.SetPlaces.{InSet, matches, none_holds, same_holds, same_set_of, set_within, are_sets}

-- ---- slots

-- in a slot of the right set, the byte at an address is resident
pub record Resides (s : Slot) (addr : ℕ) : Type 0 where
  pub held : holds addr s ≡ true
  pub valid : is_valid_word s (addr / 4 % 8) ≡ true
  pub tag_good : has_struck_tag s ≡ false
  pub byte_good : is_struck_byte (history_at (addr % 32) s.line_histories) ≡ false

pub resides : (c : CacheState) (slot addr : ℕ) → IsResident c slot addr → Resides (slot_at slot c.cache) addr
resides c slot addr is = record { held = is.held; valid = is.valid; tag_good = is.tag_good; byte_good = is.byte_good }

pub is_resident : (c : CacheState) (slot addr : ℕ) → InSet c.cache addr slot → Resides (slot_at slot c.cache) addr → IsResident c slot addr
is_resident c slot addr of_set is = record { of_set = of_set; held = is.held; valid = is.valid; tag_good = is.tag_good; byte_good = is.byte_good }

-- what the second slot holds, and what is resident in it, the first one has
pub record IsSlotLess (old new : Slot) : Type 0 where
  pub held : (addr : ℕ) → holds addr new ≡ true → holds addr old ≡ true
  pub good : (addr : ℕ) → Resides new addr → Resides old addr

slot_as : (s : Slot) → IsSlotLess s s
slot_as s = record { held = λ addr is. is; good = λ addr is. is }

-- a slot whose line was dropped
gone : (old new : Slot) → new.tag ≡ empty_tag → IsSlotLess old new
gone old new empty = record { held = λ addr is. absurd (none addr is); good = λ addr is. absurd (none addr is.held) }
  where
    nothing : false ≡ true → ⊥
    nothing e = cc

    none : (addr : ℕ) → holds addr new ≡ true → ⊥
    none addr is = nothing (sym (ap (has_tag addr) empty) ∙ is)

-- a slot that is used
when_used : (n : ℕ) (s : Slot) → IsSlotLess s (record s { used = n })
when_used n s = record { held = λ addr is. is; good = λ addr is. record { held = is.held; valid = is.valid; tag_good = is.tag_good; byte_good = is.byte_good } }

-- ---- caches

pub record IsLess (old new : Cache) : Type 0 where
  pub shape : new.shape ≡ old.shape
  pub slots : length new.slots ≡ length old.slots
  pub each : (i : ℕ) → IsSlotLess (slot_at i old) (slot_at i new)

pub less_as : (c : Cache) → IsLess c c
less_as c = record { shape = refl; slots = refl; each = λ i. slot_as (slot_at i c) }

pub less_then : (a b c : Cache) → IsLess a b → IsLess b c → IsLess a c
less_then a b c first second = record {
  shape = second.shape ∙ first.shape;
  slots = second.slots ∙ first.slots;
  each = λ i. record { held = λ addr is. (first.each i).held addr ((second.each i).held addr is); good = λ addr is. (first.each i).good addr ((second.each i).good addr is) };
}

-- one slot changes, within the cache or not
pub each_with : (P : Slot → Slot → Type 0) → ((s : Slot) → P s s) → (change : Slot → Slot) (i : ℕ) (c : Cache) → P (slot_at i c) (change (slot_at i c)) → (j : ℕ) → P (slot_at j c) (slot_at j (with_slot change i c))
each_with P same change i c here j = elim (cases_eq j i) [
  | inl is ↦ subst (λ (k : ℕ). P (slot_at k c) (slot_at k (with_slot change i c))) (sym is) (elim (cases_lt i (length c.slots)) [
    | inl within ↦ subst (λ (s : Slot). P (slot_at i c) s) (sym (slot_same change i c within)) here
    | inr past ↦ subst (λ (s : Slot). P (slot_at i c) s) (slot_past i c past ∙ sym (slot_past i (with_slot change i c) (subst (λ (n : ℕ). n ≤ i) (sym (length-set c.slots i (change (slot_at i c)))) past))) (same (slot_at i c))
  ])
  | inr other ↦ subst (λ (s : Slot). P (slot_at j c) s) (sym (slot_other change i j c other)) (same (slot_at j c))
]

pub less_with : (change : Slot → Slot) (i : ℕ) (c : Cache) → IsSlotLess (slot_at i c) (change (slot_at i c)) → IsLess c (with_slot change i c)
less_with change i c less = record { shape = refl; slots = length-set c.slots i (change (slot_at i c)); each = each_with IsSlotLess slot_as change i c less }

-- counters do not matter
counted : (old new : Cache) (uses tag_errors byte_errors : ℕ) → IsLess old new → IsLess old (record new { uses = uses; tag_errors = tag_errors; byte_errors = byte_errors })
counted old new uses tag_errors byte_errors less = record { shape = less.shape; slots = less.slots; each = less.each }

pub less_used : (i : ℕ) (c : Cache) → IsLess c (used i c)
less_used i c = let next : Cache = with_slot (λ slot. record slot { used = c.uses + 1 }) i c in
    counted c (with_slot (λ slot. record slot { used = c.uses + 1 }) i c) (c.uses + 1) c.tag_errors c.byte_errors (less_with (λ slot. record slot { used = c.uses + 1 }) i c (when_used (c.uses + 1) (slot_at i c)))

-- ---- the tag check, and a look-up

less_way : (k : Checked) (i : ℕ) → IsLess k.cache (check_way k i).cache
less_way k i = go (has_struck_tag (slot_at i k.cache))
  where
    go : (b : Bool) → IsLess k.cache (cond {A = Checked} b (record { dropped = true; cache = record (with_slot dropped_by_tag i k.cache) { tag_errors = raised k.cache.tag_errors } }) k).cache
    go true = counted k.cache (with_slot dropped_by_tag i k.cache) k.cache.uses (raised k.cache.tag_errors) k.cache.byte_errors
        (less_with dropped_by_tag i k.cache (gone (slot_at i k.cache) (dropped_by_tag (slot_at i k.cache)) refl))
    go false = less_as k.cache

less_ways : (ws : List ℕ) (k : Checked) → IsLess k.cache (fold check_way k ws).cache
less_ways [] k = less_as k.cache
less_ways (w ∷ ws) k = less_then k.cache (check_way k w).cache (fold check_way (check_way k w) ws).cache (less_way k w) (less_ways ws (check_way k w))

pub less_checked : (addr : ℕ) (c : Cache) → IsLess c (checked addr c).cache
less_checked addr c = less_ways (set_of addr c) (record { dropped = false; cache = c })

less_in : (addr len i : ℕ) (c : Cache) → IsLess c (look_in addr len i c).cache
less_in addr len i c = go (not (has_wanted_words addr len (slot_at i c))) (has_struck_byte addr len (slot_at i c))
  where
    go : (invalid bad : Bool) → IsLess c (cond {A = Looked} invalid (record { answer = Misses whys.Word; cache = c })
        (cond bad (record { answer = Misses whys.Byte; cache = record (with_slot (dropped_by_byte addr len) i c) { byte_errors = raised c.byte_errors } })
        (record { answer = Hits i; cache = used i c }))).cache
    go true bad = less_as c
    go false true = counted c (with_slot (dropped_by_byte addr len) i c) c.uses c.tag_errors (raised c.byte_errors) (less_with (dropped_by_byte addr len) i c (gone (slot_at i c) (dropped_by_byte addr len (slot_at i c)) refl))
    go false false = less_used i c

less_by : (addr len : ℕ) (k : Checked) (found : Option ℕ) → IsLess k.cache (look_by addr len k found).cache
less_by addr len k None = less_as k.cache
less_by addr len k (Some i) = less_in addr len i k.cache

pub less_look : (addr len : ℕ) (c : Cache) → IsLess c (look addr len c).cache
unfolding look
less_look addr len c = less_then c (checked addr c).cache (look_by addr len (checked addr c) (matching addr (checked addr c).cache)).cache
    (less_checked addr c) (less_by addr len (checked addr c) (matching addr (checked addr c).cache))

-- ---- a snoop, and FLUSH

less_drop : (c : Cache) (found : Option ℕ) → IsLess c (drop_by c found)
less_drop c None = less_as c
less_drop c (Some i) = less_with dropped i c (gone (slot_at i c) (dropped (slot_at i c)) refl)

pub less_snooped : (addr : ℕ) (c : Cache) → IsLess c (snooped c addr)
unfolding snooped
less_snooped addr c = less_then c (checked addr c).cache (drop_by (checked addr c).cache (matching addr (checked addr c).cache))
    (less_checked addr c) (less_drop (checked addr c).cache (matching addr (checked addr c).cache))

pub less_flushed : (c : Cache) → IsLess c (flushed c)
unfolding flushed
less_flushed c = record { shape = refl; slots = length-map c.slots dropped; each = each }
  where
    each : (i : ℕ) → IsSlotLess (slot_at i c) (slot_at i (record c { slots = map dropped c.slots }))
    each i = elim (cases_lt i (length c.slots)) [
      | inl within ↦ subst (λ (s : Slot). IsSlotLess (slot_at i c) s) (sym (get_or-map dropped c.slots i empty_slot empty_slot within)) (gone (slot_at i c) (dropped (slot_at i c)) refl)
      | inr past ↦ subst (λ (s : Slot). IsSlotLess (slot_at i c) s)
          (slot_past i c past ∙ sym (get_or_past (map dropped c.slots) i empty_slot (subst (λ (n : ℕ). n ≤ i) (sym (length-map c.slots dropped)) past))) (slot_as (slot_at i c))
    ]

-- ---- flips

-- a byte that a flip came to is struck
struck_now : (number bit : ℕ) (flips : List Standing) → nat_lt 0 (length (struck byte_budget number bit flips)) ≡ true
struck_now number bit [] = refl
struck_now number bit (flip ∷ flips) = go (nat_lt (length (flip ∷ flips)) byte_budget)
  where
    some : (n : ℕ) → nat_lt 0 (suc n) ≡ true
    some n = grind arith

    go : (b : Bool) → nat_lt 0 (length (cond b (record { number = number; bit = bit } ∷ flip ∷ flips) (flip ∷ flips))) ≡ true
    go true = some (length (flip ∷ flips))
    go false = some (length flips)

strikes : (number bit : ℕ) (h : List Moment) → is_struck_byte (struck_by number bit h) ≡ true
strikes number bit h = struck_now number bit (standing byte_budget h)

no_flip : (number bit : ℕ) (h : List Moment) → is_struck_byte (struck_by number bit h) ≡ false → ⊥
no_flip number bit h good = let e = sym (strikes number bit h) ∙ good in absurd cc

-- a byte that is not struck was not before
good_before : (number bit place i : ℕ) (hs : List (List Moment)) → is_struck_byte (history_at i (befalls (struck_by number bit) place hs)) ≡ false → is_struck_byte (history_at i hs) ≡ false
good_before number bit place i hs good = elim (cases_eq i place) [
  | inl here ↦ elim (cases_lt place (length hs)) [
    | inl within ↦ absurd (no_flip number bit (history_at place hs)
        (ap is_struck_byte (sym (get_or-set_same hs place (struck_by number bit (history_at place hs)) [] within)) ∙ subst (λ (k : ℕ). is_struck_byte (history_at k (befalls (struck_by number bit) place hs)) ≡ false) here good))
    | inr past ↦ ap is_struck_byte (get_or_past hs i [] (subst (λ (k : ℕ). length hs ≤ k) (sym here) past))
  ]
  | inr other ↦ ap is_struck_byte (sym (get_or-set_other hs place i (struck_by number bit (history_at place hs)) [] other)) ∙ good
]

tag_before : (number bit place : ℕ) (hs : List (List Moment)) → list_any is_struck_byte (befalls (struck_by number bit) place hs) ≡ false → list_any is_struck_byte hs ≡ false
tag_before number bit place [] good = good
tag_before number bit zero (h ∷ hs) good = absurd (one (is_struck_byte (struck_by number bit h)) (list_any is_struck_byte hs) (strikes number bit h) good)
  where
    one : (a b : Bool) → a ≡ true → (a || b) ≡ false → ⊥
    one true b e none = absurd cc
    one false b e none = absurd cc
tag_before number bit (suc place) (h ∷ hs) good = keep (is_struck_byte h) (list_any is_struck_byte (befalls (struck_by number bit) place hs)) (list_any is_struck_byte hs) good (tag_before number bit place hs)
  where
    keep : (a b c : Bool) → (a || b) ≡ false → (b ≡ false → c ≡ false) → (a || c) ≡ false
    keep true b c e later = e
    keep false b c e later = later e

pub less_struck_tag : (number bit way set byte : ℕ) (c : Cache) → IsLess c (struck_tag number bit way set byte c)
less_struck_tag number bit way set byte c =
    let i : ℕ = set * c.shape.ways + way in
    less_with (λ slot. record slot { tag_histories = befalls (struck_by number bit) byte slot.tag_histories }) (set * c.shape.ways + way) c (record {
      held = λ addr is. is;
      good = λ addr is. record { held = is.held; valid = is.valid; tag_good = tag_before number bit byte (slot_at (set * c.shape.ways + way) c).tag_histories is.tag_good; byte_good = is.byte_good };
    })

pub less_struck_line : (number bit way set byte : ℕ) (c : Cache) → IsLess c (struck_line number bit way set byte c)
less_struck_line number bit way set byte c =
    less_with (λ slot. record slot { line_histories = befalls (struck_by number bit) byte slot.line_histories }) (set * c.shape.ways + way) c (record {
      held = λ addr is. is;
      good = λ addr is. record { held = is.held; valid = is.valid; tag_good = is.tag_good; byte_good = good_before number bit byte (addr % 32) (slot_at (set * c.shape.ways + way) c).line_histories is.byte_good };
    })

-- ---- what it leaves of the bytes of a cache

-- the sets of two caches of one shape
pub set_as : (old new : Cache) (addr i : ℕ) → new.shape ≡ old.shape → InSet new addr i → InSet old addr i
set_as old new addr i shape of_set = subst (λ (s : Shape). Contains (range_with_len (addr / 32 % s.sets * s.ways) s.ways) i) shape of_set

pub apart_less : (old new : Cache) → new.shape ≡ old.shape → ((i addr : ℕ) → holds addr (slot_at i new) ≡ true → holds addr (slot_at i old) ≡ true) → IsApart old → IsApart new
apart_less old new shape held apart addr i j of_i of_j at_i at_j =
    apart addr i j (in_old i of_i) (in_old j of_j) (held i addr at_i) (held j addr at_j)
  where
    in_old : (i : ℕ) → InSet new addr i → InSet old addr i
    in_old i of_set = set_as old new addr i shape of_set

module _ (c : CacheState) (cache : Cache) (less : IsLess c.cache cache) where
  pub formed_less : IsWellFormed c → IsWellFormed (with_cache cache c)
  formed_less is = record {
    shape = rw less.shape is.shape;
    slots = less.slots ∙ is.slots ∙ sym (ap (λ (s : Shape). s.ways * s.sets) less.shape);
    lines = is.lines ∙ sym less.slots;
    bytes = is.bytes;
    apart = apart_less c.cache cache less.shape (λ i. (less.each i).held) is.apart;
  }

  pub resident_less : (slot addr : ℕ) → IsResident (with_cache cache c) slot addr → IsResident c slot addr
  resident_less slot addr is = is_resident c slot addr
      (set_as c.cache cache addr slot less.shape is.of_set)
      ((less.each slot).good addr (resides (with_cache cache c) slot addr is))

  -- the bytes on which two memories agree, where nothing else stays resident
  pub holds_less : (old new : ℕ → ℕ) → Holds old c → ((slot addr : ℕ) → addr < 4294967296 → IsResident (with_cache cache c) slot addr → new addr ≡ old addr) → Holds new (with_cache cache c)
  holds_less old new held same slot addr lt is = held slot addr lt (resident_less slot addr is) ∙ sym (same slot addr lt is)

-- ---- after a snoop, no byte of the line is resident

drop_none : (c : Cache) (found : Option ℕ) (addr a i : ℕ) → found ≡ matching addr c → IsApart c → 1 ≤ c.shape.sets → length c.slots ≡ c.shape.ways * c.shape.sets
    → a / 32 ≡ addr / 32 → InSet c a i → holds a (slot_at i (drop_by c found)) ≡ true → ⊥
drop_none c None addr a i found apart some all line of_set is = none_holds c addr i (sym found) (subst (λ (ws : List ℕ). Contains ws i) (same_set_of c a addr line) of_set) (sym (same_holds a addr (slot_at i c) line) ∙ is)
drop_none c (Some k) addr a i found apart some all line of_set is =
    let m = matches c addr k (sym found) in
    let of_addr : InSet c addr i = subst (λ (ws : List ℕ). Contains ws i) (same_set_of c a addr line) of_set in
    elim (cases_eq i k) [
      | inl here ↦
          let within = set_within c addr k m.of_set some all in
          nothing (sym (ap (holds a) (slot_same dropped k c within)) ∙ subst (λ (j : ℕ). holds a (slot_at j (with_slot dropped k c)) ≡ true) here is)
      | inr other ↦ other (apart addr i k of_addr m.of_set (sym (same_holds a addr (slot_at i c) line) ∙ (sym (ap (holds a) (slot_other dropped k i c other)) ∙ is)) m.held)
    ]
  where
    nothing : false ≡ true → ⊥
    nothing e = cc

module _ (c : CacheState) (addr : ℕ) (formed : IsWellFormed c) where
  pub snooped_none : (slot a : ℕ) → a / 32 ≡ addr / 32 → IsResident (with_cache (snooped c.cache addr) c) slot a → ⊥
  unfolding snooped
  snooped_none slot a line is =
      let k : Cache = (checked addr c.cache).cache in
      let still = formed_less c (checked addr c.cache).cache (less_checked addr c.cache) formed in
      let found : Option ℕ = matching addr (checked addr c.cache).cache in
      drop_none k found addr a slot refl still.apart (are_sets (checked addr c.cache).cache.shape.sets still.shape.sets).some still.slots line
      (set_as k (drop_by k found) a slot (less_drop (checked addr c.cache).cache (matching addr (checked addr c.cache).cache)).shape is.of_set) is.held

  -- so two memories may differ on it
  pub holds_snooped : (old new : ℕ → ℕ) → Holds old c → ((a : ℕ) → a / 32 ≢ addr / 32 → new a ≡ old a) → Holds new (with_cache (snooped c.cache addr) c)
  holds_snooped old new held same = holds_less c (snooped c.cache addr) (less_snooped addr c.cache) old new held
      (λ slot a lt is. elim (cases_eq (a / 32) (addr / 32)) [
        | inl line ↦ absurd (snooped_none slot a line is)
        | inr other ↦ same a other
      ])

  pub formed_snooped : IsWellFormed (with_cache (snooped c.cache addr) c)
  formed_snooped = formed_less c (snooped c.cache addr) (less_snooped addr c.cache) formed
