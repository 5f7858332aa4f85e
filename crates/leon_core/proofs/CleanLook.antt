-- A look-up leaves no struck tag byte in its set. Where it misses, its cause is one of a fill.
use Rattle.std.proofs.Common.{◌≡◌, ◌∙◌, ◌+◌, ◌*◌, ◌/◌, ◌%◌, ◌<◌, ℕ, zero, suc, Bool, true, false, ◌==◌, ◌||◌, not, Option, Some, None, map, if◌then◌else◌, refl, sym, ap, subst, arith, inl, inr}
use Rattle.std.proofs.lemmas.Bool.{cases_Bool, eq-eqb}
use Rattle.std.specs.List.{list_any, range_with_len}
use Rattle.lf_model.proofs.CheckLemmas.{check_slot, check_all, check_shape}
use Rattle.lf_model.specs.Caches.Cache.{Cache, slot_at, set_of, matching}
use Rattle.lf_model.specs.Caches.Look.{Checked, checked, LookUp, Looked, look_in, look_by, look}
use Rattle.lf_model.specs.Caches.Look.LookUp.{Hit, Miss}
use Rattle.lf_model.specs.Caches.Slot.{Slot, empty_slot, has_struck_tag, has_struck_byte, has_wanted_words, dropped_by_tag, dropped_by_byte, checked_byte, line_of}
use Rattle.lf_model.specs.Names.{same_why}
use Rattle.lf_model.specs.Promise.RegularTransfer.{causes_of_fill}
use Rattle.lf_model.specs.declared.bus.Why.{Why}
use Rattle.lf_model.specs.declared.bus.Why.TheVariants as whys
use Rattle.lf_model.specs.declared.config.Shape.{Shape}
use Rattle.parity_cache.proofs.LessResident.{each_with}
use Rattle.parity_cache.proofs.SetLemmas.{written_tag}
use Rattle.parity_cache.specs.CacheState.{IsCleanSet}

-- ---- the check

none_struck : has_struck_tag empty_slot ≡ false
none_struck = refl

dropped_clean : (s : Slot) → has_struck_tag (dropped_by_tag s) ≡ false
dropped_clean s = written_tag (map checked_byte s.tag_histories)

one_of : (first n w : ℕ) → w < n → list_any (λ j. j == first + w) (range_with_len first n) ≡ true
one_of first zero w lt = absurd (omega (arith, lt))
one_of first (suc n) zero lt = let same : first ≡ first + 0 = omega arith in rw (eq-eqb first (first + 0) same) refl
one_of first (suc n) (suc w) lt =
    let later : list_any (λ j. j == first + 1 + w) (range_with_len (first + 1) n) ≡ true = one_of (first + 1) n w (omega (arith, lt)) in
    let same : first + 1 + w ≡ first + suc w = omega arith in
    either (first == first + suc w) (list_any (λ j. j == first + suc w) (range_with_len (first + 1) n)) (subst (λ m. list_any (λ j. j == m) (range_with_len (first + 1) n) ≡ true) same later)
  where
    either : (a b : Bool) → b ≡ true → (a || b) ≡ true
    either true b is = refl
    either false b is = is

slot_clean : (s : Slot) → has_struck_tag (check_slot has_struck_tag dropped_by_tag none_struck dropped_clean true s) ≡ false
slot_clean s = elim (cases_Bool (has_struck_tag s)) [
  | inl struck ↦ rw struck (dropped_clean s)
  | inr clean ↦ rw clean clean
]

shape_checked : (addr : ℕ) (c : Cache) → (checked addr c).cache.shape ≡ c.shape
shape_checked addr c = (check_shape has_struck_tag dropped_by_tag none_struck dropped_clean (set_of addr c) (record { dropped = false; cache = c })).0

clean_checked : (addr : ℕ) (c : Cache) → IsCleanSet addr (checked addr c).cache
clean_checked addr c way lt =
    let fits : way < c.shape.ways = subst (λ (shape : Shape). way < shape.ways) (shape_checked addr c) lt in
    let first = addr / 32 % c.shape.sets * c.shape.ways in
    subst (λ (shape : Shape). has_struck_tag (slot_at (addr / 32 % shape.sets * shape.ways + way) (checked addr c).cache) ≡ false) (sym (shape_checked addr c))
    (ap has_struck_tag
    (check_all has_struck_tag dropped_by_tag none_struck dropped_clean (set_of addr c) (first + way) (record { dropped = false; cache = c })
    ∙ ap (λ (of_set : Bool). check_slot has_struck_tag dropped_by_tag none_struck dropped_clean of_set (slot_at (first + way) c)) (one_of first c.shape.ways way fits))
    ∙ slot_clean (slot_at (first + way) c))

-- ---- the look-up

-- a cache of the same shape, of which each slot without a struck tag byte stays so
record Stays (old new : Cache) : Type 0 where
  shape : new.shape ≡ old.shape
  clean : (i : ℕ) → has_struck_tag (slot_at i old) ≡ false → has_struck_tag (slot_at i new) ≡ false

in_stays : (addr len i : ℕ) (c : Cache) → Stays c (look_in addr len i c).cache
in_stays addr len i c = elim (cases_Bool (has_wanted_words addr len (slot_at i c))) [
  | inl some ↦ elim (cases_Bool (has_struck_byte addr len (slot_at i c))) [
    | inl is_struck ↦ rw (some, is_struck) (record {
      shape = refl;
      clean = λ j. each_with (λ (a b : Slot). has_struck_tag a ≡ false → has_struck_tag b ≡ false) (λ s e. e) (dropped_by_byte addr len) i c (λ e. written_tag (slot_at i c).tag_histories) j;
    })
    | inr good ↦ rw (some, good) (record {
      shape = refl;
      clean = λ j. each_with (λ (a b : Slot). has_struck_tag a ≡ false → has_struck_tag b ≡ false) (λ s e. e) (λ slot. record slot { used = c.uses + 1 }) i c (λ e. e) j;
    })
  ]
  | inr lacks ↦ rw lacks (record { shape = refl; clean = λ j e. e })
]

by_stays : (addr len : ℕ) (k : Checked) (found : Option ℕ) → Stays k.cache (look_by addr len k found).cache
by_stays addr len k None = record { shape = refl; clean = λ i e. e }
by_stays addr len k (Some i) = in_stays addr len i k.cache

pub clean_looked : (addr len : ℕ) (c : Cache) → IsCleanSet addr (look addr len c).cache
unfolding look
clean_looked addr len c way lt =
    let k = checked addr c in
    let stays = by_stays addr len k (matching addr k.cache) in
    let fits : way < k.cache.shape.ways = subst (λ (shape : Shape). way < shape.ways) stays.shape lt in
    subst (λ (shape : Shape). has_struck_tag (slot_at (addr / 32 % shape.sets * shape.ways + way) (look_by addr len k (matching addr k.cache)).cache) ≡ false) (sym stays.shape)
    (stays.clean (addr / 32 % k.cache.shape.sets * k.cache.shape.ways + way) (clean_checked addr c way fits))

-- a set is that of its line
pub clean_line : (addr : ℕ) (c : Cache) → IsCleanSet addr c → IsCleanSet (line_of addr) c
clean_line addr c clean = let same : line_of addr / 32 ≡ addr / 32 = omega arith in rw same clean

-- ---- its cause

-- a cause of a fill
abbrev pub IsFillCause : Why → Type 0
IsFillCause why = list_any (same_why why) causes_of_fill ≡ true

abbrev CausesFill : LookUp → Type 0
CausesFill (Hit slot) = Unit {0}
CausesFill (Miss why) = IsFillCause why

absent : (dropped : Bool) → IsFillCause (if dropped then whys.Tag else whys.Absent)
absent true = refl
absent false = refl

pick : (words struck : Bool) (x y z : Looked) → CausesFill x.answer → CausesFill y.answer → CausesFill z.answer → CausesFill (if not words then x else if struck then y else z).answer
pick false struck x y z hx hy hz = hx
pick true true x y z hx hy hz = hy
pick true false x y z hx hy hz = hz

causes_by : (addr len : ℕ) (k : Checked) (found : Option ℕ) → CausesFill (look_by addr len k found).answer
causes_by addr len k None = absent k.dropped
causes_by addr len k (Some i) = pick (has_wanted_words addr len (slot_at i k.cache)) (has_struck_byte addr len (slot_at i k.cache)) _ _ _ refl refl tt

pub causes_fill : (addr len : ℕ) (c : Cache) (why : Why) → (look addr len c).answer ≡ Miss why → IsFillCause why
unfolding look
causes_fill addr len c why is = let k = checked addr c in subst CausesFill is (causes_by addr len k (matching addr k.cache))
