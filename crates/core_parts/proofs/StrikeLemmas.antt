-- What a flip makes of the arrays of a core: it strikes its own unit, and no other.
use Rattle.std.proofs.Common.{◌≡◌, ℕ, zero, suc, ◌+◌, ◌*◌, ◌/◌, ◌<◌, Bool, true, false, ◌||◌, nat_eq, List, [], ◌∷◌, length, slice_set, slice_index_or, refl, sym, ap, ◌∙◌, subst, ◌⊎◌, inl, inr, ⊎_elim, arith}
use Rattle.std.specs.Prelude.{fold}
use Rattle.std.proofs.lemmas.Bool.{cases_Bool, eqb-true}
use Rattle.std.proofs.lemmas.List.{length-set}
use Rattle.std.proofs.lemmas.Nat.{div-mul-add}
use Rattle.core_parts.specs.Strikes.{unit_at, IsOfArrays, history_of, struck_in, with_strike}
use Rattle.flip_ledger.specs.Follows.{has_struck}
use Rattle.flip_ledger.specs.declared.plan.Strike.{Strike}
use Rattle.flip_ledger.specs.declared.plan.Target.{Target}
use Rattle.flip_ledger.specs.declared.plan.Target.TheVariants.{Word, Register, Tag, Line}
use Rattle.lf_model.specs.Caches.Cache.{Cache, slot_at}
use Rattle.lf_model.specs.Caches.Slot.{Slot, empty_slot, history_at, befalls}
use Rattle.lf_model.specs.Course.Arrays.{struck_by, with_cache}
use Rattle.lf_model.specs.Course.Arrays.{Arrays as CourseArrays}
use Rattle.lf_model.specs.Flips.{Moment}
use Rattle.lf_model.specs.Ledger.FlipFate.{cache_in}
use Rattle.parity_cache.specs.CacheUnits.{IsUnit, history_of_unit, struck_at}
use Rattle.parity_cache.specs.declared.unit.Unit.{Unit as CacheUnit}

-- ---- one element of a list is replaced

-- what holds of an element then held before, or the element is the one replaced
pub changed : {X : Type 0} (P : X → Type 0) (change : X → X) (xs : List X) (i j : ℕ) (e : X)
    → P (slice_index_or (slice_set xs i (change (slice_index_or xs i e))) j e) → P (slice_index_or xs j e) ⊎ ((i ≡ j) × P (change (slice_index_or xs j e)))
changed P change [] i j e p = inl p
changed P change (x ∷ xs) zero zero e p = inr (refl, p)
changed P change (x ∷ xs) zero (suc j) e p = inl p
changed P change (x ∷ xs) (suc i) zero e p = inl p
changed P change (x ∷ xs) (suc i) (suc j) e p = ⊎_elim (λ old. inl old) (λ it. inr (ap suc it.0, it.1)) (changed P change xs i j e p)

-- ---- one unit

module _ (k number bit : ℕ) where
  -- flip number k struck a unit that flip `number` strikes
  struck_now : (h : List Moment) → has_struck k (struck_by number bit h) ≡ true → (has_struck k h ≡ true) ⊎ (number ≡ k)
  struck_now h struck = elim (cases_Bool (nat_eq number k)) [
    | inl same ↦ inr (eqb-true number k same)
    | inr other ↦ inl (sym (ap (λ (b : Bool). b || has_struck k h) other) ∙ struck)
  ]

  in_histories : (i j : ℕ) (hs : List (List Moment)) → has_struck k (history_at j (befalls (struck_by number bit) i hs)) ≡ true
      → (has_struck k (history_at j hs) ≡ true) ⊎ ((number ≡ k) × (i ≡ j))
  in_histories i j hs struck =
      ⊎_elim (λ old. inl old) (λ it. ⊎_elim (λ old. inl old) (λ same. inr (same, it.0)) (struck_now (history_at j hs) it.1))
      (changed (λ (h : List Moment). has_struck k h ≡ true) (struck_by number bit) hs i j [] struck)

  -- ---- in a slot of a cache

  in_tags : (i j a b : ℕ) (c : Cache)
      → has_struck k (history_at b (slice_index_or (slice_set c.slots i (record (slot_at i c) { tag_histories = befalls (struck_by number bit) a (slot_at i c).tag_histories })) j empty_slot).tag_histories) ≡ true
      → (has_struck k (history_at b (slot_at j c).tag_histories) ≡ true) ⊎ ((number ≡ k) × ((i ≡ j) × (a ≡ b)))
  in_tags i j a b c struck =
      ⊎_elim (λ old. inl old) (λ it. ⊎_elim (λ old. inl old) (λ same. inr (same.0, (it.0, same.1))) (in_histories a b (slot_at j c).tag_histories it.1))
      (changed (λ (s : Slot). has_struck k (history_at b s.tag_histories) ≡ true) (λ (s : Slot). record s { tag_histories = befalls (struck_by number bit) a s.tag_histories })
      c.slots i j empty_slot struck)

  in_lines : (i j a b : ℕ) (c : Cache)
      → has_struck k (history_at b (slice_index_or (slice_set c.slots i (record (slot_at i c) { line_histories = befalls (struck_by number bit) a (slot_at i c).line_histories })) j empty_slot).line_histories) ≡ true
      → (has_struck k (history_at b (slot_at j c).line_histories) ≡ true) ⊎ ((number ≡ k) × ((i ≡ j) × (a ≡ b)))
  in_lines i j a b c struck =
      ⊎_elim (λ old. inl old) (λ it. ⊎_elim (λ old. inl old) (λ same. inr (same.0, (it.0, same.1))) (in_histories a b (slot_at j c).line_histories it.1))
      (changed (λ (s : Slot). has_struck k (history_at b s.line_histories) ≡ true) (λ (s : Slot). record s { line_histories = befalls (struck_by number bit) a s.line_histories })
      c.slots i j empty_slot struck)

  lines_same : (i j a b : ℕ) (c : Cache)
      → has_struck k (history_at b (slice_index_or (slice_set c.slots i (record (slot_at i c) { tag_histories = befalls (struck_by number bit) a (slot_at i c).tag_histories })) j empty_slot).line_histories) ≡ true
      → has_struck k (history_at b (slot_at j c).line_histories) ≡ true
  lines_same i j a b c struck =
      ⊎_elim (λ old. old) (λ it. it.1)
      (changed (λ (s : Slot). has_struck k (history_at b s.line_histories) ≡ true) (λ (s : Slot). record s { tag_histories = befalls (struck_by number bit) a s.tag_histories })
      c.slots i j empty_slot struck)

  tags_same : (i j a b : ℕ) (c : Cache)
      → has_struck k (history_at b (slice_index_or (slice_set c.slots i (record (slot_at i c) { line_histories = befalls (struck_by number bit) a (slot_at i c).line_histories })) j empty_slot).tag_histories) ≡ true
      → has_struck k (history_at b (slot_at j c).tag_histories) ≡ true
  tags_same i j a b c struck =
      ⊎_elim (λ old. old) (λ it. it.1)
      (changed (λ (s : Slot). has_struck k (history_at b s.tag_histories) ≡ true) (λ (s : Slot). record s { line_histories = befalls (struck_by number bit) a s.line_histories })
      c.slots i j empty_slot struck)

-- a way of a set has a slot of its own
slot_same : (ways w s v t : ℕ) → w < ways → v < ways → s * ways + w ≡ t * ways + v → (w ≡ v) × (s ≡ t)
slot_same ways w s v t lt lt' e =
    let sets : s ≡ t = sym (div-mul-add s ways w lt) ∙ ap (λ (n : ℕ). n / ways) e ∙ div-mul-add t ways v lt' in
    let same : s * ways ≡ t * ways = ap (λ (n : ℕ). n * ways) sets in
    (omega (arith, e, same), sets)

-- ---- a unit of a cache

-- two units, by their parts
pub record SameUnit (tag tag' : Bool) (w s b w' s' b' : ℕ) : Type 0 where
  pub tags : tag ≡ tag'
  pub ways : w ≡ w'
  pub sets : s ≡ s'
  pub bytes : b ≡ b'

module _ (k number bit w s b w' s' b' : ℕ) (c : Cache) where
  by_slot : (tag : Bool) → w < c.shape.ways → w' < c.shape.ways → (number ≡ k) × ((s * c.shape.ways + w ≡ s' * c.shape.ways + w') × (b ≡ b'))
      → (number ≡ k) × SameUnit tag tag w s b w' s' b'
  by_slot tag lt lt' it =
      let same : (w ≡ w') × (s ≡ s') = slot_same c.shape.ways w s w' s' lt lt' it.1.0 in
      (it.0, record { tags = refl; ways = same.0; sets = same.1; bytes = it.1.1 })

  in_cache : (tag tag' : Bool) → w < c.shape.ways → w' < c.shape.ways
      → has_struck k (history_of_unit (unit_at tag' w' s' b') (struck_at number bit (unit_at tag w s b) c)) ≡ true
      → (has_struck k (history_of_unit (unit_at tag' w' s' b') c) ≡ true) ⊎ ((number ≡ k) × SameUnit tag tag' w s b w' s' b')
  in_cache true true lt lt' struck =
      ⊎_elim (λ old. inl old) (λ it. inr (by_slot true lt lt' it)) (in_tags k number bit (s * c.shape.ways + w) (s' * c.shape.ways + w') b b' c struck)
  in_cache false false lt lt' struck =
      ⊎_elim (λ old. inl old) (λ it. inr (by_slot false lt lt' it)) (in_lines k number bit (s * c.shape.ways + w) (s' * c.shape.ways + w') b b' c struck)
  in_cache true false lt lt' struck = inl (lines_same k number bit (s * c.shape.ways + w) (s' * c.shape.ways + w') b b' c struck)
  in_cache false true lt lt' struck = inl (tags_same k number bit (s * c.shape.ways + w) (s' * c.shape.ways + w') b b' c struck)

module _ (k number bit w s b w' s' b' : ℕ) (a : CourseArrays) where
  in_caches : (fetch fetch' tag tag' : Bool) → w < (cache_in fetch a).shape.ways → w' < (cache_in fetch' a).shape.ways
      → has_struck k (history_of_unit (unit_at tag' w' s' b') (cache_in fetch' (with_cache (struck_at number bit (unit_at tag w s b)) fetch a))) ≡ true
      → (has_struck k (history_of_unit (unit_at tag' w' s' b') (cache_in fetch' a)) ≡ true) ⊎ ((number ≡ k) × ((fetch ≡ fetch') × SameUnit tag tag' w s b w' s' b'))
  in_caches true true tag tag' lt lt' struck =
      ⊎_elim (λ old. inl old) (λ it. inr (it.0, (refl, it.1))) (in_cache k number bit w s b w' s' b' a.fetch_cache tag tag' lt lt' struck)
  in_caches false false tag tag' lt lt' struck =
      ⊎_elim (λ old. inl old) (λ it. inr (it.0, (refl, it.1))) (in_cache k number bit w s b w' s' b' a.data_cache tag tag' lt lt' struck)
  in_caches true false tag tag' lt lt' struck = inl struck
  in_caches false true tag tag' lt lt' struck = inl struck

-- ---- a unit of the arrays

tag_same : (f f' : Bool) (w s b w' s' b' : ℕ) → f ≡ f' → SameUnit true true w s b w' s' b' → Tag f w s b ≡ Tag f' w' s' b'
tag_same f f' w s b w' s' b' e u = let ways = u.ways in let sets = u.sets in let bytes = u.bytes in cc

line_same : (f f' : Bool) (w s b w' s' b' : ℕ) → f ≡ f' → SameUnit false false w s b w' s' b' → Line f w s b ≡ Line f' w' s' b'
line_same f f' w s b w' s' b' e u = let ways = u.ways in let sets = u.sets in let bytes = u.bytes in cc

cells_same : (fetch tag : Bool) (number bit w s b : ℕ) (a : CourseArrays) → (with_cache (struck_at number bit (unit_at tag w s b)) fetch a).cells ≡ a.cells
cells_same true tag number bit w s b a = refl
cells_same false tag number bit w s b a = refl

-- flip number k struck a unit once flip `number` struck: it did before, or it is this flip, and its unit
pub in_arrays : (k number bit : ℕ) (it other : Target) (a : CourseArrays) → IsOfArrays a it → IsOfArrays a other → has_struck k (history_of (struck_in number bit a it) other) ≡ true
    → (has_struck k (history_of a other) ≡ true) ⊎ ((number ≡ k) × (it ≡ other))
in_arrays k number bit (Word addr) other a of of' struck = absurd of
in_arrays k number bit (Register c) (Word addr) a of of' struck = absurd of'
in_arrays k number bit (Register c) (Register c') a of of' struck =
    ⊎_elim (λ old. inl old) (λ it. inr (it.0, ap Register it.1)) (in_histories k number bit c c' a.cells struck)
in_arrays k number bit (Register c) (Tag f' w' s' b') a of of' struck = inl struck
in_arrays k number bit (Register c) (Line f' w' s' b') a of of' struck = inl struck
in_arrays k number bit (Tag f w s b) (Word addr) a of of' struck = absurd of'
in_arrays k number bit (Tag f w s b) (Register c') a of of' struck =
    inl (subst (λ (cells : List (List Moment)). has_struck k (history_at c' cells) ≡ true) (cells_same f true number bit w s b a) struck)
in_arrays k number bit (Tag f w s b) (Tag f' w' s' b') a of of' struck =
    ⊎_elim (λ old. inl old) (λ it. inr (it.0, tag_same f f' w s b w' s' b' it.1.0 it.1.1)) (in_caches k number bit w s b w' s' b' a f f' true true of.way_fits of'.way_fits struck)
in_arrays k number bit (Tag f w s b) (Line f' w' s' b') a of of' struck =
    ⊎_elim (λ old. inl old) (λ it. let e : true ≡ false = it.1.1.tags in absurd (cc)) (in_caches k number bit w s b w' s' b' a f f' true false of.way_fits of'.way_fits struck)
in_arrays k number bit (Line f w s b) (Word addr) a of of' struck = absurd of'
in_arrays k number bit (Line f w s b) (Register c') a of of' struck =
    inl (subst (λ (cells : List (List Moment)). has_struck k (history_at c' cells) ≡ true) (cells_same f false number bit w s b a) struck)
in_arrays k number bit (Line f w s b) (Tag f' w' s' b') a of of' struck =
    ⊎_elim (λ old. inl old) (λ it. let e : false ≡ true = it.1.1.tags in absurd (cc)) (in_caches k number bit w s b w' s' b' a f f' false true of.way_fits of'.way_fits struck)
in_arrays k number bit (Line f w s b) (Line f' w' s' b') a of of' struck =
    ⊎_elim (λ old. inl old) (λ it. inr (it.0, line_same f f' w s b w' s' b' it.1.0 it.1.1)) (in_caches k number bit w s b w' s' b' a f f' false false of.way_fits of'.way_fits struck)

-- ---- the units stay

shape_in : (fetch fetch' tag : Bool) (number bit w s b : ℕ) (a : CourseArrays)
    → (cache_in fetch' (with_cache (struck_at number bit (unit_at tag w s b)) fetch a)).shape ≡ (cache_in fetch' a).shape
shape_in true true true number bit w s b a = refl
shape_in true true false number bit w s b a = refl
shape_in false false true number bit w s b a = refl
shape_in false false false number bit w s b a = refl
shape_in true false tag number bit w s b a = refl
shape_in false true tag number bit w s b a = refl

shape_one : (number bit : ℕ) (it : Target) (a : CourseArrays) (fetch : Bool) → (cache_in fetch (struck_in number bit a it)).shape ≡ (cache_in fetch a).shape
shape_one number bit (Word addr) a fetch = refl
shape_one number bit (Register c) a fetch = refl
shape_one number bit (Tag f w s b) a fetch = shape_in f fetch true number bit w s b a
shape_one number bit (Line f w s b) a fetch = shape_in f fetch false number bit w s b a

pub shapes : (run : List Strike) (a : CourseArrays) (fetch : Bool) → (cache_in fetch (fold with_strike a run)).shape ≡ (cache_in fetch a).shape
shapes [] a fetch = refl
shapes (s ∷ run) a fetch = shapes run (with_strike a s) fetch ∙ shape_one s.number s.bit s.target a fetch

unit_stays : (at : CacheUnit) (c c' : Cache) → c'.shape ≡ c.shape → IsUnit at c → IsUnit at c'
unit_stays at c c' e is = record { way_fits = rw e is.way_fits; set_fits = rw e is.set_fits; byte_fits = is.byte_fits }

pub units_stay : (a a' : CourseArrays) → ((fetch : Bool) → (cache_in fetch a').shape ≡ (cache_in fetch a).shape) → (it : Target) → IsOfArrays a it → IsOfArrays a' it
units_stay a a' same (Word addr) of = of
units_stay a a' same (Register c) of = of
units_stay a a' same (Tag f w s b) of = unit_stays (unit_at true w s b) (cache_in f a) (cache_in f a') (same f) of
units_stay a a' same (Line f w s b) of = unit_stays (unit_at false w s b) (cache_in f a) (cache_in f a') (same f) of

cells_one : (number bit : ℕ) (it : Target) (a : CourseArrays) → length (struck_in number bit a it).cells ≡ length a.cells
cells_one number bit (Word addr) a = refl
cells_one number bit (Register c) a = length-set a.cells c (struck_by number bit (history_at c a.cells))
cells_one number bit (Tag f w s b) a = ap (λ (cells : List (List Moment)). length cells) (cells_same f true number bit w s b a)
cells_one number bit (Line f w s b) a = ap (λ (cells : List (List Moment)). length cells) (cells_same f false number bit w s b a)

pub cells_stay : (run : List Strike) (a : CourseArrays) → length (fold with_strike a run).cells ≡ length a.cells
cells_stay [] a = refl
cells_stay (s ∷ run) a = cells_stay run (with_strike a s) ∙ cells_one s.number s.bit s.target a
