-- What the changes of a slot leave of the tags of a cache.
use Rattle.std.proofs.Common.{◌≡◌, ◌∙◌, ◌+◌, ◌*◌, ◌==◌, ◌&&◌, ◌||◌, ◌≤◌, ◌<◌, not, nat_lt, ℕ, Bool, true, false, List, Option, Some, None, map, length, replicate, refl, ap, sym, subst, arith, if◌then◌else◌, inl, inr}
use Rattle.std.proofs.lemmas.Bool.{cases_Bool, eqb-true, eq-eqb}
use Rattle.std.proofs.lemmas.List.{get_or-map, get_or_past, get_or-replicate, length-map, length-replicate, length-set}
use Rattle.std.specs.Option.{option_map_or}
use Rattle.lf_model.proofs.CheckLemmas.{slot_same, slot_other, slot_past}
use Rattle.lf_model.proofs.HitLemmas.{true_not_false}
use Rattle.lf_model.proofs.ResidenceLaw.{tag_by}
use Rattle.lf_model.specs.Caches.Slot.{Slot, empty_slot, empty_tag, has_wanted_words, has_struck_byte, dropped, dropped_by_byte}
use Rattle.lf_model.specs.Caches.Cache.{Cache, empty_cache, slot_at, with_slot, used}
use Rattle.lf_model.specs.Caches.Change.{flushed}
use Rattle.lf_model.specs.Caches.Look.{Checked, Looked, look_in, look_by}
use Rattle.lf_model.specs.Caches.Residence.{LineFill}
use Rattle.lf_model.specs.declared.config.Shape.{Shape}

abbrev pub tag_at : ℕ → Cache → List ℕ
tag_at i c = (slot_at i c).tag

-- ---- one slot changes

below_or_past : (j n : ℕ) → (j < n → ⊥) → n ≤ j
below_or_past j n not_below = elim (cases_Bool (nat_lt j n)) [
  | inl below ↦ absurd (not_below (grind (arith, below)))
  | inr past ↦ grind (arith, past)
]

-- a change of slot j, which gives it this tag, and leaves all others
pub tag_set : (change : Slot → Slot) (t : List ℕ) (i j : ℕ) (c : Cache) → (change (slot_at j c)).tag ≡ t → j < length c.slots
    → tag_at i (with_slot change j c) ≡ (if j == i then t else tag_at i c)
tag_set change t i j c is_t within = by_same (j == i) refl
  where
    by_same : (same : Bool) → (j == i) ≡ same → tag_at i (with_slot change j c) ≡ (if same then t else tag_at i c)
    by_same true e = subst (λ m. tag_at m (with_slot change j c) ≡ t) (eqb-true j i e) (ap (λ (s : Slot). s.tag) (slot_same change j c within) ∙ is_t)
    by_same false e = ap (λ (s : Slot). s.tag) (slot_other change j i c (λ same. true_not_false (sym (eq-eqb j i (sym same)) ∙ e)))

-- a change that leaves tags, of any slot
pub tag_kept : (change : Slot → Slot) → ((s : Slot) → (change s).tag ≡ s.tag) → (i j : ℕ) (c : Cache) → tag_at i (with_slot change j c) ≡ tag_at i c
tag_kept change keeps i j c = elim (cases_Bool (nat_lt j (length c.slots))) [
  | inl below ↦ by_same (j == i) refl (grind (arith, below))
  | inr past ↦ outside (grind (arith, past)) (j == i) refl
]
  where
    by_same : (same : Bool) → (j == i) ≡ same → j < length c.slots → tag_at i (with_slot change j c) ≡ tag_at i c
    by_same true e within = subst (λ m. tag_at m (with_slot change j c) ≡ tag_at m c) (eqb-true j i e) (ap (λ (s : Slot). s.tag) (slot_same change j c within) ∙ keeps (slot_at j c))
    by_same false e within = ap (λ (s : Slot). s.tag) (slot_other change j i c (λ same. true_not_false (sym (eq-eqb j i (sym same)) ∙ e)))

    outside : length c.slots ≤ j → (same : Bool) → (j == i) ≡ same → tag_at i (with_slot change j c) ≡ tag_at i c
    outside past true e = subst (λ m. tag_at m (with_slot change j c) ≡ tag_at m c) (eqb-true j i e)
        (ap (λ (s : Slot). s.tag) (slot_past j (with_slot change j c) (subst (λ n. n ≤ j) (sym (length-set c.slots j _)) past) ∙ sym (slot_past j c past)))
    outside past false e = ap (λ (s : Slot). s.tag) (slot_other change j i c (λ same. true_not_false (sym (eq-eqb j i (sym same)) ∙ e)))

pub tag_used : (i j : ℕ) (c : Cache) → tag_at i (used j c) ≡ tag_at i c
tag_used i j c = tag_kept (λ slot. record slot { used = c.uses + 1 }) (λ s. refl) i j c

-- ---- all slots

pub tag_flushed : (i : ℕ) (c : Cache) → tag_at i (flushed c) ≡ empty_tag
unfolding flushed
tag_flushed i c = elim (cases_Bool (nat_lt i (length c.slots))) [
  | inl below ↦ ap (λ (s : Slot). s.tag) (get_or-map dropped c.slots i empty_slot empty_slot (grind (arith, below)))
  | inr past ↦ ap (λ (s : Slot). s.tag) (get_or_past (map dropped c.slots) i empty_slot (subst (λ n. n ≤ i) (sym (length-map c.slots dropped)) (grind (arith, past))))
]

pub tag_empty : (i : ℕ) (shape : Shape) → tag_at i (empty_cache shape) ≡ empty_tag
tag_empty i shape = elim (cases_Bool (nat_lt i (shape.ways * shape.sets))) [
  | inl below ↦ ap (λ (s : Slot). s.tag) (get_or-replicate (shape.ways * shape.sets) i empty_slot empty_slot (grind (arith, below)))
  | inr past ↦ ap (λ (s : Slot). s.tag) (get_or_past (replicate (shape.ways * shape.sets) empty_slot) i empty_slot (subst (λ n. n ≤ i) (sym (length-replicate (shape.ways * shape.sets) empty_slot)) (grind (arith, past))))
]

-- ---- a look-up after its tag check

pick : (i : ℕ) (e w b : Bool) (t : List ℕ) (x y z : Looked) → tag_at i x.cache ≡ t → tag_at i y.cache ≡ (if e then empty_tag else t) → tag_at i z.cache ≡ t
    → tag_at i (if not w then x else if b then y else z).cache ≡ (if e && (w && b) then empty_tag else t)
pick i true true true t x y z hx hy hz = hy
pick i false true true t x y z hx hy hz = hy
pick i true true false t x y z hx hy hz = hz
pick i false true false t x y z hx hy hz = hz
pick i true false b t x y z hx hy hz = hx
pick i false false b t x y z hx hy hz = hx

abbrev pub bad_words : ℕ → ℕ → Cache → ℕ → Bool
bad_words addr len c i = has_wanted_words addr len (slot_at i c) && has_struck_byte addr len (slot_at i c)

look_tag : (addr len i j : ℕ) (c : Cache) → j < length c.slots
    → tag_at i (look_in addr len j c).cache ≡ (if (j == i) && bad_words addr len c j then empty_tag else tag_at i c)
look_tag addr len i j c within = pick i (j == i) (has_wanted_words addr len (slot_at j c)) (has_struck_byte addr len (slot_at j c)) (tag_at i c) _ _ _
    refl (tag_set (dropped_by_byte addr len) empty_tag i j c refl within) (tag_used i j c)

at_same : (f : ℕ → Bool) (i j : ℕ) (same : Bool) → (j == i) ≡ same → (same && f j) ≡ (same && f i)
at_same f i j true e = ap f (eqb-true j i e)
at_same f i j false e = refl

pub look_tags : (addr len i : ℕ) (k : Checked) (m : Option ℕ) → ((j : ℕ) → m ≡ Some j → j < length k.cache.slots)
    → tag_at i (look_by addr len k m).cache ≡ (if option_map_or (λ j. j == i) m false && bad_words addr len k.cache i then empty_tag else tag_at i k.cache)
look_tags addr len i k None within = refl
look_tags addr len i k (Some j) within = look_tag addr len i j k.cache (within j refl)
    ∙ ap (λ b. if b then empty_tag else tag_at i k.cache) (at_same (bad_words addr len k.cache) i j (j == i) refl)

-- ---- two drops after one another

pub merged : (first second : Bool) (t : List ℕ) (f : Option LineFill) → t ≡ tag_by (if first then None else f)
    → (if second then empty_tag else t) ≡ tag_by (if first || second then None else f)
merged true true t f e = refl
merged true false t f e = e
merged false true t f e = refl
merged false false t f e = e
