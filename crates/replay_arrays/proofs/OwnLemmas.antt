-- A flip strikes its own unit and no other.
use Rattle.std.proofs.Common.{◌≡◌, ℕ, zero, suc, ◌+◌, ◌*◌, Bool, true, false, ◌||◌, nat_eq, List, [], ◌∷◌, slice_index_or, slice_set, refl, sym, ap, ◌∙◌, subst, ◌⊎◌, inl, inr}
use Rattle.std.proofs.lemmas.Bool.{eqb-true}
use Rattle.flip_ledger.specs.Follows.{has_struck}
use Rattle.flip_ledger.specs.declared.plan.Target.{Target}
use Rattle.flip_ledger.specs.declared.plan.Target.TheVariants.{Word, Register, Tag, Line}
use Rattle.lf_model.specs.Caches.Cache.{Cache, slot_at}
use Rattle.lf_model.specs.Caches.Slot.{Slot, empty_slot, history_at, befalls}
use Rattle.lf_model.specs.Course.Arrays.{struck_by, struck_tag, struck_line}
use Rattle.lf_model.specs.Flips.{Moment}
use Rattle.replay_arrays.specs.KeepsStruck.{KeepsCache, KeepsParts}
use Rattle.replay_arrays.specs.Own.{IsCellAt, IsTagAt, IsLineAt, IsOnlyIn, IsOnlyAt}
use Rattle.replay_arrays.specs.Striking.{arrays_of, with_arrays, struck_in}
use Rattle.replay_arrays.specs.declared.parts.Parts.{Parts}
use Rattle.replay_caches.specs.CacheState.{CacheState}

-- one slot becomes another: what holds of a slot then held of it before, or it is that one
slot_set : (P : Slot → Type 0) (slots : List Slot) (i j : ℕ) (new : Slot) → P (slice_index_or (slice_set slots i new) j empty_slot)
    → P (slice_index_or slots j empty_slot) ⊎ ((i ≡ j) × P new)
slot_set P [] i j new is = inl is
slot_set P (s ∷ slots) zero zero new is = inr (refl, is)
slot_set P (s ∷ slots) zero (suc j) new is = inl is
slot_set P (s ∷ slots) (suc i) zero new is = inl is
slot_set P (s ∷ slots) (suc i) (suc j) new is = elim (slot_set P slots i j new is) [
  | inl old ↦ inl old
  | inr it ↦ inr (ap suc it.0, it.1)
]

-- ---- a flip strikes

module _ (k number bit : ℕ) where
  now_struck : (h : List Moment) → has_struck k (struck_by number bit h) ≡ true → (has_struck k h ≡ true) ⊎ (number ≡ k)
  now_struck h is = by (nat_eq number k) refl is
    where
      by : (b : Bool) → nat_eq number k ≡ b → (b || has_struck k h) ≡ true → (has_struck k h ≡ true) ⊎ (number ≡ k)
      by true same e = inr (eqb-true number k same)
      by false other e = inl e

  one_struck : (hs : List (List Moment)) (i unit : ℕ) → has_struck k (history_at unit (befalls (struck_by number bit) i hs)) ≡ true
      → (has_struck k (history_at unit hs) ≡ true) ⊎ ((number ≡ k) × (i ≡ unit))
  one_struck [] i unit is = inl is
  one_struck (h ∷ hs) zero zero is = elim (now_struck h is) [
    | inl old ↦ inl old
    | inr same ↦ inr (same, refl)
  ]
  one_struck (h ∷ hs) zero (suc unit) is = inl is
  one_struck (h ∷ hs) (suc i) zero is = inl is
  one_struck (h ∷ hs) (suc i) (suc unit) is = elim (one_struck hs i unit is) [
    | inl old ↦ inl old
    | inr it ↦ inr (it.0, ap suc it.1)
  ]

  module _ (target : Target) where
    tag_struck : (in_fetch : Bool) (c : Cache) (way set byte : ℕ) → (number ≡ k → target ≡ Tag in_fetch way set byte) → IsOnlyIn k target in_fetch c
        → IsOnlyIn k target in_fetch (struck_tag number bit way set byte c)
    tag_struck in_fetch c way set byte mine only =
        let i : ℕ = set * c.shape.ways + way in
        let slot : Slot = slot_at (set * c.shape.ways + way) c in
        let new : Slot = record slot { tag_histories = befalls (struck_by number bit) byte slot.tag_histories } in
        record {
          tags = λ j b is. elim (slot_set (λ (s : Slot). has_struck k (history_at b s.tag_histories) ≡ true) c.slots i j new is) [
            | inl old ↦ only.tags j b old
            | inr here ↦ elim (one_struck slot.tag_histories byte b here.1) [
              | inl old ↦ only.tags j b (subst (λ (n : ℕ). has_struck k (history_at b (slot_at n c).tag_histories) ≡ true) here.0 old)
              | inr it ↦ subst (IsTagAt in_fetch c.shape.ways j b) (sym (mine it.0)) (refl, (here.0, it.1))
            ]
          ];
          lines = λ j b is. elim (slot_set (λ (s : Slot). has_struck k (history_at b s.line_histories) ≡ true) c.slots i j new is) [
            | inl old ↦ only.lines j b old
            | inr here ↦ only.lines j b (subst (λ (n : ℕ). has_struck k (history_at b (slot_at n c).line_histories) ≡ true) here.0 here.1)
          ];
        }

    line_struck : (in_fetch : Bool) (c : Cache) (way set byte : ℕ) → (number ≡ k → target ≡ Line in_fetch way set byte) → IsOnlyIn k target in_fetch c
        → IsOnlyIn k target in_fetch (struck_line number bit way set byte c)
    line_struck in_fetch c way set byte mine only =
        let i : ℕ = set * c.shape.ways + way in
        let slot : Slot = slot_at (set * c.shape.ways + way) c in
        let new : Slot = record slot { line_histories = befalls (struck_by number bit) byte slot.line_histories } in
        record {
          tags = λ j b is. elim (slot_set (λ (s : Slot). has_struck k (history_at b s.tag_histories) ≡ true) c.slots i j new is) [
            | inl old ↦ only.tags j b old
            | inr here ↦ only.tags j b (subst (λ (n : ℕ). has_struck k (history_at b (slot_at n c).tag_histories) ≡ true) here.0 here.1)
          ];
          lines = λ j b is. elim (slot_set (λ (s : Slot). has_struck k (history_at b s.line_histories) ≡ true) c.slots i j new is) [
            | inl old ↦ only.lines j b old
            | inr here ↦ elim (one_struck slot.line_histories byte b here.1) [
              | inl old ↦ only.lines j b (subst (λ (n : ℕ). has_struck k (history_at b (slot_at n c).line_histories) ≡ true) here.0 old)
              | inr it ↦ subst (IsLineAt in_fetch c.shape.ways j b) (sym (mine it.0)) (refl, (here.0, it.1))
            ]
          ];
        }

    pub only_struck : (p : Parts) (at : Target) → (number ≡ k → target ≡ at) → IsOnlyAt k target p → IsOnlyAt k target (with_arrays p (struck_in number bit (arrays_of p) at))
    only_struck p (Word addr) mine only = only
    only_struck p (Register cell) mine only = record {
      cells = λ c is. elim (one_struck p.cells.histories cell c is) [
        | inl old ↦ only.cells c old
        | inr it ↦ subst (IsCellAt c) (sym (mine it.0)) it.1
      ];
      fetch_cache = only.fetch_cache;
      data_cache = only.data_cache;
    }
    only_struck p (Tag true way set byte) mine only =
        record { cells = only.cells; fetch_cache = tag_struck true p.fetch_cache.cache way set byte mine only.fetch_cache; data_cache = only.data_cache }
    only_struck p (Tag false way set byte) mine only =
        record { cells = only.cells; fetch_cache = only.fetch_cache; data_cache = tag_struck false p.data_cache.cache way set byte mine only.data_cache }
    only_struck p (Line true way set byte) mine only =
        record { cells = only.cells; fetch_cache = line_struck true p.fetch_cache.cache way set byte mine only.fetch_cache; data_cache = only.data_cache }
    only_struck p (Line false way set byte) mine only =
        record { cells = only.cells; fetch_cache = only.fetch_cache; data_cache = line_struck false p.data_cache.cache way set byte mine only.data_cache }

-- ---- no flip strikes

module _ (number : ℕ) (target : Target) where
  kept_in : (in_fetch : Bool) (old new : CacheState) → KeepsCache old new → IsOnlyIn number target in_fetch old.cache → IsOnlyIn number target in_fetch new.cache
  kept_in in_fetch old new keeps only = record {
    tags = λ slot byte is. rw keeps.shape (only.tags slot byte (sym ((keeps.struck slot).tags number byte) ∙ is));
    lines = λ slot byte is. rw keeps.shape (only.lines slot byte (sym ((keeps.struck slot).lines number byte) ∙ is));
  }

  pub only_kept : (old new : Parts) → KeepsParts old new → IsOnlyAt number target old → IsOnlyAt number target new
  only_kept old new keeps only = record {
    cells = λ cell is. only.cells cell (sym (keeps.cells.struck number cell) ∙ is);
    fetch_cache = kept_in true old.fetch_cache new.fetch_cache keeps.fetch_cache only.fetch_cache;
    data_cache = kept_in false old.data_cache new.data_cache keeps.data_cache only.data_cache;
  }
