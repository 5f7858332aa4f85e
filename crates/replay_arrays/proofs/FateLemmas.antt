-- What became of a flip, by the history of its own unit: it struck no other.
use Rattle.std.proofs.Common.{◌≡◌, ℕ, ◌+◌, ◌*◌, Bool, true, false, nat_eq, List, Option, Some, refl, sym, ap, ap₂, ◌∙◌, inl, inr}
use Rattle.std.specs.Prelude.{slice_get}
use Rattle.std.proofs.lemmas.Bool.{cases_Bool, eqb-true, false≢true}
use Rattle.flip_ledger.proofs.FateRule.{fate_when}
use Rattle.flip_ledger.specs.Follows.{has_struck}
use Rattle.flip_ledger.specs.declared.plan.Target.{Target}
use Rattle.flip_ledger.specs.declared.plan.Target.TheVariants.{Register, Tag, Line}
use Rattle.lf_model.specs.Caches.Cache.{Cache, slot_at}
use Rattle.lf_model.specs.Caches.Slot.{history_at}
use Rattle.lf_model.specs.Course.Arrays.{Arrays}
use Rattle.lf_model.specs.Course.Core.{strikes_core}
use Rattle.lf_model.specs.Fates.{happened, is_applied, is_found, is_repaired, is_named, is_overwritten, fate_of}
use Rattle.lf_model.specs.Flips.{Moment, word_budget, byte_budget}
use Rattle.lf_model.specs.Ledger.FlipFate.{cache_in, slot_in, history_in}
use Rattle.lf_model.specs.declared.flip.Flip.TheVariants as flips
use Rattle.lf_model.specs.declared.flip.Flip.TheVariants.{Reg}
use Rattle.lf_model.specs.declared.trace.Fate.{Fate}
use Rattle.lf_model.specs.declared.trace.Fate.TheVariants.{Late}
use Rattle.replay_arrays.specs.ArraysInside.{seen, IsArrays}
use Rattle.replay_arrays.specs.ArraysState.{HasFate}
use Rattle.replay_arrays.specs.Own.{IsOnlyIn, IsOnlyAt}
use Rattle.replay_arrays.specs.declared.arrays.Arrays.TheInside.{Inside}
use Rattle.replay_arrays.specs.declared.parts.Parts.{Parts}
use Rattle.replay_caches.specs.SlotsState.{IsToCome as IsToComeInSlots}
use Rattle.replay_units.specs.Units.{IsToCome}

not_true : (b : Bool) → (b ≡ true → ⊥) → b ≡ false
not_true true none = absurd (none refl)
not_true false none = refl

-- a flip that struck no unit is late
late_where_none : (budget number : ℕ) (h : List Moment) → has_struck number h ≡ false → Late ≡ fate_of budget number h
late_where_none budget number h none =
    sym
    (ap
    (λ (struck : Bool). fate_when struck (happened (is_applied budget number) h) (happened (is_found budget number) h) (happened (is_repaired budget number) h) (happened (is_named budget number) h)
    (happened (is_overwritten budget number) h))
    none)

module _ (number : ℕ) (fate : Fate) where
  pub cell_fate : (p : Parts) (cell : ℕ) → IsOnlyAt number (Register cell) p
      → ((c : ℕ) → has_struck number (history_at c p.cells.histories) ≡ true → fate ≡ fate_of word_budget number (history_at c p.cells.histories))
      → (IsToCome number p.cells.histories → fate ≡ Late) → fate ≡ fate_of word_budget number (history_at cell p.cells.histories)
  cell_fate p cell only struck late = elim (cases_Bool (has_struck number (history_at cell p.cells.histories))) [
    | inl now ↦ struck cell now
    | inr none ↦
        late
        (λ unit lt. not_true (has_struck number (history_at unit p.cells.histories))
        (λ is. false≢true (sym none ∙ ap (λ (c : ℕ). has_struck number (history_at c p.cells.histories)) (only.cells unit is) ∙ is)))
        ∙ late_where_none word_budget number (history_at cell p.cells.histories) none
  ]

  module _ (in_fetch : Bool) (cache : Cache) (way set byte : ℕ) (late : IsToComeInSlots number cache.slots → fate ≡ Late) where
    abbrev slot : ℕ
    slot = set * cache.shape.ways + way

    abbrev tag_at : ℕ → ℕ → List Moment
    tag_at s b = history_at b (slot_at s cache).tag_histories

    abbrev line_at : ℕ → ℕ → List Moment
    line_at s b = history_at b (slot_at s cache).line_histories

    pub tag_fate : IsOnlyIn number (Tag in_fetch way set byte) in_fetch cache
        → ((s b : ℕ) → has_struck number (tag_at s b) ≡ true → fate ≡ fate_of byte_budget number (tag_at s b)) → fate ≡ fate_of byte_budget number (tag_at slot byte)
    tag_fate only struck = elim (cases_Bool (has_struck number (tag_at slot byte))) [
      | inl now ↦ struck slot byte now
      | inr none ↦
          late
          (record {
            tags = λ s b. not_true (has_struck number (tag_at s b))
                (λ is. false≢true (sym none ∙ ap₂ (λ (m n : ℕ). has_struck number (tag_at m n)) (only.tags s b is).1.0 (only.tags s b is).1.1 ∙ is));
            lines = λ s b. not_true (has_struck number (line_at s b)) (λ is. only.lines s b is);
          })
          ∙ late_where_none byte_budget number (tag_at slot byte) none
    ]

    pub line_fate : IsOnlyIn number (Line in_fetch way set byte) in_fetch cache
        → ((s b : ℕ) → has_struck number (line_at s b) ≡ true → fate ≡ fate_of byte_budget number (line_at s b)) → fate ≡ fate_of byte_budget number (line_at slot byte)
    line_fate only struck = elim (cases_Bool (has_struck number (line_at slot byte))) [
      | inl now ↦ struck slot byte now
      | inr none ↦
          late
          (record {
            tags = λ s b. not_true (has_struck number (tag_at s b)) (λ is. only.tags s b is);
            lines = λ s b. not_true (has_struck number (line_at s b))
                (λ is. false≢true (sym none ∙ ap₂ (λ (m n : ℕ). has_struck number (line_at m n)) (only.lines s b is).1.0 (only.lines s b is).1.1 ∙ is));
          })
          ∙ late_where_none byte_budget number (line_at slot byte) none
    ]

-- ---- of a flip of the script, which strikes the core

module _ (a : Inside) (is : IsArrays a) (number : ℕ) (fate : Fate) where
  -- the arrays of its core are these
  these : (core : ℕ) (cores : ℕ → Option Arrays) → nat_eq core a.core ≡ true → cores a.core ≡ Some (seen a).arrays → Some (seen a).arrays ≡ cores core
  these core cores own at = sym (ap cores (eqb-true core a.core own) ∙ at)

  only_in : (fetch : Bool) (target : Target) → IsOnlyAt number target a.parts → IsOnlyIn number target fetch (cache_in fetch (seen a).arrays)
  only_in true target only = only.fetch_cache
  only_in false target only = only.data_cache

  pub register_flip : (core step cell bit : ℕ) → slice_get a.script.value number ≡ Some (Reg core step cell bit) → strikes_core a.core (Reg core step cell bit) ≡ true
      → ((c : ℕ) → has_struck number (history_at c a.parts.cells.histories) ≡ true → fate ≡ fate_of word_budget number (history_at c a.parts.cells.histories))
      → (IsToCome number a.parts.cells.histories → fate ≡ Late) → HasFate (seen a) number (Reg core step cell bit) fate
  register_flip core step cell bit this own struck late = λ words cores at.
      cell_fate number fate a.parts cell (is.pending.own number (Reg core step cell bit) this) struck late
      ∙ ap (λ (o : Option Arrays). fate_of word_budget number (history_in (λ x. history_at cell x.cells) o)) (these core cores own at)

  module _ (fetch : Bool) (late : IsToComeInSlots number (cache_in fetch (seen a).arrays).slots → fate ≡ Late) where
    abbrev cache : Cache
    cache = cache_in fetch (seen a).arrays

    pub tag_flip : (core step way set byte bit : ℕ) → slice_get a.script.value number ≡ Some (flips.Tag core step fetch way set byte bit)
        → strikes_core a.core (flips.Tag core step fetch way set byte bit) ≡ true
        → ((s b : ℕ) → has_struck number (history_at b (slot_at s cache).tag_histories) ≡ true → fate ≡ fate_of byte_budget number (history_at b (slot_at s cache).tag_histories))
        → HasFate (seen a) number (flips.Tag core step fetch way set byte bit) fate
    tag_flip core step way set byte bit this own struck = λ words cores at.
        tag_fate number fate fetch cache way set byte late (only_in fetch (Tag fetch way set byte) (is.pending.own number (flips.Tag core step fetch way set byte bit) this)) struck
        ∙ ap (λ (o : Option Arrays). fate_of byte_budget number (history_in (λ x. history_at byte (slot_in way set (cache_in fetch x)).tag_histories) o)) (these core cores own at)

    pub line_flip : (core step way set byte bit : ℕ) → slice_get a.script.value number ≡ Some (flips.Line core step fetch way set byte bit)
        → strikes_core a.core (flips.Line core step fetch way set byte bit) ≡ true
        → ((s b : ℕ) → has_struck number (history_at b (slot_at s cache).line_histories) ≡ true → fate ≡ fate_of byte_budget number (history_at b (slot_at s cache).line_histories))
        → HasFate (seen a) number (flips.Line core step fetch way set byte bit) fate
    line_flip core step way set byte bit this own struck = λ words cores at.
        line_fate number fate fetch cache way set byte late (only_in fetch (Line fetch way set byte) (is.pending.own number (flips.Line core step fetch way set byte bit) this)) struck
        ∙ ap (λ (o : Option Arrays). fate_of byte_budget number (history_in (λ x. history_at byte (slot_in way set (cache_in fetch x)).line_histories) o)) (these core cores own at)
