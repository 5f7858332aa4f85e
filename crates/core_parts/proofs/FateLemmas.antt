-- What became of a flip, as the three arrays of a core tell it, is what the definitions say.
use Rattle.std.proofs.Common.{◌≡◌, ℕ, zero, suc, ◌<◌, Bool, true, false, cond, List, [], ◌∷◌, Some, None, refl, sym, ap, ◌∙◌, subst, inl, inr, arith}
use Rattle.std.specs.Prelude.{slice_get}
use Rattle.std.specs.List.{AllByRecursion}
use Rattle.std.proofs.lemmas.Bool.{cases_Bool}
use Rattle.coded_words.specs.Words.{IsToCome as IsToComeInCells}
use Rattle.core_parts.specs.Fates.{own_fate, unless_late}
use Rattle.core_parts.specs.Strikes.{arrays_of, unit_at, IsOfArrays, history_of, IsFor, AimsAt, CameAs, Came}
use Rattle.core_parts.specs.declared.arrays.Arrays.{Arrays}
use Rattle.flip_ledger.proofs.FateRule.{fate_when}
use Rattle.flip_ledger.specs.Follows.{has_struck}
use Rattle.flip_ledger.specs.Plan.{target_of}
use Rattle.flip_ledger.specs.declared.plan.Target.{Target}
use Rattle.flip_ledger.specs.declared.plan.Target.TheVariants as targets
use Rattle.lf_model.specs.Caches.Cache.{Cache}
use Rattle.lf_model.specs.Caches.Slot.{history_at}
use Rattle.lf_model.specs.Course.Arrays.{register_cells}
use Rattle.lf_model.specs.Course.Arrays.{Arrays as CourseArrays}
use Rattle.lf_model.specs.Course.Core.{strikes_core}
use Rattle.lf_model.specs.Fates.{happened, is_applied, is_found, is_repaired, is_named, is_overwritten, fate_of}
use Rattle.lf_model.specs.Flips.{Moment, word_budget, byte_budget}
use Rattle.lf_model.specs.Ledger.FlipFate.{cache_in, slot_in, history_in, unit_history, budget_of}
use Rattle.lf_model.specs.Records.CoreRecord.{of_core_alone}
use Rattle.lf_model.specs.declared.flip.Flip.{Flip}
use Rattle.lf_model.specs.declared.flip.Flip.TheVariants.{Mem, Reg, Tag, Line}
use Rattle.lf_model.specs.declared.trace.Fate.{Fate}
use Rattle.lf_model.specs.declared.trace.Fate.TheVariants.{Late, Declined, Discarded, Repaired, Stopped, Overwritten, Dormant}
use Rattle.parity_cache.specs.CacheUnits.{IsUnit, history_of_unit, IsToCome}
use Rattle.parity_cache.specs.declared.unit.Unit.{Unit as CacheUnit}

late_where_none : (budget i : ℕ) (h : List Moment) → has_struck i h ≡ false → Late ≡ fate_of budget i h
late_where_none budget i h none =
    sym
    (ap (λ (struck : Bool). fate_when struck (happened (is_applied budget i) h) (happened (is_found budget i) h) (happened (is_repaired budget i) h) (happened (is_named budget i) h) (happened (is_overwritten budget i) h))
    none)

unless_late_none : (fate : Fate) → unless_late fate Late ≡ fate
unless_late_none Late = refl
unless_late_none Declined = refl
unless_late_none Discarded = refl
unless_late_none Repaired = refl
unless_late_none Stopped = refl
unless_late_none Overwritten = refl
unless_late_none Dormant = refl

flip_at : (P : Flip → Type 0) (xs : List Flip) (i : ℕ) (x : Flip) → slice_get xs i ≡ Some x → AllByRecursion P xs → P x
flip_at P [] i x is all = cc
flip_at P (y ∷ xs) zero x is all = let e : y ≡ x = cc in subst P e all.0
flip_at P (y ∷ xs) (suc i) x is all = flip_at P xs i x is all.1

-- ---- the definitions' history of a flip's unit

own_history : (core : ℕ) (a : CourseArrays) (flip : Flip) → strikes_core core flip ≡ true → unit_history [] (of_core_alone core a) flip ≡ history_of a (target_of flip)
own_history core a (Mem turn addr bit) own = cc
own_history core a (Reg c step cell bit) own = ap (λ (b : Bool). history_in (λ (x : CourseArrays). history_at cell x.cells) (cond b (Some a) None)) own
own_history core a (Tag c step fetch way set byte bit) own =
    ap (λ (b : Bool). history_in (λ (x : CourseArrays). history_at byte (slot_in way set (cache_in fetch x)).tag_histories) (cond b (Some a) None)) own
own_history core a (Line c step fetch way set byte bit) own =
    ap (λ (b : Bool). history_in (λ (x : CourseArrays). history_at byte (slot_in way set (cache_in fetch x)).line_histories) (cond b (Some a) None)) own

other_history : (core : ℕ) (a : CourseArrays) (flip : Flip) → strikes_core core flip ≡ false → unit_history [] (of_core_alone core a) flip ≡ []
other_history core a (Mem turn addr bit) other = refl
other_history core a (Reg c step cell bit) other = ap (λ (b : Bool). history_in (λ (x : CourseArrays). history_at cell x.cells) (cond b (Some a) None)) other
other_history core a (Tag c step fetch way set byte bit) other =
    ap (λ (b : Bool). history_in (λ (x : CourseArrays). history_at byte (slot_in way set (cache_in fetch x)).tag_histories) (cond b (Some a) None)) other
other_history core a (Line c step fetch way set byte bit) other =
    ap (λ (b : Bool). history_in (λ (x : CourseArrays). history_at byte (slot_in way set (cache_in fetch x)).line_histories) (cond b (Some a) None)) other

abbrev budget_at : Target → ℕ
budget_at (targets.Word addr) = word_budget
budget_at (targets.Register cell) = word_budget
budget_at (targets.Tag fetch way set byte) = byte_budget
budget_at (targets.Line fetch way set byte) = byte_budget

budget_is : (flip : Flip) → budget_of flip ≡ budget_at (target_of flip)
budget_is (Mem turn addr bit) = refl
budget_is (Reg c step cell bit) = refl
budget_is (Tag c step fetch way set byte bit) = refl
budget_is (Line c step fetch way set byte bit) = refl

-- ---- what three arrays tell of a flip

-- what register cells tell of flip `number`, and what a cache does
pub record CellsTell (number : ℕ) (histories : List (List Moment)) (fate : Fate) : Type 0 where
  pub struck : (cell : ℕ) → cell < register_cells → has_struck number (history_at cell histories) ≡ true → fate ≡ fate_of word_budget number (history_at cell histories)
  pub late : IsToComeInCells number histories → fate ≡ Late

pub record CacheTells (number : ℕ) (cache : Cache) (fate : Fate) : Type 0 where
  pub struck : (at : CacheUnit) → IsUnit at cache → has_struck number (history_of_unit at cache) ≡ true → fate ≡ fate_of byte_budget number (history_of_unit at cache)
  pub late : IsToCome number cache → fate ≡ Late

module _ (a : Arrays) (number : ℕ) (cells fetch loads : Fate) (cells_tell : CellsTell number a.registers.histories cells) (fetch_tells : CacheTells number a.fetch_cache.cache fetch)
    (data_tells : CacheTells number a.data_cache.cache loads) (script : List Flip) (core step : ℕ) (flip : Flip) (units : IsFor core script a) (came : Came script core step (arrays_of a))
    (is : slice_get script number ≡ Some flip) where
  -- the flip struck no unit of this kind
  abbrev Missed : Target → Type 0
  Missed it = CameAs core step it (Some flip) → has_struck number (history_of (arrays_of a) it) ≡ true → ⊥

  none_at : (it : Target) → IsOfArrays (arrays_of a) it → Missed it → has_struck number (history_of (arrays_of a) it) ≡ false
  none_at it of missed = elim (cases_Bool (has_struck number (history_of (arrays_of a) it))) [
    | inl struck ↦ absurd (missed (subst (CameAs core step it) is (came number it of struck)) struck)
    | inr none ↦ none
  ]

  no_cell : ((cell : ℕ) → Missed (targets.Register cell)) → cells ≡ Late
  no_cell missed = cells_tell.late (λ cell within. none_at (targets.Register cell) (let long = units.cells in omega (arith, within, long)) (missed cell))

  cache_unit : (of_fetch tag : Bool) (w s b : ℕ) → IsUnit (unit_at tag w s b) (cache_in of_fetch (arrays_of a))
      → ((w' s' b' : ℕ) → Missed (targets.Tag of_fetch w' s' b')) → ((w' s' b' : ℕ) → Missed (targets.Line of_fetch w' s' b'))
      → has_struck number (history_of_unit (unit_at tag w s b) (cache_in of_fetch (arrays_of a))) ≡ false
  cache_unit of_fetch true w s b of no_tag no_line = none_at (targets.Tag of_fetch w s b) of (no_tag w s b)
  cache_unit of_fetch false w s b of no_tag no_line = none_at (targets.Line of_fetch w s b) of (no_line w s b)

  no_fetch : ((w s b : ℕ) → Missed (targets.Tag true w s b)) → ((w s b : ℕ) → Missed (targets.Line true w s b)) → fetch ≡ Late
  no_fetch no_tag no_line = fetch_tells.late (λ at of. cache_unit true at.tag at.way at.set at.byte of no_tag no_line)

  no_data : ((w s b : ℕ) → Missed (targets.Tag false w s b)) → ((w s b : ℕ) → Missed (targets.Line false w s b)) → loads ≡ Late
  no_data no_tag no_line = data_tells.late (λ at of. cache_unit false at.tag at.way at.set at.byte of no_tag no_line)

  abbrev told : Fate
  told = unless_late cells (unless_late fetch loads)

  all_late : ((it : Target) → Missed it) → told ≡ Late
  all_late missed =
      ap (λ (fate : Fate). unless_late fate (unless_late fetch loads)) (no_cell (λ cell. missed (targets.Register cell)))
      ∙ ap (λ (fate : Fate). unless_late fate loads) (no_fetch (λ w s b. missed (targets.Tag true w s b)) (λ w s b. missed (targets.Line true w s b)))
      ∙ no_data (λ w s b. missed (targets.Tag false w s b)) (λ w s b. missed (targets.Line false w s b))

  -- it did not strike its own unit
  late_at : (it : Target) → target_of flip ≡ it → has_struck number (history_of (arrays_of a) it) ≡ false → told ≡ fate_of (budget_at it) number (history_of (arrays_of a) it)
  late_at it aim none =
      all_late (λ other as_it struck.
      let there : has_struck number (history_of (arrays_of a) it) ≡ true = subst (λ (t : Target). has_struck number (history_of (arrays_of a) t) ≡ true) (sym as_it.1.1 ∙ aim) struck in
      let clash : false ≡ true = sym none ∙ there in
      cc)
      ∙ late_where_none (budget_at it) number (history_of (arrays_of a) it) none

  -- flips of another unit missed
  not_cell : (it : Target) → target_of flip ≡ it → ((cell : ℕ) → it ≡ targets.Register cell → ⊥) → cells ≡ Late
  not_cell it aim other = no_cell (λ cell as_it struck. other cell (sym aim ∙ as_it.1.1))

  not_fetch : (it : Target) → target_of flip ≡ it → ((w s b : ℕ) → it ≡ targets.Tag true w s b → ⊥) → ((w s b : ℕ) → it ≡ targets.Line true w s b → ⊥) → fetch ≡ Late
  not_fetch it aim no_tag no_line = no_fetch (λ w s b as_it struck. no_tag w s b (sym aim ∙ as_it.1.1)) (λ w s b as_it struck. no_line w s b (sym aim ∙ as_it.1.1))

  not_data : (it : Target) → target_of flip ≡ it → ((w s b : ℕ) → it ≡ targets.Tag false w s b → ⊥) → ((w s b : ℕ) → it ≡ targets.Line false w s b → ⊥) → loads ≡ Late
  not_data it aim no_tag no_line = no_data (λ w s b as_it struck. no_tag w s b (sym aim ∙ as_it.1.1)) (λ w s b as_it struck. no_line w s b (sym aim ∙ as_it.1.1))

  by_cells : fetch ≡ Late → loads ≡ Late → told ≡ cells
  by_cells no_f no_d = ap (λ (fate : Fate). unless_late cells (unless_late fate loads)) no_f ∙ ap (λ (fate : Fate). unless_late cells fate) no_d ∙ unless_late_none cells

  by_fetch : cells ≡ Late → loads ≡ Late → told ≡ fetch
  by_fetch no_c no_d = ap (λ (fate : Fate). unless_late fate (unless_late fetch loads)) no_c ∙ ap (λ (fate : Fate). unless_late fetch fate) no_d ∙ unless_late_none fetch

  by_data : cells ≡ Late → fetch ≡ Late → told ≡ loads
  by_data no_c no_f = ap (λ (fate : Fate). unless_late fate (unless_late fetch loads)) no_c ∙ ap (λ (fate : Fate). unless_late fate loads) no_f

  struck_at_own : (it : Target) → target_of flip ≡ it → IsOfArrays (arrays_of a) it → has_struck number (history_of (arrays_of a) it) ≡ true
      → told ≡ fate_of (budget_at it) number (history_of (arrays_of a) it)
  struck_at_own (targets.Word addr) aim of struck = absurd of
  struck_at_own (targets.Register c) aim of struck =
      by_cells (not_fetch (targets.Register c) aim (λ w s b e. cc) (λ w s b e. cc)) (not_data (targets.Register c) aim (λ w s b e. cc) (λ w s b e. cc)) ∙ cells_tell.struck c of struck
  struck_at_own (targets.Tag true w s b) aim of struck =
      by_fetch (not_cell (targets.Tag true w s b) aim (λ cell e. cc)) (not_data (targets.Tag true w s b) aim (λ w' s' b' e. cc) (λ w' s' b' e. cc)) ∙ fetch_tells.struck (unit_at true w s b) of struck
  struck_at_own (targets.Tag false w s b) aim of struck =
      by_data (not_cell (targets.Tag false w s b) aim (λ cell e. cc)) (not_fetch (targets.Tag false w s b) aim (λ w' s' b' e. cc) (λ w' s' b' e. cc)) ∙ data_tells.struck (unit_at true w s b) of struck
  struck_at_own (targets.Line true w s b) aim of struck =
      by_fetch (not_cell (targets.Line true w s b) aim (λ cell e. cc)) (not_data (targets.Line true w s b) aim (λ w' s' b' e. cc) (λ w' s' b' e. cc)) ∙ fetch_tells.struck (unit_at false w s b) of struck
  struck_at_own (targets.Line false w s b) aim of struck =
      by_data (not_cell (targets.Line false w s b) aim (λ cell e. cc)) (not_fetch (targets.Line false w s b) aim (λ w' s' b' e. cc) (λ w' s' b' e. cc)) ∙ data_tells.struck (unit_at false w s b) of struck

  -- the fate that the arrays tell is that of the definitions
  pub fate_is : told ≡ own_fate core (arrays_of a) number flip
  fate_is = elim (cases_Bool (strikes_core core flip)) [
    | inl own ↦
        let of : IsOfArrays (arrays_of a) (target_of flip) = (flip_at (AimsAt core (arrays_of a)) script number flip is units.aims own).0 in
        by_struck of (has_struck number (history_of (arrays_of a) (target_of flip))) refl
        ∙ ap (λ (budget : ℕ). fate_of budget number (history_of (arrays_of a) (target_of flip))) (sym (budget_is flip))
        ∙ ap (fate_of (budget_of flip) number) (sym (own_history core (arrays_of a) flip own))
    | inr other ↦
        all_late (λ it as_it struck. let clash : false ≡ true = sym other ∙ as_it.0 in cc)
        ∙ late_where_none (budget_of flip) number [] refl
        ∙ ap (fate_of (budget_of flip) number) (sym (other_history core (arrays_of a) flip other))
  ]
    where
      by_struck : IsOfArrays (arrays_of a) (target_of flip) → (b : Bool) → has_struck number (history_of (arrays_of a) (target_of flip)) ≡ b
          → told ≡ fate_of (budget_at (target_of flip)) number (history_of (arrays_of a) (target_of flip))
      by_struck of true struck = struck_at_own (target_of flip) refl of struck
      by_struck of false none = late_at (target_of flip) refl none
