-- How far the flips of a step have come, in the loop that lets them strike.
use Rattle.std.proofs.Common.{◌≡◌, ℕ, ◌+◌, ◌<◌, ◌≤◌, Bool, true, false, List, [], ◌∷◌, ◌++◌, length, Option, Some, None, refl, sym, ap, ◌∙◌, subst, append_assoc, arith}
use Rattle.std.specs.Prelude.{fold, slice_get, All}
use Rattle.std.specs.List.{AllByRecursion}
use Rattle.std.proofs.lemmas.List.Elements.{All-cons, All-nil}
use Rattle.std.proofs.lemmas.List.Sums.{fold_push}
use Rattle.core_parts.specs.Strikes.{arrays_of, with_arrays, own_flips, IsOfArrays, history_of, bits_of, with_strike, MayStrikeAt, MayStrike, AimsAt, IsFor, Came, IsAlong, unit_at}
use Rattle.core_parts.specs.declared.arrays.Arrays.{Arrays}
use Rattle.core_parts.proofs.StrikeLemmas.{shapes, units_stay, cells_stay}
use Rattle.core_parts.proofs.DueLemmas.{begun_by_due, Ascends, All_append, due_run, got_within, IsOfScript, due, due_each, due_ascends, due_is, next_to_come, came_next}
use Rattle.flip_ledger.proofs.PlanLemmas.{given, planned_next}
use Rattle.flip_ledger.specs.Follows.{has_struck}
use Rattle.flip_ledger.specs.Plan.{strikes_of, due_at, IsPlanned, GivesDue}
use Rattle.flip_ledger.specs.declared.plan.Owner.TheVariants.{Core}
use Rattle.flip_ledger.specs.declared.plan.Strike.{Strike}
use Rattle.flip_ledger.specs.declared.plan.Target.{Target}
use Rattle.flip_ledger.specs.declared.plan.Target.TheVariants.{Word, Register, Tag, Line}
use Rattle.lf_model.proofs.EachLemmas.{each_second, each_weaker}
use Rattle.lf_model.specs.Course.Arrays.{begun, register_cells}
use Rattle.lf_model.specs.Course.Arrays.{Arrays as CourseArrays}
use Rattle.lf_model.specs.Ledger.FlipFate.{cache_in}
use Rattle.lf_model.specs.declared.flip.Flip.{Flip}
use Rattle.parity_cache.specs.CacheUnits.{IsUnit, history_of_unit}

-- ---- a strike may be made

module _ (first : Arrays) (x : CourseArrays) (s : Strike) (fits : s.bit < bits_of s.target) (long : length x.cells ≡ register_cells) (known : s.number < first.registers.flips) (known_fetch : s.number < first.fetch_cache.flips) (known_data : s.number < first.data_cache.flips)
    (once : (target : Target) → IsOfArrays x target → has_struck s.number (history_of x target) ≡ false) where
  unit_once : (fetch tag : Bool) (w st b : ℕ) → IsUnit (unit_at tag w st b) (cache_in fetch x) → has_struck s.number (history_of_unit (unit_at tag w st b) (cache_in fetch x)) ≡ false
  unit_once fetch true w st b is = once (Tag fetch w st b) is
  unit_once fetch false w st b is = once (Line fetch w st b) is

  may_at : (target : Target) → IsOfArrays x target → s.bit < bits_of target → MayStrikeAt s.number s.bit (with_arrays first x) target
  may_at (Word addr) of lt = tt
  may_at (Register c) of lt = record { cell_fits = of; bit_fits = lt; known = known; once = λ place within. once (Register place) (omega (arith, within, long)) }
  may_at (Tag true w st b) of lt = record { unit = of; bit_fits = lt; known = known_fetch; once = λ at is. unit_once true at.tag at.way at.set at.byte is }
  may_at (Tag false w st b) of lt = record { unit = of; bit_fits = lt; known = known_data; once = λ at is. unit_once false at.tag at.way at.set at.byte is }
  may_at (Line true w st b) of lt = record { unit = of; bit_fits = lt; known = known_fetch; once = λ at is. unit_once true at.tag at.way at.set at.byte is }
  may_at (Line false w st b) of lt = record { unit = of; bit_fits = lt; known = known_data; once = λ at is. unit_once false at.tag at.way at.set at.byte is }

-- ---- the loop

module _ (script : List Flip) (core step : ℕ) (first : Arrays) (plan : List Strike) (planned : IsPlanned (Core core) script step plan) where
  -- none struck yet
  pub along_none : IsAlong step first plan first plan
  along_none = record { run = []; split = refl; early = All-nil (λ (s : Strike). s.at ≤ step); arrays_are = refl }

  module _ (a : Arrays) (here : List Strike) (along : IsAlong step first plan a here) (next : Strike) (rest : List Strike) (is : here ≡ next ∷ rest) (now : next.at ≤ step) where
    early_more : All (λ (s : Strike). s.at ≤ step) (along.run ++ next ∷ [])
    early_more =
        All_append (λ (s : Strike). s.at ≤ step) along.run (next ∷ []) along.early
        (All-cons (λ (s : Strike). s.at ≤ step) next [] now (All-nil (λ (s : Strike). s.at ≤ step)))

    split_more : plan ≡ (along.run ++ next ∷ []) ++ rest
    split_more = along.split ∙ ap (λ (xs : List Strike). along.run ++ xs) is ∙ sym (append_assoc along.run (next ∷ []) rest)

    pub along_more : {a' : Arrays} → a' ≡ with_arrays a (with_strike (arrays_of a) next) → IsAlong step first plan a' rest
    along_more {a'} struck = record {
      run = along.run ++ next ∷ [];
      split = split_more;
      early = early_more;
      arrays_are =
          struck
          ∙ ap (λ (b : Arrays). with_arrays b (with_strike (arrays_of b) next)) along.arrays_are
          ∙ ap (λ (x : CourseArrays). with_arrays first x) (sym (fold_push with_strike (arrays_of first) along.run next));
    }

    -- the strikes of the step are the run, this one, and others
    split_due : due script core step 0 script ≡ along.run ++ next ∷ due_at step rest
    split_due =
        let late : All (λ (s : Strike). step ≤ s.at) ((along.run ++ next ∷ []) ++ rest) = subst (All (λ (s : Strike). step ≤ s.at)) split_more planned.others in
        sym (due_is script core step)
        ∙ sym (planned.due step (omega arith))
        ∙ ap (due_at step) split_more
        ∙ due_run step (along.run ++ next ∷ []) rest early_more late
        ∙ append_assoc along.run (next ∷ []) (due_at step rest)

    pub may_strike : IsFor core script first → Came script core step (arrays_of first) → MayStrike a next
    may_strike units came =
        let x : CourseArrays = fold with_strike (arrays_of first) along.run in
        let all : AllByRecursion (IsOfScript script core step (arrays_of first)) (along.run ++ next ∷ due_at step rest) =
        subst (AllByRecursion (IsOfScript script core step (arrays_of first))) split_due (due_each script core step (arrays_of first) 0 script (λ j. ap (slice_get script) (omega arith)) units.aims) in
        let its : IsOfScript script core step (arrays_of first) next =
        (each_second (IsOfScript script core step (arrays_of first)) along.run (next ∷ due_at step rest) all).0 in
        let ascends : Ascends 0 (along.run ++ next ∷ due_at step rest) = subst (Ascends 0) split_due (due_ascends script core step 0 script) in
        let within : next.number < length script = got_within script next.number its.flip its.is in
        rw along.arrays_are
        (may_at first x next its.fits (cells_stay along.run (arrays_of first) ∙ units.cells) (omega (arith, within, units.register_flips)) (omega (arith, within, units.fetch_flips)) (omega (arith, within, units.data_flips))
        (next_to_come script core step (arrays_of first) came along.run next (due_at step rest) ascends all) next.target
        (units_stay (arrays_of first) x (shapes along.run (arrays_of first)) next.target its.of) its.fits)

  module _ (a : Arrays) (rest : List Strike) (along : IsAlong step first plan a rest) (late : All (λ (s : Strike). step < s.at) rest) where
    run_is : along.run ≡ due_at step (strikes_of (Core core) script)
    run_is = given (Core core) script step along.run rest (subst (IsPlanned (Core core) script step) along.split planned) along.early late

    pub all_struck : a ≡ with_arrays first (begun (own_flips core script) step (arrays_of first))
    all_struck =
        along.arrays_are
        ∙ ap (λ (run : List Strike). with_arrays first (fold with_strike (arrays_of first) run)) run_is
        ∙ ap (λ (x : CourseArrays). with_arrays first x) (sym (begun_by_due step (own_flips core script) (arrays_of first)))

    pub planned_later : IsPlanned (Core core) script (step + 1) rest
    planned_later = planned_next (Core core) script step along.run rest (subst (IsPlanned (Core core) script step) along.split planned) along.early late

    pub units_later : IsFor core script first → IsFor core script a
    units_later units = rw along.arrays_are (record {
      cells = cells_stay along.run (arrays_of first) ∙ units.cells;
      register_flips = units.register_flips;
      fetch_flips = units.fetch_flips;
      data_flips = units.data_flips;
      aims = each_weaker (AimsAt core (arrays_of first)) (AimsAt core (fold with_strike (arrays_of first) along.run)) script
          (λ flip aims own. (units_stay (arrays_of first) (fold with_strike (arrays_of first) along.run) (shapes along.run (arrays_of first)) _ (aims own).0, (aims own).1)) units.aims;
    })

    pub came_later : IsFor core script first → Came script core step (arrays_of first) → Came script core (step + 1) (arrays_of a)
    came_later units came =
        let all : AllByRecursion (IsOfScript script core step (arrays_of first)) (due script core step 0 script) = due_each script core step (arrays_of first) 0 script (λ j. ap (slice_get script) (omega arith)) units.aims in
        rw along.arrays_are (came_next script core step (arrays_of first) came along.run (subst (AllByRecursion (IsOfScript script core step (arrays_of first))) (sym (run_is ∙ due_is script core step)) all))

-- the plan gives none: its strikes are of later steps
pub due_end : (step : ℕ) (old new : List Strike) (result : Option Strike) → GivesDue step old result new → ((s : Strike) → result ≡ Some s → ⊥) → All (λ (s : Strike). step < s.at) old
due_end step old new None gives none = gives.1
due_end step old new (Some s) gives none = absurd (none s refl)
