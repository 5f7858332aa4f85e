-- The flips of a step strike the arrays of a core, one after the other.
use Rattle.std.proofs.Common.{◌≡◌, ℕ, zero, suc, ◌+◌, ◌<◌, ◌≤◌, Bool, true, false, cond, nat_eq, List, [], ◌∷◌, ◌++◌, length, map, Option, Some, None, refl, sym, ap, ◌∙◌, subst, ◌⊎◌, inl, inr, ⊎_elim, arith}
use Rattle.std.specs.Prelude.{fold, slice_get, All}
use Rattle.std.specs.List.{AllByRecursion}
use Rattle.std.proofs.lemmas.Bool.{cases_Bool, eq-eqb, eqb-true}
use Rattle.std.proofs.lemmas.List.Elements.{All-cons, All-head, All-tail}
use Rattle.core_parts.specs.Strikes.{IsOfArrays, history_of, bits_of, with_strike, AimsAt, CameAs, Came}
use Rattle.core_parts.proofs.StrikeLemmas.{in_arrays, shapes, units_stay}
use Rattle.flip_ledger.proofs.PlanLemmas.{strikes_from, strikes_numbered}
use Rattle.flip_ledger.specs.Follows.{has_struck}
use Rattle.flip_ledger.specs.Plan.{time_of, target_of, strike_of, strikes_of, due_at}
use Rattle.flip_ledger.specs.declared.plan.Owner.TheVariants.{Core}
use Rattle.flip_ledger.specs.declared.plan.Strike.{Strike}
use Rattle.flip_ledger.specs.declared.plan.Target.{Target}
use Rattle.lf_model.proofs.EachLemmas.{each_first, each_second, each_weaker}
use Rattle.lf_model.specs.Course.Arrays.{strike, begun}
use Rattle.lf_model.specs.Course.Arrays.{Arrays as CourseArrays}
use Rattle.lf_model.specs.Course.Core.{strikes_core}
use Rattle.lf_model.specs.declared.flip.Flip.{Flip}
use Rattle.lf_model.specs.declared.flip.Flip.TheVariants as flips

-- ---- the definitions' strikes are those that are due

one_flip : (step number : ℕ) (flip : Flip) (a : CourseArrays) → strike step number a flip ≡ cond (nat_eq (time_of flip) step) (with_strike a (strike_of (number, flip))) a
one_flip step number (flips.Mem turn addr bit) a = by (nat_eq turn step)
  where
    by : (b : Bool) → a ≡ cond b a a
    by true = refl
    by false = refl
one_flip step number (flips.Reg core t cell bit) a = refl
one_flip step number (flips.Tag core t fetch way set byte bit) a = refl
one_flip step number (flips.Line core t fetch way set byte bit) a = refl

one_due : (b : Bool) (s : Strike) (run : List Strike) (a : CourseArrays) → fold with_strike (cond b (with_strike a s) a) run ≡ fold with_strike a (cond b (s ∷ run) run)
one_due true s run a = refl
one_due false s run a = refl

pub begun_by_due : (step : ℕ) (numbered : List (ℕ × Flip)) (a : CourseArrays) → begun numbered step a ≡ fold with_strike a (due_at step (map strike_of numbered))
begun_by_due step [] a = refl
begun_by_due step (flip ∷ numbered) a =
    ap (λ (b : CourseArrays). begun numbered step b) (one_flip step flip.0 flip.1 a)
    ∙ begun_by_due step numbered (cond (nat_eq (time_of flip.1) step) (with_strike a (strike_of flip)) a)
    ∙ one_due (nat_eq (time_of flip.1) step) (strike_of flip) (due_at step (map strike_of numbered)) a

-- ---- the strikes that are due

-- numbers ascend
abbrev pub Ascends : ℕ → List Strike → Type 0
Ascends k [] = Unit {0}
Ascends k (s ∷ run) = (k ≤ s.number) × Ascends (s.number + 1) run

ascends_earlier : (j k : ℕ) (run : List Strike) → j ≤ k → Ascends k run → Ascends j run
ascends_earlier j k [] le ascends = tt
ascends_earlier j k (s ∷ run) le ascends = (omega (arith, le, ascends.0), ascends.1)

-- the strike after a run has a number above all of the run
last_above : (k : ℕ) (run : List Strike) (s : Strike) (more : List Strike) → Ascends k (run ++ s ∷ more) → k ≤ s.number
last_above k [] s more ascends = ascends.0
last_above k (r ∷ run) s more ascends = let above = last_above (r.number + 1) run s more ascends.1 in omega (arith, above, ascends.0)

-- one of these strikes is of flip number i, at this target
abbrev pub HasStrike : ℕ → Target → List Strike → Type 0
HasStrike i target [] = ⊥
HasStrike i target (s ∷ run) = ((s.number ≡ i) × (s.target ≡ target)) ⊎ HasStrike i target run

not_again : (k : ℕ) (target : Target) (run : List Strike) (s : Strike) (more : List Strike) → Ascends k (run ++ s ∷ more) → HasStrike s.number target run → ⊥
not_again k target [] s more ascends has = has
not_again k target (r ∷ run) s more ascends has =
    ⊎_elim (λ it. let above = last_above (r.number + 1) run s more ascends.1 in omega (arith, above, it.0)) (λ later. not_again (r.number + 1) target run s more ascends.1 later) has

pub All_append : (P : Strike → Type 0) (xs ys : List Strike) → All P xs → All P ys → All P (xs ++ ys)
All_append P [] ys all more = more
All_append P (x ∷ xs) ys all more = All-cons P x (xs ++ ys) (All-head P x xs all) (All_append P xs ys (All-tail P x xs all) more)

-- strikes of this step, in front of others of it
pub due_run : (step : ℕ) (run rest : List Strike) → All (λ (s : Strike). s.at ≤ step) run → All (λ (s : Strike). step ≤ s.at) (run ++ rest)
    → due_at step (run ++ rest) ≡ run ++ due_at step rest
due_run step [] rest early late = refl
due_run step (s ∷ run) rest early late =
    let first : s.at ≤ step = All-head (λ (x : Strike). x.at ≤ step) s run early in
    let last : step ≤ s.at = All-head (λ (x : Strike). step ≤ x.at) s (run ++ rest) late in
    ap (λ (b : Bool). cond b (s ∷ due_at step (run ++ rest)) (due_at step (run ++ rest))) (eq-eqb s.at step (omega (arith, first, last)))
    ∙ ap (λ (xs : List Strike). s ∷ xs)
    (due_run step run rest (All-tail (λ (x : Strike). x.at ≤ step) s run early) (All-tail (λ (x : Strike). step ≤ x.at) s (run ++ rest) late))

pub got_within : (xs : List Flip) (i : ℕ) (x : Flip) → slice_get xs i ≡ Some x → i < length xs
got_within [] i x is = cc
got_within (y ∷ xs) zero x is = omega arith
got_within (y ∷ xs) (suc i) x is = let rest = got_within xs i x is in omega (arith, rest)

came_later : (core early step : ℕ) (target : Target) (flip : Option Flip) → early ≤ step → CameAs core early target flip → CameAs core step target flip
came_later core early step target None le came = came
came_later core early step target (Some flip) le came = (came.0, (omega (arith, le, came.1.0), came.1.1))

module _ (script : List Flip) (core step : ℕ) where
  -- a strike is of a flip of the script, for this step of the core and for a unit of its arrays
  pub record IsOfScript (a : CourseArrays) (s : Strike) : Type 0 where
    pub flip : Flip
    pub is : slice_get script s.number ≡ Some flip
    pub own : strikes_core core flip ≡ true
    pub due : time_of flip ≡ step
    pub target : s.target ≡ target_of flip
    pub of : IsOfArrays a s.target
    pub fits : s.bit < bits_of s.target

  -- the strikes of flips, numbered from k on, that are for this core and step
  abbrev pub due : ℕ → List Flip → List Strike
  due k list = due_at step (strikes_from (Core core) k list)

  pub due_each : (a : CourseArrays) (k : ℕ) (list : List Flip) → ((j : ℕ) → slice_get list j ≡ slice_get script (k + j)) → AllByRecursion (AimsAt core a) list
      → AllByRecursion (IsOfScript a) (due k list)
  due_each a k [] are aims = tt
  due_each a k (flip ∷ list) are aims =
      by_core (strikes_core core flip) refl (due_each a (k + 1) list (λ j. are (suc j) ∙ ap (slice_get script) (omega arith)) aims.1)
    where
      by_step : (b : Bool) → nat_eq (time_of flip) step ≡ b → strikes_core core flip ≡ true → AllByRecursion (IsOfScript a) (due (k + 1) list)
          → AllByRecursion (IsOfScript a) (cond b (strike_of (k, flip) ∷ due (k + 1) list) (due (k + 1) list))
      by_step true now own rest = (
        record {
          flip = flip;
          is = ap (slice_get script) (omega arith) ∙ sym (are 0);
          own = own;
          due = eqb-true (time_of flip) step now;
          target = refl;
          of = (aims.0 own).0;
          fits = (aims.0 own).1;
        },
        rest,
      )
      by_step false other own rest = rest

      by_core : (b : Bool) → strikes_core core flip ≡ b → AllByRecursion (IsOfScript a) (due (k + 1) list)
          → AllByRecursion (IsOfScript a) (due_at step (cond b (strike_of (k, flip) ∷ strikes_from (Core core) (k + 1) list) (strikes_from (Core core) (k + 1) list)))
      by_core true own rest = by_step (nat_eq (time_of flip) step) refl own rest
      by_core false other rest = rest

  pub due_ascends : (k : ℕ) (list : List Flip) → Ascends k (due k list)
  due_ascends k [] = tt
  due_ascends k (flip ∷ list) = by_core (strikes_core core flip) (due_ascends (k + 1) list)
    where
      by_step : (b : Bool) → Ascends (k + 1) (due (k + 1) list) → Ascends k (cond b (strike_of (k, flip) ∷ due (k + 1) list) (due (k + 1) list))
      by_step true rest = (omega arith, rest)
      by_step false rest = ascends_earlier k (k + 1) (due (k + 1) list) (omega arith) rest

      by_core : (b : Bool) → Ascends (k + 1) (due (k + 1) list)
          → Ascends k (due_at step (cond b (strike_of (k, flip) ∷ strikes_from (Core core) (k + 1) list) (strikes_from (Core core) (k + 1) list)))
      by_core true rest = by_step (nat_eq (time_of flip) step) rest
      by_core false rest = ascends_earlier k (k + 1) (due (k + 1) list) (omega arith) rest

  pub due_is : due_at step (strikes_of (Core core) script) ≡ due 0 script
  due_is = ap (due_at step) (sym (strikes_numbered (Core core) 0 script))

  -- ---- which flips struck

  abbrev AreOfScript : CourseArrays → List Strike → Type 0
  AreOfScript a run = AllByRecursion (IsOfScript a) run

  strikes_struck : (i : ℕ) (target : Target) (run : List Strike) (a : CourseArrays) → AllByRecursion (λ (s : Strike). IsOfArrays a s.target) run → IsOfArrays a target
      → has_struck i (history_of (fold with_strike a run) target) ≡ true → (has_struck i (history_of a target) ≡ true) ⊎ HasStrike i target run
  strikes_struck i target [] a all of struck = inl struck
  strikes_struck i target (s ∷ run) a all of struck =
      let stay = units_stay a (with_strike a s) (shapes (s ∷ []) a) in
      ⊎_elim
      (λ before. ⊎_elim (λ old. inl old) (λ it. inr (inl it)) (in_arrays i s.number s.bit s.target target a all.0 of before))
      (λ later. inr (inr later))
      (strikes_struck i target run (with_strike a s) (each_weaker (λ (r : Strike). IsOfArrays a r.target) (λ (r : Strike). IsOfArrays (with_strike a s) r.target) run (λ r. stay r.target) all.1)
      (stay target of) struck)

  targets_of : (a : CourseArrays) (run : List Strike) → AreOfScript a run → AllByRecursion (λ (s : Strike). IsOfArrays a s.target) run
  targets_of a run all = each_weaker (IsOfScript a) (λ (s : Strike). IsOfArrays a s.target) run (λ s of. of.of) all

  came_due : (a : CourseArrays) (i : ℕ) (target : Target) (run : List Strike) → AreOfScript a run → HasStrike i target run → CameAs core (step + 1) target (slice_get script i)
  came_due a i target [] all has = absurd has
  came_due a i target (s ∷ run) all has =
      ⊎_elim
      (λ it.
      let of = all.0 in
      let now : time_of of.flip ≡ step = of.due in
      subst (CameAs core (step + 1) target) (sym of.is ∙ ap (slice_get script) it.0) (of.own, (omega (arith, now), sym of.target ∙ it.1)))
      (λ later. came_due a i target run all.1 later) has

  module _ (a : CourseArrays) (came : Came script core step a) (run : List Strike) where
    -- the target of a unit after the run
    back : (target : Target) → IsOfArrays (fold with_strike a run) target → IsOfArrays a target
    back target of = units_stay (fold with_strike a run) a (λ fetch. sym (shapes run a fetch)) target of

    -- a strike that comes next struck no unit yet
    pub next_to_come : (s : Strike) (more : List Strike) → Ascends 0 (run ++ s ∷ more) → AreOfScript a (run ++ s ∷ more) → (target : Target) → IsOfArrays (fold with_strike a run) target
        → has_struck s.number (history_of (fold with_strike a run) target) ≡ false
    next_to_come s more ascends all target of = elim (cases_Bool (has_struck s.number (history_of (fold with_strike a run) target))) [
      | inl struck ↦
          let its : IsOfScript a s = (each_second (IsOfScript a) run (s ∷ more) all).0 in
          let now : time_of its.flip ≡ step = its.due in
          absurd
          (⊎_elim
          (λ old. let before : CameAs core step target (Some its.flip) = subst (CameAs core step target) its.is (came s.number target (back target of) old) in omega (arith, before.1.0, now))
          (λ again. not_again 0 target run s more ascends again)
          (strikes_struck s.number target run a (targets_of a run (each_first (IsOfScript a) run (s ∷ more) all)) (back target of) struck))
      | inr none ↦ none
    ]

    pub came_next : AreOfScript a run → Came script core (step + 1) (fold with_strike a run)
    came_next all i target of struck =
        ⊎_elim (λ old. came_later core step (step + 1) target (slice_get script i) (omega arith) (came i target (back target of) old)) (λ now. came_due a i target run all now)
        (strikes_struck i target run a (targets_of a run all) (back target of) struck)
