-- The strikes of a plan are flips of the script, each once.
use Rattle.std.proofs.Common.{◌≡◌, ◌≢◌, ℕ, suc, ◌+◌, ◌<◌, ◌≤◌, Bool, true, false, cond, nat_eq, List, [], ◌∷◌, Some, refl, sym, ap, ◌∙◌, subst, arith}
use Rattle.std.specs.Prelude.{filter, slice_get}
use Rattle.std.specs.List.{AllByRecursion}
use Rattle.std.proofs.lemmas.Bool.{eq-eqb, false≢true}
use Rattle.flip_ledger.proofs.PlanLemmas.{strikes_from, strikes_numbered}
use Rattle.flip_ledger.specs.Plan.{is_of, strike_of, strikes_of, is_at, due_at, time_of, IsPlanned}
use Rattle.flip_ledger.specs.declared.plan.Owner.{Owner}
use Rattle.flip_ledger.specs.declared.plan.Strike.{Strike}
use Rattle.lf_model.proofs.EachLemmas.{each_weaker}
use Rattle.lf_model.specs.declared.flip.Flip.{Flip}
use Rattle.replay_units.specs.PlanNumbers.{IsOf, AreApart}

-- ---- lists of strikes

-- what holds of all holds of those that pass a test
each_filter : (P : Strike → Type 0) (p : Strike → Bool) (xs : List Strike) → AllByRecursion P xs → AllByRecursion P (filter p xs)
each_filter P p [] all = tt
each_filter P p (x ∷ xs) all = by (each_filter P p xs all.1) (p x)
  where
    by : AllByRecursion P (filter p xs) → (b : Bool) → AllByRecursion P (cond b (x ∷ filter p xs) (filter p xs))
    by rest true = (all.0, rest)
    by rest false = rest

-- what holds of those of each time holds of all
each_due : (P : Strike → Type 0) (xs : List Strike) → ((t : ℕ) → AllByRecursion P (due_at t xs)) → AllByRecursion P xs
each_due P [] all = tt
each_due P (x ∷ xs) all = (
  (subst (λ (b : Bool). AllByRecursion P (cond b (x ∷ due_at x.at xs) (due_at x.at xs))) (eq-eqb x.at x.at refl) (all x.at)).0,
  each_due P xs (λ t. rest t (nat_eq x.at t) (all t)),
)
  where
    rest : (t : ℕ) (b : Bool) → AllByRecursion P (cond b (x ∷ due_at t xs) (due_at t xs)) → AllByRecursion P (due_at t xs)
    rest t true h = h.1
    rest t false h = h

-- and of one time of those of this time
due_each : (P : Strike → Type 0) (t : ℕ) (xs : List Strike) → AllByRecursion P (due_at t xs) → AllByRecursion (λ (x : Strike). x.at ≡ t → P x) xs
due_each P t [] all = tt
due_each P t (x ∷ xs) all = by (λ h. due_each P t xs h) (nat_eq x.at t) refl all
  where
    by : (AllByRecursion P (due_at t xs) → AllByRecursion (λ (y : Strike). y.at ≡ t → P y) xs) → (b : Bool) → nat_eq x.at t ≡ b
        → AllByRecursion P (cond b (x ∷ due_at t xs) (due_at t xs)) → (x.at ≡ t → P x) × AllByRecursion (λ (y : Strike). y.at ≡ t → P y) xs
    by rest true is h = ((λ same. h.0), rest h.1)
    by rest false is h = ((λ same. absurd (false≢true (sym is ∙ eq-eqb x.at t same))), rest h)

-- numbers ascend
abbrev AreAscending : List Strike → Type 0
AreAscending [] = Unit {0}
AreAscending (s ∷ xs) = AllByRecursion (λ (r : Strike). s.number < r.number) xs × AreAscending xs

ascending_filter : (p : Strike → Bool) (xs : List Strike) → AreAscending xs → AreAscending (filter p xs)
ascending_filter p [] all = tt
ascending_filter p (x ∷ xs) all = by (ascending_filter p xs all.1) (p x)
  where
    by : AreAscending (filter p xs) → (b : Bool) → AreAscending (cond b (x ∷ filter p xs) (filter p xs))
    by rest true = (each_filter (λ (r : Strike). x.number < r.number) p xs all.0, rest)
    by rest false = rest

-- ---- the strikes of a script

module _ (owner : Owner) where
  of_script : (script : List Flip) (k : ℕ) (flips : List Flip) → ((j : ℕ) → slice_get flips j ≡ slice_get script (k + j)) → AllByRecursion (IsOf owner script) (strikes_from owner k flips)
  of_script script k [] are = tt
  of_script script k (f ∷ flips) are = by (of_script script (k + 1) flips (λ j. are (suc j) ∙ ap (slice_get script) (omega arith))) (is_of owner f) refl
    where
      by : AllByRecursion (IsOf owner script) (strikes_from owner (k + 1) flips) → (b : Bool) → is_of owner f ≡ b → AllByRecursion (IsOf owner script) (cond b (strike_of (k, f) ∷ strikes_from owner (k + 1) flips) (strikes_from owner (k + 1) flips))
      by rest true is = (record { flip = f; owned = is; flip_is = sym (are 0 ∙ ap (slice_get script) (omega arith)); strike_is = refl }, rest)
      by rest false is = rest

  from : (j k : ℕ) (flips : List Flip) → j ≤ k → AllByRecursion (λ (r : Strike). j ≤ r.number) (strikes_from owner k flips)
  from j k [] le = tt
  from j k (f ∷ flips) le = by (from j (k + 1) flips (omega (arith, le))) (is_of owner f)
    where
      by : AllByRecursion (λ (r : Strike). j ≤ r.number) (strikes_from owner (k + 1) flips) → (b : Bool) → AllByRecursion (λ (r : Strike). j ≤ r.number) (cond b (strike_of (k, f) ∷ strikes_from owner (k + 1) flips) (strikes_from owner (k + 1) flips))
      by rest true = (le, rest)
      by rest false = rest

  ascending : (k : ℕ) (flips : List Flip) → AreAscending (strikes_from owner k flips)
  ascending k [] = tt
  ascending k (f ∷ flips) = by (ascending (k + 1) flips) (is_of owner f)
    where
      by : AreAscending (strikes_from owner (k + 1) flips) → (b : Bool) → AreAscending (cond b (strike_of (k, f) ∷ strikes_from owner (k + 1) flips) (strikes_from owner (k + 1) flips))
      by rest true = (each_weaker (λ (r : Strike). k + 1 ≤ r.number) (λ (r : Strike). k < r.number) (strikes_from owner (k + 1) flips) (λ r le. omega (arith, le)) (from (k + 1) (k + 1) flips (omega arith)), rest)
      by rest false = rest

  -- ---- a plan

  module _ (script : List Flip) (plan : List Strike) (planned : IsPlanned owner script 0 plan) where
    strikes_are : strikes_from owner 0 script ≡ strikes_of owner script
    strikes_are = strikes_numbered owner 0 script

    due_is : (t : ℕ) → due_at t plan ≡ due_at t (strikes_from owner 0 script)
    due_is t = planned.due t (omega arith) ∙ ap (due_at t) (sym strikes_are)

    pub plan_of_script : AllByRecursion (IsOf owner script) plan
    plan_of_script =
        each_due (IsOf owner script) plan
        (λ t. subst (AllByRecursion (IsOf owner script)) (sym (due_is t))
        (each_filter (IsOf owner script) (is_at t) (strikes_from owner 0 script) (of_script script 0 script (λ j. ap (slice_get script) (omega arith)))))

    pub plan_apart : AreApart plan
    plan_apart = all_apart plan plan_of_script (λ t. subst AreAscending (sym (due_is t)) (ascending_filter (is_at t) (strikes_from owner 0 script) (ascending 0 script)))
      where
        -- strikes of one number are of one time
        one_time : (s r : Strike) → IsOf owner script s → IsOf owner script r → r.number ≡ s.number → r.at ≡ s.at
        one_time s r of_s of_r same =
            let flips : Some of_r.flip ≡ Some of_s.flip = sym of_r.flip_is ∙ ap (slice_get script) same ∙ of_s.flip_is in
            let flip : of_r.flip ≡ of_s.flip = cc in
            ap (λ (x : Strike). x.at) of_r.strike_is ∙ ap time_of flip ∙ sym (ap (λ (x : Strike). x.at) of_s.strike_is)

        others : (s : Strike) (rest : List Strike) → IsOf owner script s → AllByRecursion (IsOf owner script) rest → AllByRecursion (λ (r : Strike). r.at ≡ s.at → s.number < r.number) rest
            → AllByRecursion (λ (r : Strike). r.number ≢ s.number) rest
        others s [] of_s of_rest above = tt
        others s (r ∷ rest) of_s of_rest above =
            ((λ same. let lt : s.number < r.number = above.0 (one_time s r of_s of_rest.0 same) in omega (arith, lt, same)), others s rest of_s of_rest.1 above.1)

        all_apart : (xs : List Strike) → AllByRecursion (IsOf owner script) xs → ((t : ℕ) → AreAscending (due_at t xs)) → AreApart xs
        all_apart [] of_xs up = tt
        all_apart (s ∷ xs) of_xs up = (
          others s xs of_xs.0 of_xs.1
              (due_each (λ (r : Strike). s.number < r.number) s.at xs
              (subst (λ (b : Bool). AreAscending (cond b (s ∷ due_at s.at xs) (due_at s.at xs))) (eq-eqb s.at s.at refl) (up s.at)).0),
          all_apart xs of_xs.1 (λ t. rest t (nat_eq s.at t) (up t)),
        )
          where
            rest : (t : ℕ) (b : Bool) → AreAscending (cond b (s ∷ due_at t xs) (due_at t xs)) → AreAscending (due_at t xs)
            rest t true h = h.1
            rest t false h = h
