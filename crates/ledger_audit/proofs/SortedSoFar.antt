-- The last load, and the last lost store, tell how an operation comes after all of them, one operation further.
use Rattle.std.proofs.Common.{◌≡◌, ◌∙◌, ◌<◌, ◌≤◌, ◌+◌, ◌&&◌, ◌==◌, ◌⊎◌, ℕ, true, false, List, [], ◌∷◌, length, drop, get_or, subst, refl, inl, inr, Some, None, arith}
use Rattle.std.specs.Prelude.{nat_lt, nat_le}
use Rattle.std.specs.List.{list_all}
use Rattle.std.proofs.lemmas.Bool.{cases_Bool, and_parts, ltb-true, leb-true, lt-ltb, le-leb, le-ltb, eqb-true, eq-eqb}
use Rattle.std.proofs.lemmas.List.{drop_more}
use Rattle.lf_model.specs.Ledger.OrderAccount.{Before, comes_before}
use Rattle.lf_model.specs.Operation.{is_lost}
use Rattle.lf_model.specs.declared.trace.Op.{Op}
use Rattle.ledger_audit.specs.declared.sorted.SoFar.{SoFar}
use Rattle.ledger_audit.proofs.Along.{before_at, before_more}
use Rattle.ledger_audit.specs.Sorting.{after_last, Tells, SortedWith}

-- ---- core and program order

says : (b a : Op) → comes_before b a ≡ true → (a.core < b.core) ⊎ ((a.core ≡ b.core) × (a.k ≤ b.k))
says b a h = elim (cases_Bool (nat_lt a.core b.core)) [
  | inl less ↦ inl (ltb-true a.core b.core less)
  | inr not_less ↦
      let k = rw not_less at h in
      let parts = and_parts (a.core == b.core) (nat_le a.k b.k) k in
      inr (eqb-true a.core b.core parts.0, leb-true a.k b.k parts.1)
]

by_core : (b a : Op) → a.core < b.core → comes_before b a ≡ true
by_core b a less = rw (lt-ltb a.core b.core less) refl

by_number : (b a : Op) → a.core ≡ b.core → a.k ≤ b.k → comes_before b a ≡ true
by_number b a same less =
    let at_core : nat_lt a.core b.core ≡ false = le-ltb a.core b.core (omega (arith, same)) in
    rw (at_core, eq-eqb a.core b.core same, le-leb a.k b.k less) refl

passes_on : (c b a : Op) → comes_before c b ≡ true → comes_before b a ≡ true → comes_before c a ≡ true
passes_on c b a h k = elim (says c b h) [
  | inl less ↦ elim (says b a k) [
    | inl too ↦ by_core c a (omega (arith, less, too))
    | inr same ↦ by_core c a (omega (arith, less, same.0))
  ]
  | inr same ↦ elim (says b a k) [
    | inl less ↦ by_core c a (omega (arith, less, same.0))
    | inr too ↦ by_number c a (omega (arith, same.0, too.0)) (omega (arith, same.1, too.1))
  ]
]

all_before : (c b : Op) (os : List Op) → comes_before c b ≡ true → list_all (comes_before b) os ≡ true → list_all (comes_before c) os ≡ true
all_before c b [] h k = refl
all_before c b (o ∷ os) h k =
    let parts = and_parts (comes_before b o) (list_all (comes_before b) os) k in
    rw (passes_on c b o h parts.0, all_before c b os h parts.1) refl

-- after one that comes after all of them, it is enough to come after that one
last_tells : (c o : Op) (os : List Op) → list_all (comes_before o) os ≡ true → (comes_before c o && list_all (comes_before c) os) ≡ comes_before c o
last_tells c o os h = elim (cases_Bool (comes_before c o)) [
  | inl after ↦ rw (after, all_before c o os after h) refl
  | inr not_after ↦ rw not_after refl
]

-- ---- one operation further

module _ (so_far : SoFar) (b : Before) (o : Op) (tells : Tells so_far b) where
  pub more_loads : after_last o so_far.load ≡ true → Tells (record so_far { load = Some o }) (record b { loads = o ∷ b.loads })
  more_loads h = record { load_is = λ c. last_tells c o b.loads (tells.load_is o ∙ h); lost_is = tells.lost_is }

  pub more_entries : Tells (record so_far { load = None }) (record b { entries = b.entries + 1; loads = [] })
  more_entries = record { load_is = λ c. refl; lost_is = tells.lost_is }

  pub more_lost : after_last o so_far.lost ≡ true → Tells (record so_far { lost = Some o; ends_lost = true }) (record b { lost = o ∷ b.lost })
  more_lost h = record { load_is = tells.load_is; lost_is = λ c. last_tells c o b.lost (tells.lost_is o ∙ h) }

-- ---- at a place of an order

module _ (order : List Op) (i : ℕ) (d : Op) (within : i < length order) where
  pub later_lost : list_all is_lost (drop i order) ≡ true → list_all is_lost (drop (i + 1) order) ≡ true
  later_lost h = (and_parts (is_lost (get_or order i d)) (list_all is_lost (drop (i + 1) order)) (rw (drop_more order i d within) at h)).1

  pub tells_more : (so_far : SoFar) → SortedWith (before_at order i) (get_or order i d) (drop (i + 1) order) so_far → Tells so_far (before_at order (i + 1))
  tells_more so_far h = subst (Tells so_far) (before_more order i d within) h.tells
