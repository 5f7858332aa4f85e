-- An element of the walk along an order: by what comes before it, itself, and what comes later.
use Rattle.std.proofs.Common.{◌≡◌, ◌∙◌, ℕ, zero, suc, ◌+◌, ◌<◌, List, [], ◌∷◌, length, take, drop, get_or, ap, sym, refl, Some, add-one, arith}
use Rattle.std.specs.Prelude.{slice_get, fold}
use Rattle.std.proofs.lemmas.List.{take_more}
use Rattle.std.proofs.lemmas.List.Sums.{fold_push}
use Rattle.lf_model.specs.Ledger.OrderAccount.{OrderAccount, Before, before_all, after_kind, along}
use Rattle.lf_model.specs.declared.trace.Op.{Op}

abbrev pub after_op : Before → Op → Before
after_op b o = after_kind o b o.kind

-- what comes before a place
abbrev pub before_at : List Op → ℕ → Before
before_at order i = fold after_op before_all (take i order)

module _ (account : Before → Op → List Op → OrderAccount) where
  along_from : (b : Before) (os : List Op) (i : ℕ) (d : Op) → i < length os → slice_get (along account b os) i ≡ Some (account (fold after_op b (take i os)) (get_or os i d) (drop (i + 1) os))
  along_from b [] i d low = absurd (omega (arith, low))
  along_from b (o ∷ os) zero d low = refl
  along_from b (o ∷ os) (suc i) d low = rw (add-one (suc i)) (rw add-one at (along_from (after_op b o) os i d (omega (arith, low))))

  pub along_at : (os : List Op) (i : ℕ) (d : Op) → i < length os → slice_get (along account before_all os) i ≡ Some (account (before_at os i) (get_or os i d) (drop (i + 1) os))
  along_at os i d low = along_from before_all os i d low

pub before_more : (order : List Op) (i : ℕ) (d : Op) → i < length order → after_op (before_at order i) (get_or order i d) ≡ before_at order (i + 1)
before_more order i d low =
    let more : before_at order (i + 1) ≡ after_op (before_at order i) (get_or order i d)
    = ap (fold after_op before_all) (take_more order i d low) ∙ fold_push after_op before_all (take i order) (get_or order i d) in
    sym more
