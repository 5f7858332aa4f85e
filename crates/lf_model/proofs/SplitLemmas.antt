-- A rule about the places of an order, by splits of the order.
use Rattle.std.proofs.Common.{◌≡◌, ℕ, zero, suc, ◌+◌, List, [], ◌∷◌, ◌++◌, take, drop, refl, ap, Option, Some, None, add-one}
use Rattle.std.specs.List.{slice_get}
use Rattle.std.specs.Option.{IfSome}
use Rattle.lf_model.specs.Places.{FailsNowhereIn}
use Rattle.lf_model.specs.declared.trace.Op.{Op}

pub split_at : {X : Type 0} (xs : List X) (i : ℕ) (x : X) → slice_get xs i ≡ Some x → xs ≡ take i xs ++ (x ∷ drop (i + 1) xs)
split_at {X} [] i x e = absurd cc
split_at {X} (y ∷ ys) zero x e = cc
split_at {X} (y ∷ ys) (suc i) x e = rw (add-one (suc i)) (ap (λ (zs : List X). y ∷ zs) (rw add-one at (split_at ys i x e)))

-- a rule that holds at each split of the order fails nowhere
pub nowhere : (Rule : List Op → Op → List Op → Type 0) (order : List Op)
    → ((earlier later : List Op) (o : Op) → order ≡ earlier ++ (o ∷ later) → Rule earlier o later) → FailsNowhereIn Rule order
nowhere Rule order f i within = at_split (slice_get order i) refl
  where
    at_split : (found : Option Op) → slice_get order i ≡ found → IfSome found (λ o. Rule (take i order) o (drop (i + 1) order))
    at_split None e = tt
    at_split (Some o) e = f (take i order) (drop (i + 1) order) o (split_at order i o e)
