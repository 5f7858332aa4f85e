-- A rule at one place of a list, and the first place at which it fails.
use Rattle.std.proofs.Common.{◌<◌, ℕ, List, length, get_or, sym, subst, inl, inr, refl, Option, Some, None, IfSome}
use Rattle.std.specs.Prelude.{slice_get}
use Rattle.std.proofs.lemmas.Option.{slice_get-get_or}
use Rattle.lf_model.specs.Ledger.Rule.{TriedBefore, NoneLeft}
use Rattle.lf_model.specs.Places.{FailsFirst}
use Rattle.lf_model.specs.declared.place.Place.{Place}

module _ {X : Type 0} (P : X → Type 0) (xs : List X) (i : ℕ) (d : X) (within : i < length xs) where
  pub at_place : P (get_or xs i d) → IfSome (slice_get xs i) P
  at_place h = subst (λ o. IfSome o P) (sym (slice_get-get_or xs i d within)) h

  pub from_place : IfSome (slice_get xs i) P → P (get_or xs i d)
  from_place h = subst (λ o. IfSome o P) (slice_get-get_or xs i d within) h

-- the only rule of a first place
pub alone_none : (n : ℕ) (Holds : ℕ → Type 0) (place : ℕ → Place) → FailsFirst n Holds None → TriedBefore n Holds place NoneLeft None
alone_none n Holds place h = inl (h, refl)

pub tried_some : (n : ℕ) (Holds : ℕ → Type 0) (place : ℕ → Place) (Later : Option Place → Type 0) (i : ℕ) → FailsFirst n Holds (Some i) → TriedBefore n Holds place Later (Some (place i))
tried_some n Holds place Later i h = inr (i, h, refl)
