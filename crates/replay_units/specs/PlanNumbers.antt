-- The strikes of a plan are of different flips of the script.
use Rattle.std.specs.Prelude.{◌≡◌, ◌≢◌, true, List, [], ◌∷◌, Some, slice_get}
use Rattle.std.specs.List.{AllByRecursion}
use Rattle.flip_ledger.specs.Plan.{is_of, strike_of}
use Rattle.flip_ledger.specs.declared.plan.Owner.{Owner}
use Rattle.flip_ledger.specs.declared.plan.Strike.{Strike}
use Rattle.lf_model.specs.declared.flip.Flip.{Flip}

-- it is the strike of a flip of the script, at a unit of an owner
pub record IsOf (owner : Owner) (script : List Flip) (strike : Strike) : Type 0 where
  pub flip : Flip
  pub owned : is_of owner flip ≡ true
  pub flip_is : slice_get script strike.number ≡ Some flip
  pub strike_is : strike ≡ strike_of (strike.number, flip)

-- no two have one number
abbrev pub AreApart : List Strike → Type 0
AreApart [] = Unit {0}
AreApart (strike ∷ plan) = AllByRecursion (λ other. other.number ≢ strike.number) plan × AreApart plan
