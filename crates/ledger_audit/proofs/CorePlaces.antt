-- The place of a core in two accounts: each has that core, with the same account, or neither has it.
use Rattle.std.proofs.Common.{◌≡◌, ◌∙◌, ◌≤◌, ℕ, zero, suc, List, [], ◌∷◌, length, map, slice_get, Option, Some, None, refl, ap, sym, arith, add-one}
use Rattle.std.specs.Option.{option_map}
use Rattle.std.proofs.lemmas.Option.{slice_get-map, slice_get_past}
use Rattle.lf_model.specs.Ledger.Account.{core_reported}
use Rattle.lf_model.specs.declared.trace.CoreResult.{CoreResult}
use Rattle.lf_model.specs.declared.trace.Trace.{Trace}
use Rattle.ledger_audit.proofs.NumberedPlaces.{numbered_at}
use Rattle.ledger_audit.specs.Account.{core_given}
use Rattle.ledger_audit.specs.FirstPlaces.{SameCoreAt}
use Rattle.ledger_audit.specs.declared.given.CoreGiven.{CoreGiven}

past_end : {X : Type 0} (xs : List X) (i : ℕ) → slice_get xs i ≡ None → length xs ≤ i
past_end [] i none = omega arith
past_end (x ∷ xs) zero none = absurd cc
past_end (x ∷ xs) (suc i) none = let rest = past_end xs i none in omega (arith, rest, add-one i)

module _ (given : List CoreGiven) (trace : Trace) (core : ℕ) where
  -- by what is at that place
  abbrev Same : Option CoreGiven → Option CoreResult → Type 0
  Same g r = option_map core_given g ≡ option_map (core_reported trace core) r

  given_is : slice_get (map core_given given) core ≡ option_map core_given (slice_get given core)
  given_is = slice_get-map core_given given core

  pub here : (g : Option CoreGiven) (r : Option CoreResult) → slice_get given core ≡ g → slice_get trace.cores core ≡ r → Same g r → SameCoreAt given trace core
  here g r is_given is_told same =
      given_is ∙ (ap (option_map core_given) is_given ∙ (same ∙ sym (numbered_at (core_reported trace) trace.cores core ∙ ap (option_map (core_reported trace core)) is_told)))

  pub at_place : (g : Option CoreGiven) (r : Option CoreResult) → slice_get given core ≡ g → slice_get trace.cores core ≡ r → SameCoreAt given trace core → Same g r
  at_place g r is_given is_told same =
      sym (ap (option_map core_given) is_given) ∙ (sym given_is ∙ (same ∙ (numbered_at (core_reported trace) trace.cores core ∙ ap (option_map (core_reported trace core)) is_told)))

  pub neither : length given ≤ core → length trace.cores ≤ core → SameCoreAt given trace core
  neither none_given none_told = here None None (slice_get_past given core none_given) (slice_get_past trace.cores core none_told) refl

  pub given_alone : (g : CoreGiven) → slice_get given core ≡ Some g → length trace.cores ≤ core → SameCoreAt given trace core → ⊥
  given_alone g is_given none_told same = let e = at_place (Some g) None is_given (slice_get_past trace.cores core none_told) same in absurd cc

  pub none_told : length given ≤ core → SameCoreAt given trace core → length trace.cores ≤ core
  none_told none_given same = past_end trace.cores core (by_result (slice_get trace.cores core) (at_place None (slice_get trace.cores core) (slice_get_past given core none_given) refl same))
    where
      by_result : (r : Option CoreResult) → Same None r → r ≡ None
      by_result None e = refl
      by_result (Some r) e = absurd cc
