-- A rule and the places at which it fails. An audit tells the first; a good trace has none.
use Rattle.std.specs.Prelude.{ℕ, ◌+◌, ◌<◌, List, length, take, drop, Option, Some, None, IfSome, slice_get}
use Rattle.lf_model.specs.declared.trace.Op.{Op}

-- a rule over the places 0 to n - 1 holds at each of them, or this is the first at which it fails
abbrev pub FailsFirst : ℕ → (ℕ → Type 0) → Option ℕ → Type 0
FailsFirst n Holds None = (i : ℕ) → i < n → Holds i
FailsFirst n Holds (Some i) = (i < n) × (Holds i → ⊥) × ((j : ℕ) → j < i → Holds j)

abbrev pub FailsNowhere : ℕ → (ℕ → Type 0) → Type 0
FailsNowhere n Holds = FailsFirst n Holds None

-- a rule about an operation of an order: the earlier ones, the operation, and the later ones
abbrev pub AtPlace : (List Op → Op → List Op → Type 0) → List Op → ℕ → Type 0
AtPlace Rule order i = IfSome (slice_get order i) (λ o. Rule (take i order) o (drop (i + 1) order))

-- such a rule fails first at this place of the order, or at none
abbrev pub FailsFirstIn : (List Op → Op → List Op → Type 0) → List Op → Option ℕ → Type 0
FailsFirstIn Rule order place = FailsFirst (length order) (AtPlace Rule order) place

abbrev pub FailsNowhereIn : (List Op → Op → List Op → Type 0) → List Op → Type 0
FailsNowhereIn Rule order = FailsFirstIn Rule order None
