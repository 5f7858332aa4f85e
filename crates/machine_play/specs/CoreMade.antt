-- What a core has made so far, as a schedule sees it, and what is left then of all that it makes up to its end.
use Rattle.std.specs.Prelude.{ℕ, ◌≡◌, ◌+◌, ◌<◌, ◌≤◌, Bool, true, false, List, [], ◌∷◌, ◌++◌, length, count_by, drop}
use Rattle.std.specs.List.{AllByRecursion}
use Rattle.leon_core.specs.Moves.{StoresIn}
use Rattle.lf_model.specs.Names.{same_kind}
use Rattle.lf_model.specs.Promise.Turns.{CoreLeft}
use Rattle.lf_model.specs.declared.bus.Transfer.{Transfer}
use Rattle.lf_model.specs.declared.bus.TurnKind.TheVariants.{Store}

-- runs: it has steps left, and has not ended; ended: it has made all its steps and drains; then its steps, the steps in which its stores
-- retired, its transfers on the bus, and how many stores wait
pub record CoreMade : Type 0 where
  pub runs : Bool
  pub ended : Bool
  pub steps : ℕ
  pub stores : List ℕ
  pub transfers : List Transfer
  pub waiting : ℕ

-- the transfer drains a store
abbrev pub is_drain : Transfer → Bool
is_drain t = same_kind t.kind Store

-- its stores retired in steps that it made, and those that did not drain wait
pub record IsMade (c : CoreMade) : Type 0 where
  pub before : AllByRecursion (λ step. step < c.steps) c.stores
  pub waits : c.ended ≡ false → count_by is_drain c.transfers + c.waiting ≡ length c.stores
  pub at_end : c.ended ≡ true → c.runs ≡ false

-- ---- up to its end

-- all that it makes up to its end begins with what it has made, and the rest is of later steps; it makes more steps only where it runs, and
-- nothing where it has ended
pub record GoesOnTo (all : CoreLeft) (c : CoreMade) : Type 0 where
  pub none_made : all.made ≡ 0
  pub none_drained : all.drained ≡ 0
  pub steps : c.steps ≤ all.steps
  pub later_stores : List ℕ
  pub stores : all.stores ≡ c.stores ++ later_stores
  pub stores_later : AllByRecursion (λ step. c.steps ≤ step) later_stores
  pub later : List Transfer
  pub transfers : all.transfers ≡ c.transfers ++ later
  pub transfers_later : AllByRecursion (λ (t : Transfer). c.steps ≤ t.step) later
  pub all_made : c.runs ≡ false → all.steps ≡ c.steps
  pub none_left : c.ended ≡ true → later ≡ []

-- what is left of it
abbrev pub left_of : CoreLeft → CoreMade → CoreLeft
left_of all c = record all { made = c.steps; drained = count_by is_drain c.transfers; transfers = drop (length c.transfers) all.transfers }

-- ---- the same of all cores, in the order of their numbers

abbrev pub GoOnTo : List CoreLeft → List CoreMade → Type 0
GoOnTo [] [] = Unit {0}
GoOnTo [] (c ∷ cs) = ⊥
GoOnTo (all ∷ rest) [] = ⊥
GoOnTo (all ∷ rest) (c ∷ cs) = GoesOnTo all c × GoOnTo rest cs

abbrev pub left_of_each : List CoreLeft → List CoreMade → List CoreLeft
left_of_each [] cs = []
left_of_each (all ∷ rest) [] = []
left_of_each (all ∷ rest) (c ∷ cs) = left_of all c ∷ left_of_each rest cs

-- ---- what a core makes at an event

-- a step without a turn
pub record StepsAlone (c d : CoreMade) : Type 0 where
  pub runs : c.runs ≡ true
  pub steps : d.steps ≡ c.steps + 1
  pub stores : StoresIn c.steps c.stores d.stores
  pub transfers : d.transfers ≡ c.transfers

-- a step with a turn, which makes this transfer
pub record StepsWithTurn (t : Transfer) (c d : CoreMade) : Type 0 where
  pub runs : c.runs ≡ true
  pub steps : d.steps ≡ c.steps + 1
  pub stores : StoresIn c.steps c.stores d.stores
  pub transfers : d.transfers ≡ c.transfers ++ t ∷ []
  pub in_step : t.step ≡ c.steps

-- a drain after its last step, which makes this transfer
pub record DrainsLast (t : Transfer) (c d : CoreMade) : Type 0 where
  pub none_left : c.runs ≡ false
  pub unended : c.ended ≡ false
  pub still_none : d.runs ≡ false
  pub steps : d.steps ≡ c.steps
  pub stores : d.stores ≡ c.stores
  pub transfers : d.transfers ≡ c.transfers ++ t ∷ []
  pub after : c.steps ≤ t.step
