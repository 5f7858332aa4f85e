-- What a local step changes besides what its instruction does.
use Rattle.std.specs.Prelude.{ℕ, ◌<◌, ◌∷◌, List}
use Rattle.lf_model.specs.Caches.Slot.{befalls}
use Rattle.lf_model.specs.Flips.{Moment}
use Rattle.lf_model.specs.Flips.Moment.{Named}
use Rattle.lf_model.specs.declared.step.Did.{Did}
use Rattle.lf_model.specs.declared.step.Did.TheVariants.{Retired, Turned, Need, Halt, Stop}

-- the histories of the register cells, of which the error trap names the bad one
abbrev pub named_after : Did → List (List Moment) → List (List Moment)
named_after Retired cells = cells
named_after Turned cells = cells
named_after (Need turn) cells = cells
named_after (Halt tt_) cells = cells
named_after (Stop tt_ cell syn) cells = befalls (λ h. Named ∷ h) cell cells

-- that cell is one of so many
abbrev pub NamesCellIn : ℕ → Did → Type 0
NamesCellIn n Retired = Unit {0}
NamesCellIn n Turned = Unit {0}
NamesCellIn n (Need turn) = Unit {0}
NamesCellIn n (Halt tt_) = Unit {0}
NamesCellIn n (Stop tt_ cell syn) = cell < n

-- 1 where the step ends without a turn
abbrev pub ends_after : Did → ℕ
ends_after Retired = 1
ends_after Turned = 1
ends_after (Need turn) = 0
ends_after (Halt tt_) = 1
ends_after (Stop tt_ cell syn) = 1
