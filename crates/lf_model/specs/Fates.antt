-- What becomes of each flip of the script: the first fate whose condition holds of its unit's history. The order of the
-- fates is this machine's own.
use Rattle.std.specs.Prelude.{ℕ, ◌==◌, ◌&&◌, ◌||◌, nat_lt, not, Bool, true, false, List, [], ◌∷◌, length, if◌then◌else◌}
use Rattle.std.specs.List.{list_any}
use Rattle.lf_model.specs.Flips.{How, Moment, standing}
use Rattle.lf_model.specs.Flips.How.{Whole, ByPartStore, ByAtomic, ByFix, ByReadBack}
use Rattle.lf_model.specs.Flips.Moment.{Struck, Written, Found, Named}
use Rattle.lf_model.specs.declared.trace.Fate.{Fate}
use Rattle.lf_model.specs.declared.trace.Fate.TheVariants.{Late, Declined, Repaired, Discarded, Stopped, Overwritten, Dormant}

-- at some moment of a history, with what came before it, this holds
abbrev pub happened : (Moment → List Moment → Bool) → List Moment → Bool
happened holds [] = false
happened holds (moment ∷ h) = holds moment h || happened holds h

-- flip number i strikes
abbrev pub strikes : ℕ → Moment → List Moment → Bool
strikes i (Struck number bit) h = number == i
strikes i (Written how) h = false
strikes i Found h = false
strikes i Named h = false

-- flip number i strikes and is applied: fewer flips than the budget stand
abbrev pub is_applied : ℕ → ℕ → Moment → List Moment → Bool
is_applied budget i (Struck number bit) h = number == i && nat_lt (length (standing budget h)) budget
is_applied budget i (Written how) h = false
is_applied budget i Found h = false
is_applied budget i Named h = false

-- flip number i stands in the unit
abbrev pub stands : ℕ → ℕ → List Moment → Bool
stands budget i h = list_any (λ flip. flip.number == i) (standing budget h)

-- a check finds the unit struck by flip number i
abbrev pub is_found : ℕ → ℕ → Moment → List Moment → Bool
is_found budget i Found h = stands budget i h
is_found budget i (Struck number bit) h = false
is_found budget i (Written how) h = false
is_found budget i Named h = false

-- an error trap names the unit while flip number i stands in it
abbrev pub is_named : ℕ → ℕ → Moment → List Moment → Bool
is_named budget i Named h = stands budget i h
is_named budget i (Struck number bit) h = false
is_named budget i (Written how) h = false
is_named budget i Found h = false

abbrev pub is_whole : How → Bool
is_whole Whole = true
is_whole ByPartStore = false
is_whole ByAtomic = false
is_whole ByFix = false
is_whole ByReadBack = false

-- the unit is written, with a correction, while flip number i stands in it
abbrev pub is_repaired : ℕ → ℕ → Moment → List Moment → Bool
is_repaired budget i (Written how) h = not (is_whole how) && stands budget i h
is_repaired budget i (Struck number bit) h = false
is_repaired budget i Found h = false
is_repaired budget i Named h = false

-- the unit is written whole while flip number i stands in it
abbrev pub is_overwritten : ℕ → ℕ → Moment → List Moment → Bool
is_overwritten budget i (Written how) h = is_whole how && stands budget i h
is_overwritten budget i (Struck number bit) h = false
is_overwritten budget i Found h = false
is_overwritten budget i Named h = false

-- the first fate whose condition holds, and else dormant
abbrev pub first_fate : List (Bool × Fate) → Fate
first_fate [] = Dormant
first_fate (row ∷ rows) = if row.0 then row.1 else first_fate rows

-- what became of flip number i of a unit with this budget and history
abbrev pub fate_of : ℕ → ℕ → List Moment → Fate
fate_of budget i h = first_fate (
    (not (happened (strikes i) h), Late)
    ∷ (not (happened (is_applied budget i) h), Declined)
    ∷ (happened (is_found budget i) h, Discarded)
    ∷ (happened (is_repaired budget i) h, Repaired)
    ∷ (happened (is_named budget i) h, Stopped)
    ∷ (happened (is_overwritten budget i) h, Overwritten)
    ∷ [])
