-- What became of a flip of the script, as the arrays of a core tell it.
use Rattle.std.specs.Prelude.{ℕ, []}
use Rattle.lf_model.specs.Course.Arrays.{Arrays}
use Rattle.lf_model.specs.Fates.{fate_of}
use Rattle.lf_model.specs.Ledger.FlipFate.{unit_history, budget_of}
use Rattle.lf_model.specs.Records.CoreRecord.{of_core_alone}
use Rattle.lf_model.specs.declared.flip.Flip.{Flip}
use Rattle.lf_model.specs.declared.trace.Fate.{Fate}
use Rattle.lf_model.specs.declared.trace.Fate.TheVariants.{Late, Declined, Discarded, Repaired, Stopped, Overwritten, Dormant}

-- the fate of a flip, with its number, by the arrays of this core: flips of memory and of other cores are late
abbrev pub own_fate : ℕ → Arrays → ℕ → Flip → Fate
own_fate core a number flip = fate_of (budget_of flip) number (unit_history [] (of_core_alone core a) flip)

-- the first of two fates, unless it is late
abbrev pub unless_late : Fate → Fate → Fate
unless_late Late second = second
unless_late Declined second = Declined
unless_late Discarded second = Discarded
unless_late Repaired second = Repaired
unless_late Stopped second = Stopped
unless_late Overwritten second = Overwritten
unless_late Dormant second = Dormant
