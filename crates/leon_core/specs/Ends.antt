-- What a core leaves at its end.
use Rattle.std.specs.Prelude.{◌≡◌, List, []}
use Rattle.core_parts.specs.CoreValue.{CoreValue}
use Rattle.core_parts.specs.Phases.{state_of_core}
use Rattle.core_parts.specs.PortState.{arrays_in}
use Rattle.core_parts.specs.declared.phase.CoreState.{CoreState}
use Rattle.core_parts.specs.declared.phase.CoreState.TheVariants.{Running, Draining, Ended}
use Rattle.core_course.specs.Result.{result_of}
use Rattle.lf_model.specs.Ledger.FlipFate.{flip_fates}
use Rattle.lf_model.specs.Records.CoreRecord.{of_core_alone}
use Rattle.lf_model.specs.declared.record.CoreRecord.{CoreRecord}
use Rattle.lf_model.specs.declared.trace.CoreEnd.{CoreEnd}
use Rattle.lf_model.specs.declared.trace.Fate.{Fate}

abbrev pub IsEnded : CoreState → Type 0
IsEnded Running = ⊥
IsEnded Draining = ⊥
IsEnded (Ended end) = Unit {0}

-- the fates of the script's flips, by its arrays alone
abbrev pub fates_of : CoreValue → List Fate
fates_of v = flip_fates v.setup.flips [] (of_core_alone v.arch.core (arrays_in v.ports))

-- its record, where it ended so
abbrev pub record_by : CoreValue → CoreEnd → CoreRecord
record_by v end = record { result = result_of v end; ops = v.ops; seen = v.seen_by; named = v.named; fates = fates_of v }

abbrev pub LeavesBy : CoreValue → CoreRecord → CoreState → Type 0
LeavesBy v kept (Ended end) = kept ≡ record_by v end
LeavesBy v kept Running = ⊥
LeavesBy v kept Draining = ⊥

abbrev pub Leaves : CoreValue → CoreRecord → Type 0
Leaves v kept = LeavesBy v kept (state_of_core v)
