use Rattle.std.proofs.Common.{◌<◌, ℕ, length}
use Rattle.lf_model.specs.Places.{AtPlace, FailsFirst}
use Rattle.tso_audit.specs.LastPlaces.{start_in, ValueOf}
use Rattle.tso_audit.proofs.reading.first_wrong_read_of_all.Given as goal

abbrev pub invariant-loop-core : goal.invariant-loop-core
invariant-loop-core l = FailsFirst (length l.order) (λ i. (c : ℕ) → c < l.core → AtPlace (ValueOf c (start_in l.at_start)) l.order i) l.first
