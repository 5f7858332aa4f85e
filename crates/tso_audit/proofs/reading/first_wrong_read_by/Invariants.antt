use Rattle.std.proofs.Common.{◌<◌, ◌≤◌, ℕ, length}
use Rattle.lf_model.specs.Places.{AtPlace}
use Rattle.tso_audit.specs.LastPlaces.{start_in, HasLaterPlaces, AreBeforeReads, ValueOf}
use Rattle.tso_audit.proofs.reading.first_wrong_read_by.Given as goal

abbrev pub invariant-loop-i : goal.invariant-loop-i
invariant-loop-i l = record {
  own : l.own ≤ length l.order;
  noted : HasLaterPlaces l.order l.core l.i l.own l.places;
  before : AreBeforeReads l.order l.core l.i l.own;
  held : (j : ℕ) → j < l.i → AtPlace (ValueOf l.core (start_in l.at_start)) l.order j;
}
