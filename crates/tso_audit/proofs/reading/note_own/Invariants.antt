use Rattle.std.proofs.Common.{◌≡◌, ◌<◌, ◌≤◌, ℕ, true, get_or}
use Rattle.tso_audit.specs.LastPlaces.{store_of, HasLaterPlaces}
use Rattle.tso_thread.specs.ReplayState.{no_op}
use Rattle.tso_audit.proofs.reading.note_own.Given as goal

abbrev pub invariant-loop-j : goal.invariant-loop-j
invariant-loop-j l = record {
  places : (i : ℕ) → HasLaterPlaces l.order l.core i l.from l.fn.places → HasLaterPlaces l.order l.core i l.j l.places;
  below : (j : ℕ) → l.from ≤ j → j < l.j → store_of l.core (get_or l.order j no_op) ≡ true → (get_or l.order j no_op).k < l.k;
}
