use Rattle.tso_audit.specs.LastPlaces.{HasLaterPlaces}
use Rattle.tso_audit.proofs.watched.note_all.Given as goal

abbrev pub invariant-loop-i : goal.invariant-loop-i
invariant-loop-i l = HasLaterPlaces l.order 0 l.i 0 l.places
