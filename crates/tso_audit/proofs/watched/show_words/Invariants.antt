use Rattle.std.proofs.Common.{◌<◌, ℕ, IfSome, slice_get}
use Rattle.tso_audit.specs.LastPlaces.{ShowsLeft}
use Rattle.tso_audit.proofs.watched.show_words.Given as goal

abbrev pub invariant-loop-word : goal.invariant-loop-word
invariant-loop-word l = (i : ℕ) → i < l.word-index → IfSome (slice_get l.watch i) (ShowsLeft l.order l.at_start l.places)
