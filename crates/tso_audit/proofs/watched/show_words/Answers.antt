use Rattle.tso_audit.proofs.LaterPlaces.{table_within, table_touches}
use Rattle.std.proofs.Common.{length}
use Rattle.tso_audit.proofs.watched.show_words.Goals as goal

pub shows_word-requires-clause-within : goal.shows_word-requires-clause-within
shows_word-requires-clause-within c = table_within c.args.order.now 0 (length c.args.order.now) 0 c.args.places.now c.requires.noted

pub shows_word-requires-clause-touched : goal.shows_word-requires-clause-touched
shows_word-requires-clause-touched c = table_touches c.args.order.now 0 (length c.args.order.now) 0 c.args.places.now c.requires.noted
