use Rattle.std.proofs.Common.{◌≡◌, ◌∙◌, true, sym}
use Rattle.tso_audit.proofs.LaterPlaces.{no_read, still_before, right_read, read_right, table_within, table_touches}
use Rattle.tso_audit.proofs.reading.try_read.Goals as goal

pub returns-then-not-is_read_of-clause-right : goal.returns-then-not-is_read_of-clause-right
returns-then-not-is_read_of-clause-right c =
    no_read c.args.order.now c.args.core c.args.i c.args.own c.args.own c.args.at_start.now c.args.places.now c.requires.place c.requires.within c.requires.before
    (sym c.is_read_of.ensures ∙ c.if-not-is_read_of.true)

pub reads_the_last-requires-clause-within : goal.reads_the_last-requires-clause-within
reads_the_last-requires-clause-within c =
    table_within c.args.order.now c.args.core c.args.i c.note_own-next.result c.note_own-next.new.places (c.note_own-next.ensures.places c.args.i c.requires.noted)

pub reads_the_last-requires-clause-touched : goal.reads_the_last-requires-clause-touched
reads_the_last-requires-clause-touched c =
    table_touches c.args.order.now c.args.core c.args.i c.note_own-next.result c.note_own-next.new.places (c.note_own-next.ensures.places c.args.i c.requires.noted)

pub returns-then-reads_the_last-clause-right : goal.returns-then-reads_the_last-clause-right
returns-then-reads_the_last-clause-right c =
    right_read c.args.order.now c.args.core c.args.i c.args.own c.note_own-next.result c.args.at_start.now c.note_own-next.new.places c.requires.place c.requires.within c.requires.before
    c.note_own-next.ensures.within (sym c.is_read_of.ensures ∙ c.if-not-is_read_of.false) c.note_own-next.ensures.below (c.note_own-next.ensures.places c.args.i c.requires.noted)
    (c.requires.same_size ∙ sym c.note_own-next.auto.places) c.requires.ram c.note_own-next.ensures.stops c.requires.store_store (c.reads_the_last.ensures.0 c.if-reads_the_last.true)

pub returns-then-reads_the_last-clause-before : goal.returns-then-reads_the_last-clause-before
returns-then-reads_the_last-clause-before c =
    still_before c.args.order.now c.args.core c.args.i c.args.own c.note_own-next.result c.args.at_start.now c.note_own-next.new.places c.requires.place c.requires.within c.requires.before
    c.note_own-next.ensures.within (sym c.is_read_of.ensures ∙ c.if-not-is_read_of.false) c.note_own-next.ensures.below c.requires.load_op

pub returns-else-reads_the_last-clause-wrong : goal.returns-else-reads_the_last-clause-wrong
returns-else-reads_the_last-clause-wrong c = λ none holds.
    let right : c.reads_the_last.result ≡ true = c.reads_the_last.ensures.1
    (read_right c.args.order.now c.args.core c.args.i c.args.own c.note_own-next.result c.args.at_start.now c.note_own-next.new.places c.requires.place c.requires.within c.requires.before
    c.note_own-next.ensures.within (sym c.is_read_of.ensures ∙ c.if-not-is_read_of.false) c.note_own-next.ensures.below (c.note_own-next.ensures.places c.args.i c.requires.noted)
    (c.requires.same_size ∙ sym c.note_own-next.auto.places) c.requires.ram c.note_own-next.ensures.stops c.requires.store_store holds) in
    cc
