use Rattle.std.proofs.Common.{sym, ap, ◌∙◌, refl, arith}
use Rattle.std.specs.Prelude.{option_map}
use Rattle.replay_units.specs.Units.{written_by}
use Rattle.replay_units.specs.Ways.{how_of}
use Rattle.replay_words.proofs.PlaceLemmas.{place_found}
use Rattle.replay_words.proofs.WriteLemmas.{write_some, write_none, write_nowhere, keeps_befallen}
use Rattle.replay_words.proofs.write.write_at.Goals as goal

pub how_written-requires-clause-place : goal.how_written-requires-clause-place
how_written-requires-clause-place c =
    let within = place_found c.args.places.now _ _ c.find.ensures c.in-Some.is in
    omega (arith, within, c.requires.units.long)

pub write-requires : goal.write-requires
write-requires c =
    let within = place_found c.args.places.now _ _ c.find.ensures c.in-Some.is in
    record { unit = omega (arith, within, c.requires.units.long) }

pub returns-in-Some-how_written-clause-words : goal.returns-in-Some-how_written-clause-words
returns-in-Some-how_written-clause-words c =
    rw c.write.ensures
    (write_some c.args.made.now c.args.addr c.args.places.now c.args.units.now.histories c.requires.distinct c.requires.units.long c.in-Some.place (how_of c.in-Some-how_written.how)
    (sym c.find.ensures ∙ c.in-Some.is) (ap (option_map how_of) (sym c.in-Some-how_written.is) ∙ c.how_written.ensures))

pub returns-in-Some-how_written-clause-keeps : goal.returns-in-Some-how_written-clause-keeps
returns-in-Some-how_written-clause-keeps c =
    let within = place_found c.args.places.now _ _ c.find.ensures c.in-Some.is in
    rw c.write.ensures (keeps_befallen (written_by (how_of c.in-Some-how_written.how)) c.in-Some.place c.args.units.now (λ i h. refl) (omega (arith, within, c.requires.units.long)))

pub returns-in_default-how_written-clause-words : goal.returns-in_default-how_written-clause-words
returns-in_default-how_written-clause-words c =
    write_none c.args.made.now c.args.addr c.args.places.now c.args.units.now.histories c.requires.distinct c.requires.units.long c.in-Some.place
    (sym c.find.ensures ∙ c.in-Some.is) (ap (option_map how_of) (sym c.in_default-how_written.is) ∙ c.how_written.ensures)

pub returns-in_default-clause-words : goal.returns-in_default-clause-words
returns-in_default-clause-words c =
    write_nowhere c.args.made.now c.args.addr c.args.places.now c.args.units.now.histories c.requires.distinct c.requires.units.long (sym c.find.ensures ∙ c.in_default.is)
