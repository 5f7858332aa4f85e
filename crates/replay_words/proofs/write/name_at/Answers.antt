use Rattle.std.proofs.Common.{sym, ap, ◌∙◌, refl, arith}
use Rattle.replay_units.specs.Units.{named}
use Rattle.replay_words.specs.Places.{place_in}
use Rattle.replay_words.proofs.PlaceLemmas.{place_found}
use Rattle.replay_words.proofs.WriteLemmas.{name_some, name_nowhere, keeps_befallen}
use Rattle.replay_words.proofs.write.name_at.Goals as goal

pub name-requires : goal.name-requires
name-requires c =
    let within = place_found c.args.places.now _ _ c.find.ensures c.in-Some.is in
    record { unit = omega (arith, within, c.requires.units.long) }

pub returns-in-Some-clause-words : goal.returns-in-Some-clause-words
returns-in-Some-clause-words c =
    rw c.name.ensures
    (name_some c.args.addr c.args.places.now c.args.units.now.histories c.requires.distinct c.requires.units.long c.in-Some.place
    (ap (place_in c.args.places.now) (sym c.from.ensures) ∙ sym c.find.ensures ∙ c.in-Some.is))

pub returns-in-Some-clause-keeps : goal.returns-in-Some-clause-keeps
returns-in-Some-clause-keeps c =
    let within = place_found c.args.places.now _ _ c.find.ensures c.in-Some.is in
    rw c.name.ensures (keeps_befallen named c.in-Some.place c.args.units.now (λ i h. refl) (omega (arith, within, c.requires.units.long)))

pub returns-in_default-clause-words : goal.returns-in_default-clause-words
returns-in_default-clause-words c =
    name_nowhere c.args.addr c.args.places.now c.args.units.now.histories c.requires.distinct c.requires.units.long
    (ap (place_in c.args.places.now) (sym c.from.ensures) ∙ sym c.find.ensures ∙ c.in_default.is)
