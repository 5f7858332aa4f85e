use Rattle.std.proofs.Common.{◌<◌, length, map, refl, arith}
use Rattle.std.proofs.lemmas.List.{length-map}
use Rattle.lf_model.specs.Flips.Moment.{Written}
use Rattle.flip_ledger.specs.Kept.{seen}
use Rattle.flip_ledger.specs.Standing.{numbers_of}
use Rattle.flip_ledger.specs.declared.record.Encounter.TheVariants as encounters
use Rattle.flip_ledger.proofs.FlipStates.{length-settled}
use Rattle.flip_ledger.proofs.FollowLemmas.{follows_met}
use Rattle.flip_ledger.proofs.KeptLemmas.{known_here, changes_ended, keeps_changes}
use Rattle.flip_ledger.proofs.ledger.FlipLedger.written.Goals as goal

pub settle-requires : goal.settle-requires
settle-requires c =
    let l = c.self.inside in
    let units : c.args.unit < length (map numbers_of l.standing.items) = rw (← c.self.view_is) at c.requires in
    let within : c.args.unit < length l.standing.items = omega (arith, units, length-map l.standing.items numbers_of) in
    known_here l.standing.items c.args.unit c.index.ensures within l.flips.items c.self.invariant.known

pub returns-clause-keeps : goal.returns-clause-keeps
returns-clause-keeps c =
    let l = c.self.inside in
    let written = encounters.Written c.args.write l.turn in
    let units : c.args.unit < length (map numbers_of l.standing.items) = rw (← c.self.view_is) at c.requires in
    let within : c.args.unit < length l.standing.items = omega (arith, units, length-map l.standing.items numbers_of) in
    let known = known_here l.standing.items c.args.unit c.index.ensures within l.flips.items c.self.invariant.known in
    rw (← c.self.view_is, c.settle.ensures)
    (keeps_changes written c.args.unit (seen l) _ (changes_ended l.standing.items c.args.unit c.index.ensures within written l.flips.items l.turn refl known)
    (length-settled written (numbers_of c.index.result.now) l.flips.items) (λ t lt. lt))

pub returns-clause-follows : goal.returns-clause-follows
returns-clause-follows c =
    let l = c.self.inside in
    let written = encounters.Written c.args.write l.turn in
    let units : c.args.unit < length (map numbers_of l.standing.items) = rw (← c.self.view_is) at c.requires in
    let within : c.args.unit < length l.standing.items = omega (arith, units, length-map l.standing.items numbers_of) in
    let known = known_here l.standing.items c.args.unit c.index.ensures within l.flips.items c.self.invariant.known in
    rw (← c.self.view_is, c.settle.ensures)
    (λ budget how h new is gains follows. follows_met budget c.args.unit h new written (Written how) (seen l) _ (how, (refl, is)) units (omega arith) gains follows
    (changes_ended l.standing.items c.args.unit c.index.ensures within written l.flips.items l.turn refl known))
