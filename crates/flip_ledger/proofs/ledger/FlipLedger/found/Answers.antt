use Rattle.std.proofs.Common.{◌<◌, length, map, refl, arith}
use Rattle.std.proofs.lemmas.List.{length-map}
use Rattle.lf_model.specs.Flips.Moment.{Found}
use Rattle.flip_ledger.specs.Kept.{seen}
use Rattle.flip_ledger.specs.Standing.{numbers_of}
use Rattle.flip_ledger.specs.declared.record.Encounter.TheVariants as encounters
use Rattle.flip_ledger.proofs.FlipStates.{length-settled}
use Rattle.flip_ledger.proofs.FollowLemmas.{follows_met}
use Rattle.flip_ledger.proofs.KeptLemmas.{known_here, changes_left, keeps_changes}
use Rattle.flip_ledger.proofs.ledger.FlipLedger.found.Goals as goal

pub settle-requires : goal.settle-requires
settle-requires c =
    let l = c.self.inside in
    let units : c.args.unit < length (map numbers_of l.standing.items) = rw (← c.self.view_is) at c.requires in
    let within : c.args.unit < length l.standing.items = omega (arith, units, length-map l.standing.items numbers_of) in
    known_here l.standing.items c.args.unit c.index.ensures within l.flips.items c.self.invariant.known

pub returns-clause-keeps : goal.returns-clause-keeps
returns-clause-keeps c =
    let l = c.self.inside in
    let units : c.args.unit < length (map numbers_of l.standing.items) = rw (← c.self.view_is) at c.requires in
    let within : c.args.unit < length l.standing.items = omega (arith, units, length-map l.standing.items numbers_of) in
    let known = known_here l.standing.items c.args.unit c.index.ensures within l.flips.items c.self.invariant.known in
    rw (← c.self.view_is, c.settle.ensures)
    (keeps_changes encounters.Found c.args.unit (seen l) _ (changes_left l.standing.items c.args.unit c.index.ensures within encounters.Found l.flips.items l.turn refl known)
    (length-settled encounters.Found (numbers_of c.index.result.now) l.flips.items) (λ t lt. tt))

pub returns-clause-follows : goal.returns-clause-follows
returns-clause-follows c =
    let l = c.self.inside in
    let units : c.args.unit < length (map numbers_of l.standing.items) = rw (← c.self.view_is) at c.requires in
    let within : c.args.unit < length l.standing.items = omega (arith, units, length-map l.standing.items numbers_of) in
    let known = known_here l.standing.items c.args.unit c.index.ensures within l.flips.items c.self.invariant.known in
    rw (← c.self.view_is, c.settle.ensures)
    (λ budget h new gains follows. follows_met budget c.args.unit h new encounters.Found Found (seen l) _ refl units tt gains follows
    (changes_left l.standing.items c.args.unit c.index.ensures within encounters.Found l.flips.items l.turn refl known))
