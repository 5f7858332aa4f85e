use Rattle.std.proofs.Common.{◌≡◌, ◌<◌, length, map, true, arith}
use Rattle.std.proofs.lemmas.Bool.{lt-ltb}
use Rattle.std.proofs.lemmas.List.{length-map, length-set}
use Rattle.flip_ledger.specs.Kept.{seen}
use Rattle.flip_ledger.specs.Ledger.{state_at, standing_in}
use Rattle.flip_ledger.specs.Standing.{numbers_of}
use Rattle.flip_ledger.specs.declared.record.FlipState.TheVariants.{ToCome}
use Rattle.flip_ledger.proofs.FollowLemmas.{struck_state, follows_struck, remembers_struck}
use Rattle.flip_ledger.proofs.KeptLemmas.{known_here, known_struck, strikes_applied}
use Rattle.flip_ledger.proofs.ledger.FlipLedger.strike.Goals as goal

pub invariant_of-self : goal.invariant_of-self
invariant_of-self c =
    let l = c.self.inside in
    let units : c.args.unit < length (map numbers_of l.standing.items) = rw (← c.self.view_is) at c.requires.unit in
    let within : c.args.unit < length l.standing.items = omega (arith, units, length-map l.standing.items numbers_of) in
    let fits : c.args.number < length l.flips.items = rw (← c.self.view_is) at c.requires.number in
    let known = known_here l.standing.items c.args.unit c.index.ensures within l.flips.items c.self.invariant.known in
    record { known = known_struck l.standing.items l.flips.items c.args.unit c.args.number c.with.result c.index.result.now (struck_state true c.args.unit l.turn) c.self.invariant.known within fits known c.with.ensures }

pub returns-clause-follows : goal.returns-clause-follows
returns-clause-follows c =
    let l = c.self.inside in
    let units : c.args.unit < length (map numbers_of l.standing.items) = rw (← c.self.view_is) at c.requires.unit in
    let within : c.args.unit < length l.standing.items = omega (arith, units, length-map l.standing.items numbers_of) in
    let fits : c.args.number < length l.flips.items = rw (← c.self.view_is) at c.requires.number in
    let late : state_at (seen l) c.args.number ≡ ToCome = rw (← c.self.view_is) at c.requires.late in
    rw (← c.self.view_is)
    (λ budget bit h new below gains follows.
    follows_struck budget c.args.number bit c.args.unit h new (seen l) _ units late true (lt-ltb (length (standing_in (seen l) c.args.unit)) budget below) gains follows
    (strikes_applied l.standing.items c.args.unit c.index.ensures within l.flips.items c.args.number l.turn c.with.result fits c.with.ensures))

pub returns-clause-keeps : goal.returns-clause-keeps
returns-clause-keeps c =
    let l = c.self.inside in
    let units : c.args.unit < length (map numbers_of l.standing.items) = rw (← c.self.view_is) at c.requires.unit in
    let within : c.args.unit < length l.standing.items = omega (arith, units, length-map l.standing.items numbers_of) in
    let fits : c.args.number < length l.flips.items = rw (← c.self.view_is) at c.requires.number in
    let late : state_at (seen l) c.args.number ≡ ToCome = rw (← c.self.view_is) at c.requires.late in
    let strikes = strikes_applied l.standing.items c.args.unit c.index.ensures within l.flips.items c.args.number l.turn c.with.result fits c.with.ensures in
    rw (← c.self.view_is) (record {
      units = strikes.units;
      flips = length-set l.flips.items c.args.number (struck_state true c.args.unit l.turn);
      turn = strikes.turn;
      remembers = λ budget t past lt. remembers_struck true c.args.number c.args.unit budget t past (seen l) _ strikes late lt;
    })
