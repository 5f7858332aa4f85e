use Rattle.std.proofs.Common.{◌≡◌, ◌<◌, length, false}
use Rattle.std.proofs.lemmas.Bool.{le-ltb}
use Rattle.std.proofs.lemmas.List.{length-set}
use Rattle.flip_ledger.specs.Kept.{seen}
use Rattle.flip_ledger.specs.Ledger.{state_at, standing_in}
use Rattle.flip_ledger.specs.declared.record.FlipState.TheVariants.{ToCome}
use Rattle.flip_ledger.proofs.FollowLemmas.{struck_state, follows_struck, remembers_struck}
use Rattle.flip_ledger.proofs.KeptLemmas.{strikes_declined}
use Rattle.flip_ledger.proofs.ledger.FlipLedger.decline.Goals as goal

pub returns-clause-follows : goal.returns-clause-follows
returns-clause-follows c =
    let l = c.self.inside in
    let fits : c.args.number < length l.flips.items = rw (← c.self.view_is) at c.requires.number in
    let late : state_at (seen l) c.args.number ≡ ToCome = rw (← c.self.view_is) at c.requires.late in
    rw (← c.self.view_is)
    (λ budget unit bit h new within full gains follows.
    follows_struck budget c.args.number bit unit h new (seen l) _ within late false (le-ltb (length (standing_in (seen l) unit)) budget full) gains follows
    (strikes_declined unit (seen l) c.args.number fits))

pub returns-clause-keeps : goal.returns-clause-keeps
returns-clause-keeps c =
    let l = c.self.inside in
    let fits : c.args.number < length l.flips.items = rw (← c.self.view_is) at c.requires.number in
    let late : state_at (seen l) c.args.number ≡ ToCome = rw (← c.self.view_is) at c.requires.late in
    let strikes = strikes_declined 0 (seen l) c.args.number fits in
    rw (← c.self.view_is) (record {
      units = strikes.units;
      flips = length-set l.flips.items c.args.number (struck_state false 0 l.turn);
      turn = strikes.turn;
      remembers = λ budget t past lt. remembers_struck false c.args.number 0 budget t past (seen l) _ strikes late lt;
    })
