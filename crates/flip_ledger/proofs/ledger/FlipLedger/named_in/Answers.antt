use Rattle.std.proofs.Common.{◌<◌, length, map, refl}
use Rattle.std.proofs.lemmas.List.{length-map}
use Rattle.flip_ledger.specs.Kept.{seen}
use Rattle.flip_ledger.specs.Ledger.{named_where}
use Rattle.flip_ledger.specs.Standing.{numbers_of}
use Rattle.flip_ledger.proofs.FollowLemmas.{follows_named, remembers_named}
use Rattle.flip_ledger.proofs.ledger.FlipLedger.named_in.Goals as goal

pub returns-clause-keeps : goal.returns-clause-keeps
returns-clause-keeps c =
    let l = c.self.inside in
    rw (← c.self.view_is, c.name_where.ensures) (record {
      units = refl;
      flips = length-map l.flips.items (named_where c.args.unit c.args.turn);
      turn = refl;
      remembers = λ budget t past lt. remembers_named c.args.unit c.args.turn budget t past (seen l) _ refl refl;
    })

pub returns-clause-follows : goal.returns-clause-follows
returns-clause-follows c =
    let l = c.self.inside in
    let units : c.args.unit < length (map numbers_of l.standing.items) = rw (← c.self.view_is) at c.requires.unit in
    rw (← c.self.view_is, c.name_where.ensures) (λ budget h past new remembers was follows.
    follows_named budget c.args.unit c.args.turn h past new (seen l) _ units remembers was follows refl refl refl)
