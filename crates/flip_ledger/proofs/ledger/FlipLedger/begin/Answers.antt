use Rattle.std.proofs.Common.{◌≤◌}
use Rattle.flip_ledger.specs.Kept.{seen}
use Rattle.flip_ledger.proofs.FollowLemmas.{follows_begun, remembers_begun}
use Rattle.flip_ledger.proofs.ledger.FlipLedger.begin.Goals as goal

pub returns-clause-follows : goal.returns-clause-follows
returns-clause-follows c =
    let le : c.self.inside.turn ≤ c.args.turn = rw (← c.self.view_is) at c.requires in
    rw (← c.self.view_is) (λ budget h follows. follows_begun budget c.args.turn h (seen c.self.inside) le follows)

pub returns-clause-remembered : goal.returns-clause-remembered
returns-clause-remembered c =
    rw (← c.self.view_is) (λ budget t h le lt follows. remembers_begun budget c.args.turn t h (seen c.self.inside) le follows)
