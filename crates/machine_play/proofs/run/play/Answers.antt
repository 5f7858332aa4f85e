use Rattle.std.proofs.Common.{ℕ, List, fold}
use Rattle.lf_model.specs.Promise.Follows.{scheduled, rounds, Follows}
use Rattle.lf_model.specs.declared.setup.Event.{Event}
use Rattle.lf_model.specs.declared.trace.Trace.{Trace}
use Rattle.machine_play.specs.MachineMade.{ComesTo}
use Rattle.machine_play.proofs.Bounded.{ok_bounded}
use Rattle.machine_play.proofs.Played.{last_comes, if_ok}
use Rattle.machine_play.proofs.run.play.Goals as goal

pub returns-clause-follows : goal.returns-clause-follows
returns-clause-follows c =
    let s = c.args.s.now in
    let last = c.go_round.new.self in
    let goes = c.go_round.ensures.rounds in
    if_ok (λ (trace : Trace). (events : List Event) (count : ℕ) → ComesTo s (λ a. rounds count (fold scheduled a events)) last → Follows s events trace) (Follows s c.args.events.now) c.into_trace.result
    (λ trace follows. follows c.args.events.now goes.0
    (last_comes s c.args.events.now c.in_ok-machine.machine c.follow.new.self last c.in_ok-machine.ensures.setup c.in_ok-machine.ensures.none c.follow.ensures goes.0 goes.1))
    c.into_trace.ensures.follows

pub returns-clause-bounded : goal.returns-clause-bounded
returns-clause-bounded c = ok_bounded c.args.s.now c.into_trace.result c.into_trace.ensures.headline c.into_trace.ensures.ledger
