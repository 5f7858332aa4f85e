use Rattle.std.proofs.Common.{◌∙◌, ℕ, Option, is_some, sym, ap}
use Rattle.replay_effects.proofs.FootprintOf.{halted_footprint, barrier_footprint, exchange_footprint}
use Rattle.replay_effects.proofs.thread.Thread.footprint_behind_drain.Goals as goal
use Rattle.replay_effects.specs.Running.{Running}
use Rattle.replay_effects.specs.Shows.{cell_of_register}

pub returns : goal.returns
returns c =
    let q = c.args.self.now in
    let f = c.footprint-in-None-2 in
    barrier_footprint q.setup q.core q.run c.args.why c.requires.drains c.tried-tried.result c.tried-tried.ensures f.result f.ensures.reads (sym c.in-None-2.ensures)
    (ap (λ (o : Option ℕ). is_some o) (sym c.halt_of.ensures) ∙ sym c.is_some.ensures ∙ c.if-is_some.false) f.ensures.given.0 f.ensures.given.1 f.ensures.access f.ensures.writes

pub returns-in-Some : goal.returns-in-Some
returns-in-Some c =
    let q = c.args.self.now in
    let f = c.exchange in
    exchange_footprint q.setup q.core q.run c.args.why c.requires.drains c.tried-tried.result c.tried-tried.ensures f.result f.ensures.reads c.in-Some.exchange (sym c.in-Some.ensures)
    f.ensures.bare.0 f.ensures.bare.1 f.ensures.access (f.ensures.writes ∙ ap (λ (r : Running). cell_of_register r.run.state.ctl.cwp c.in-Some.exchange.rd) c.self.view_is)

pub returns-in-None : goal.returns-in-None
returns-in-None c =
    let q = c.args.self.now in
    let f = c.footprint in
    halted_footprint q.setup q.core q.run c.args.why c.requires.drains c.tried-tried.result c.tried-tried.ensures f.result f.ensures.reads
    (ap (λ (o : Option ℕ). is_some o) (sym c.halt_of.ensures) ∙ sym c.is_some.ensures ∙ c.if-is_some.true) f.ensures.given.0 f.ensures.given.1 f.ensures.access f.ensures.writes
