use Rattle.std.proofs.Common.{◌∙◌, sym, ap}
use Rattle.replay_effects.proofs.FootprintOf.{undrained_footprint}
use Rattle.replay_effects.proofs.thread.Thread.footprint.Goals as goal
use Rattle.replay_effects.specs.Running.{Running}
use Rattle.replay_effects.specs.Shows.{shows_trap}

pub returns : goal.returns
returns c =
    let q = c.args.self.now in
    let t = c.tried-tried.result in
    undrained_footprint q.setup q.core q.run t c.tried-tried.ensures c.footprint.result c.footprint.ensures.reads c.footprint.ensures.access c.footprint.ensures.writes
    c.footprint.ensures.given.1
    (c.footprint.ensures.given.0 ∙ c.shows_trap-trap.ensures
    ∙ ap (λ (r : Running). shows_trap r.run.state.ctl.et t.arch.ctl.et t.trial.writes.items) c.self.view_is)
    (sym c.in-None.ensures)
