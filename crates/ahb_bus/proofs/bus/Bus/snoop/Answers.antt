use Rattle.std.proofs.Common.{[], sym, ap, ◌∙◌}
use Rattle.ahb_bus.specs.BusState.{BusState, after_turn}
use Rattle.ahb_bus.proofs.InsideLemmas.{room_for, bus_read, seen_read, taken_in, begun_in}
use Rattle.ahb_bus.proofs.NotingLemmas.{snoop_status}
use Rattle.ahb_bus.proofs.bus.Bus.snoop.Goals as goal

pub snoop-requires-clause-room : goal.snoop-requires-clause-room
snoop-requires-clause-room c =
    let old = c.self.inside in
    let is = c.self.invariant in
    let taken = taken_in old c.args.self.now c.args.asked c.self.view_is c.requires.taken in
    room_for old is c.args.asked taken

pub invariant_of-self : goal.invariant_of-self
invariant_of-self c =
    let old = c.self.inside in
    let is = c.self.invariant in
    let taken = taken_in old c.args.self.now c.args.asked c.self.view_is c.requires.taken in
    let begun = begun_in old c.args.self.now c.self.view_is c.requires.begun in
    bus_read old is c.args.asked taken c.snoop.ensures (sym (snoop_status old.status c.args.asked old.memory c.requires.kind)) begun c.requires.entry c.requires.length

pub returns-clause-made : goal.returns-clause-made
returns-clause-made c =
    let old = c.self.inside in
    let is = c.self.invariant in
    let taken = taken_in old c.args.self.now c.args.asked c.self.view_is c.requires.taken in
    seen_read old is c.args.asked taken c.snoop.ensures (sym (snoop_status old.status c.args.asked old.memory c.requires.kind))
    ∙ ap (λ (s : BusState). after_turn c.args.asked [] s.values s) c.self.view_is

pub returns-clause-ok : goal.returns-clause-ok
returns-clause-ok c = (invariant_of-self c).ok
