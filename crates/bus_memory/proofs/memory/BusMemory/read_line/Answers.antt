use Rattle.std.proofs.Common.{refl, ap, ◌∙◌}
use Rattle.bus_memory.specs.MemoryState.{MemoryState, line_shown, made}
use Rattle.bus_memory.proofs.InsideLemmas.{begun_in, room_in, in_array, line_all, room_for, past_fits, closed, closed_seen, line_made, line_is, line_unwritten}
use Rattle.bus_memory.proofs.WriteLemmas.{writes_nothing}
use Rattle.bus_memory.proofs.memory.BusMemory.read_line.Goals as goal

pub end_turn-requires-clause-room : goal.end_turn-requires-clause-room
end_turn-requires-clause-room c = room_for c.self.inside c.self.invariant (begun_in c.self.inside c.args.self.now c.self.view_is c.requires.begun) (room_in c.self.inside c.args.self.now c.self.view_is c.requires.room)

pub end_turn-requires-clause-past : goal.end_turn-requires-clause-past
end_turn-requires-clause-past c = past_fits c.self.inside c.self.invariant (begun_in c.self.inside c.args.self.now c.self.view_is c.requires.begun) (room_in c.self.inside c.args.self.now c.self.view_is c.requires.room)

pub invariant_of-self : goal.invariant_of-self
invariant_of-self c =
    let old = c.self.inside in
    let is = c.self.invariant in
    let begun = begun_in old c.args.self.now c.self.view_is c.requires.begun in
    let room = room_in old c.args.self.now c.self.view_is c.requires.room in
    let all = line_all _ c.args.asked.addr (in_array old c.args.self.now c.args.asked.addr 32 is c.self.view_is c.requires.in_ram) c.requires.aligned in
    closed old is begun room c.args.asked c.with_line.result old.memory.values old.memory.histories c.end_turn.new.memory c.end_turn.new.transfers c.end_turn.ensures.memory c.end_turn.ensures.transfers c.end_turn.ensures.reserved
    (c.with_line.ensures ∙ line_made old is begun room c.args.asked c.read_line-line.result c.read_line-line.ensures c.requires.kind all) refl
    (writes_nothing c.args.asked old.memory.histories (λ h. line_unwritten c.args.asked.kind c.args.asked.len h c.requires.kind))

pub returns-clause-line : goal.returns-clause-line
returns-clause-line c =
    let old = c.self.inside in
    let is = c.self.invariant in
    let all = line_all _ c.args.asked.addr (in_array old c.args.self.now c.args.asked.addr 32 is c.self.view_is c.requires.in_ram) c.requires.aligned in
    c.read_line-line.ensures ∙ line_is old is c.args.asked.addr all ∙ ap (λ (s : MemoryState). line_shown s c.args.asked.addr) c.self.view_is

pub returns-clause-made : goal.returns-clause-made
returns-clause-made c =
    let old = c.self.inside in
    let is = c.self.invariant in
    let begun = begun_in old c.args.self.now c.self.view_is c.requires.begun in
    let room = room_in old c.args.self.now c.self.view_is c.requires.room in
    let all = line_all _ c.args.asked.addr (in_array old c.args.self.now c.args.asked.addr 32 is c.self.view_is c.requires.in_ram) c.requires.aligned in
    closed_seen old is begun room c.args.asked c.with_line.result old.memory.values old.memory.histories c.end_turn.new.memory c.end_turn.new.transfers c.end_turn.ensures.memory c.end_turn.ensures.transfers c.end_turn.ensures.reserved
    (c.with_line.ensures ∙ line_made old is begun room c.args.asked c.read_line-line.result c.read_line-line.ensures c.requires.kind all) old.memory.values refl
    ∙ ap (made c.args.asked) c.self.view_is
