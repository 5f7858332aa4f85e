use Rattle.std.proofs.Common.{[], sym, ap, ◌∙◌}
use Rattle.bus_memory.specs.MemoryState.{MemoryState, line_shown}
use Rattle.ahb_bus.specs.BusState.{BusState, memory_of, after_turn}
use Rattle.ahb_bus.specs.Noting.{line_noted}
use Rattle.ahb_bus.proofs.InsideLemmas.{memory_is, room_for, bus_read, seen_read, taken_in, begun_in}
use Rattle.ahb_bus.proofs.NotingLemmas.{line_status}
use Rattle.ahb_bus.proofs.ShareLemmas.{master_below}
use Rattle.ahb_bus.proofs.bus.Bus.read_line.Goals as goal

pub read_line-line-requires-clause-room : goal.read_line-line-requires-clause-room
read_line-line-requires-clause-room c =
    let old = c.self.inside in
    let is = c.self.invariant in
    let taken = taken_in old c.args.self.now c.args.asked c.self.view_is c.requires.taken in
    room_for old is c.args.asked taken

pub invariant_of-self : goal.invariant_of-self
invariant_of-self c =
    let old = c.self.inside in
    let is = c.self.invariant in
    let taken = taken_in old c.args.self.now c.args.asked c.self.view_is c.requires.taken in
    let begun = begun_in old c.args.self.now c.self.view_is c.requires.begun in
    let noted = c.note_line.ensures ∙ ap (line_noted old.status c.args.asked) c.read_line-line.ensures.line ∙ sym (line_status old.status c.args.asked old.memory c.requires.kind) in
    bus_read old is c.args.asked taken c.read_line-line.ensures.made noted begun c.requires.entry c.requires.length

pub returns-clause-line : goal.returns-clause-line
returns-clause-line c =
    let old = c.self.inside in
    let is = c.self.invariant in
    c.read_line-line.ensures.line
    ∙ ap (λ (m : MemoryState). line_shown m c.args.asked.addr) (memory_is old is)
    ∙ ap (λ (s : BusState). line_shown (memory_of s) c.args.asked.addr) c.self.view_is

pub returns-clause-made : goal.returns-clause-made
returns-clause-made c =
    let old = c.self.inside in
    let is = c.self.invariant in
    let taken = taken_in old c.args.self.now c.args.asked c.self.view_is c.requires.taken in
    let noted = c.note_line.ensures ∙ ap (line_noted old.status c.args.asked) c.read_line-line.ensures.line ∙ sym (line_status old.status c.args.asked old.memory c.requires.kind) in
    seen_read old is c.args.asked taken c.read_line-line.ensures.made noted
    ∙ ap (λ (s : BusState). after_turn c.args.asked [] s.values s) c.self.view_is

pub note_line-requires-clause-master : goal.note_line-requires-clause-master
note_line-requires-clause-master c =
    let old = c.self.inside in
    let is = c.self.invariant in
    let taken = taken_in old c.args.self.now c.args.asked c.self.view_is c.requires.taken in
    master_below old.setup.value.config.cores c.args.asked is.ok.cores taken.left.master

pub returns-clause-ok : goal.returns-clause-ok
returns-clause-ok c = (invariant_of-self c).ok
