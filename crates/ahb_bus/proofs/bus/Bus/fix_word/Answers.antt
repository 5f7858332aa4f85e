use Rattle.std.proofs.Common.{[], sym, ap, ◌∙◌}
use Rattle.bus_memory.specs.Answers.{syndrome_of_fix}
use Rattle.bus_memory.specs.MemoryState.{MemoryState, fix_answer}
use Rattle.ram_words.specs.declared.answer.Fixed.{Fixed}
use Rattle.ahb_bus.specs.BusState.{BusState, memory_of, after_turn}
use Rattle.ahb_bus.specs.Noting.{fix_noted, is_bad_fix}
use Rattle.ahb_bus.proofs.InsideLemmas.{memory_is, room_for, bus_read, seen_read, taken_in, begun_in}
use Rattle.ahb_bus.proofs.NotingLemmas.{fix_status}
use Rattle.ahb_bus.proofs.bus.Bus.fix_word.Goals as goal

pub fix-answer-requires-clause-room : goal.fix-answer-requires-clause-room
fix-answer-requires-clause-room c =
    let old = c.self.inside in
    let is = c.self.invariant in
    let taken = taken_in old c.args.self.now c.args.asked c.self.view_is c.requires.taken in
    room_for old is c.args.asked taken

pub invariant_of-self : goal.invariant_of-self
invariant_of-self c =
    let old = c.self.inside in
    let is = c.self.invariant in
    let taken = taken_in old c.args.self.now c.args.asked c.self.view_is c.requires.taken in
    let begun = begun_in old c.args.self.now c.self.view_is c.requires.begun in
    let noted = c.note_fix.ensures ∙ ap (λ (answer : Fixed). fix_noted old.status c.args.asked (syndrome_of_fix answer) (is_bad_fix answer)) c.fix-answer.ensures.answer
    ∙ sym (fix_status old.status c.args.asked old.memory c.requires.kind) in
    bus_read old is c.args.asked taken c.fix-answer.ensures.made noted begun c.requires.entry c.requires.length

pub returns-clause-answer : goal.returns-clause-answer
returns-clause-answer c =
    let old = c.self.inside in
    let is = c.self.invariant in
    c.fix-answer.ensures.answer
    ∙ ap (λ (m : MemoryState). fix_answer m c.args.asked.addr) (memory_is old is)
    ∙ ap (λ (s : BusState). fix_answer (memory_of s) c.args.asked.addr) c.self.view_is

pub returns-clause-made : goal.returns-clause-made
returns-clause-made c =
    let old = c.self.inside in
    let is = c.self.invariant in
    let taken = taken_in old c.args.self.now c.args.asked c.self.view_is c.requires.taken in
    let noted = c.note_fix.ensures ∙ ap (λ (answer : Fixed). fix_noted old.status c.args.asked (syndrome_of_fix answer) (is_bad_fix answer)) c.fix-answer.ensures.answer
    ∙ sym (fix_status old.status c.args.asked old.memory c.requires.kind) in
    seen_read old is c.args.asked taken c.fix-answer.ensures.made noted
    ∙ ap (λ (s : BusState). after_turn c.args.asked [] s.values s) c.self.view_is

pub returns-clause-ok : goal.returns-clause-ok
returns-clause-ok c = (invariant_of-self c).ok
