use Rattle.std.proofs.Common.{ap, ◌∙◌, arith}
use Rattle.coded_words.specs.Words.{Words, ended}
use Rattle.bus_memory.specs.Answers.{syndrome_of_fix}
use Rattle.bus_memory.specs.MemoryState.{MemoryState, fix_answer, made}
use Rattle.bus_memory.proofs.AskedLemmas.{fix_asked}
use Rattle.bus_memory.proofs.InsideLemmas.{begun_in, room_in, in_array, word_at, past_fits, closed, closed_seen, word_made, writes_fix, fix_syndrome, fix_is}
use Rattle.ram_words.specs.Ram.{place_of}
use Rattle.lf_model.proofs.SyndromeLaw.{few}
use Rattle.lf_model.specs.Caches.Slot.{history_at}
use Rattle.lf_model.specs.Flips.{standing, word_budget}
use Rattle.bus_memory.proofs.InsideLemmas.{past_written, few_turned, fix_written}
use Rattle.bus_memory.proofs.memory.BusMemory.fix.Goals as goal

pub end_turn-requires-clause-past : goal.end_turn-requires-clause-past
end_turn-requires-clause-past c =
    let old = c.self.inside in
    let fits = past_fits old c.self.invariant (begun_in old c.args.self.now c.self.view_is c.requires.begun) (room_in old c.args.self.now c.self.view_is c.requires.room) in
    let same = ap (λ (m : Words). m.past) c.fix-answer.ensures.written_back ∙ past_written _ _ _ old.memory in
    rw same fits

pub invariant_of-self : goal.invariant_of-self
invariant_of-self c =
    let old = c.self.inside in
    let is = c.self.invariant in
    let begun = begun_in old c.args.self.now c.self.view_is c.requires.begun in
    let room = room_in old c.args.self.now c.self.view_is c.requires.room in
    let asked = c.args.asked in
    let at = word_at _ asked.addr (in_array old c.args.self.now asked.addr 4 is c.self.view_is c.requires.in_ram) c.requires.aligned in
    let written = fix_written old.memory asked.addr c.fix-answer.new.self c.fix-answer.ensures.written_back in
    closed old is begun room asked c.with_word.result written.values _ c.end_turn.new.memory c.end_turn.new.transfers (c.end_turn.ensures.memory ∙ ap ended written.is) c.end_turn.ensures.transfers c.end_turn.ensures.reserved
    (c.with_word.ensures ∙ word_made old is begun room asked asked.addr c.syndrome_met-syn.result (fix_asked asked c.requires.kind) at
    (c.syndrome_met-syn.ensures ∙ ap syndrome_of_fix c.fix-answer.ensures.answer ∙ fix_syndrome old.memory asked.addr (let h = history_at (place_of asked.addr) old.memory.histories in let a = few_turned (standing word_budget h) in let b = few h in omega (arith, a, b)))) written.long
    (writes_fix asked old.memory.histories c.requires.kind c.requires.aligned at.above at.within)

pub returns-clause-answer : goal.returns-clause-answer
returns-clause-answer c =
    let old = c.self.inside in
    let is = c.self.invariant in
    let at = word_at _ c.args.asked.addr (in_array old c.args.self.now c.args.asked.addr 4 is c.self.view_is c.requires.in_ram) c.requires.aligned in
    c.fix-answer.ensures.answer ∙ fix_is old is c.args.asked.addr at ∙ ap (λ (s : MemoryState). fix_answer s c.args.asked.addr) c.self.view_is

pub returns-clause-made : goal.returns-clause-made
returns-clause-made c =
    let old = c.self.inside in
    let is = c.self.invariant in
    let begun = begun_in old c.args.self.now c.self.view_is c.requires.begun in
    let room = room_in old c.args.self.now c.self.view_is c.requires.room in
    let asked = c.args.asked in
    let at = word_at _ asked.addr (in_array old c.args.self.now asked.addr 4 is c.self.view_is c.requires.in_ram) c.requires.aligned in
    let written = fix_written old.memory asked.addr c.fix-answer.new.self c.fix-answer.ensures.written_back in
    closed_seen old is begun room asked c.with_word.result written.values _ c.end_turn.new.memory c.end_turn.new.transfers (c.end_turn.ensures.memory ∙ ap ended written.is) c.end_turn.ensures.transfers c.end_turn.ensures.reserved
    (c.with_word.ensures ∙ word_made old is begun room asked asked.addr c.syndrome_met-syn.result (fix_asked asked c.requires.kind) at
    (c.syndrome_met-syn.ensures ∙ ap syndrome_of_fix c.fix-answer.ensures.answer ∙ fix_syndrome old.memory asked.addr (let h = history_at (place_of asked.addr) old.memory.histories in let a = few_turned (standing word_budget h) in let b = few h in omega (arith, a, b)))) old.memory.values (written.values_are ∙ c.fix-answer.ensures.values)
    ∙ ap (made asked) c.self.view_is
