use Rattle.std.proofs.Common.{refl, ap, ◌∙◌}
use Rattle.coded_words.specs.Words.{Words, ended}
use Rattle.bus_memory.specs.Answers.{syndrome_of_read}
use Rattle.bus_memory.specs.MemoryState.{MemoryState, read_answer, merged_in, made}
use Rattle.bus_memory.proofs.AskedLemmas.{atomic_asked}
use Rattle.bus_memory.proofs.InsideLemmas.{begun_in, room_in, in_array, word_there, past_fits, closed, closed_seen, word_made, written_one, writes_one, merged_is, read_syndrome, read_is, ram_above}
use Rattle.lf_model.specs.Bus.Words.{word_of}
use Rattle.lf_model.specs.declared.bus.TurnKind.TheVariants.{Atomic}
use Rattle.ram_words.specs.Parts.{merged}
use Rattle.lf_model.specs.Flips.How.{ByAtomic}
use Rattle.bus_memory.proofs.InsideLemmas.{past_written, place_same, atomic_length, atomic_in_word}
use Rattle.bus_memory.proofs.memory.BusMemory.exchange.Goals as goal

pub end_turn-requires-clause-past : goal.end_turn-requires-clause-past
end_turn-requires-clause-past c =
    let old = c.self.inside in
    let fits = past_fits old c.self.invariant (begun_in old c.args.self.now c.self.view_is c.requires.begun) (room_in old c.args.self.now c.self.view_is c.requires.room) in
    let same = ap (λ (m : Words). m.past) c.exchange-answer.ensures.stored ∙ past_written _ _ _ old.memory in
    rw same fits

pub invariant_of-self : goal.invariant_of-self
invariant_of-self c =
    let old = c.self.inside in
    let is = c.self.invariant in
    let begun = begun_in old c.args.self.now c.self.view_is c.requires.begun in
    let room = room_in old c.args.self.now c.self.view_is c.requires.room in
    let asked = c.args.asked in
    let short = atomic_length c.args.asked.len c.requires.length in
    let in_ram = in_array old c.args.self.now asked.addr asked.len is c.self.view_is c.requires.in_ram in
    let at = word_there _ asked.addr asked.len in_ram short.1 in
    let written = written_one old.memory Atomic (word_of asked.addr) asked.len (merged _ asked.addr asked.len c.args.value) in
    closed old is begun room asked c.with_word.result written.values _ c.end_turn.new.memory c.end_turn.new.transfers (c.end_turn.ensures.memory ∙ ap ended (c.exchange-answer.ensures.stored ∙ written.is)) c.end_turn.ensures.transfers c.end_turn.ensures.reserved
    (c.with_word.ensures ∙ word_made old is begun room asked (word_of asked.addr) c.syndrome_read-syn.result (atomic_asked asked c.requires.kind) at (c.syndrome_read-syn.ensures ∙ ap syndrome_of_read c.exchange-answer.ensures.answer ∙ read_syndrome old.memory (word_of c.args.asked.addr))) written.long
    (writes_one Atomic asked old.memory.histories c.requires.kind (λ w. refl) short.1 (atomic_in_word asked.addr asked.len c.requires.length c.requires.aligned) (ram_above _ asked.addr asked.len in_ram) (let w = at.within in place_same _ asked.addr (ram_above _ asked.addr asked.len in_ram) w))

pub returns-clause-answer : goal.returns-clause-answer
returns-clause-answer c =
    let old = c.self.inside in
    let is = c.self.invariant in
    let asked = c.args.asked in
    let short = atomic_length c.args.asked.len c.requires.length in
    let in_ram = in_array old c.args.self.now asked.addr asked.len is c.self.view_is c.requires.in_ram in
    let at = word_there _ asked.addr asked.len in_ram short.1 in
    c.exchange-answer.ensures.answer ∙ read_is old is (word_of asked.addr) at ∙ ap (λ (s : MemoryState). read_answer s (word_of asked.addr)) c.self.view_is

pub returns-clause-made : goal.returns-clause-made
returns-clause-made c =
    let old = c.self.inside in
    let is = c.self.invariant in
    let begun = begun_in old c.args.self.now c.self.view_is c.requires.begun in
    let room = room_in old c.args.self.now c.self.view_is c.requires.room in
    let asked = c.args.asked in
    let short = atomic_length c.args.asked.len c.requires.length in
    let in_ram = in_array old c.args.self.now asked.addr asked.len is c.self.view_is c.requires.in_ram in
    let at = word_there _ asked.addr asked.len in_ram short.1 in
    let written = written_one old.memory Atomic (word_of asked.addr) asked.len (merged _ asked.addr asked.len c.args.value) in
    closed_seen old is begun room asked c.with_word.result written.values _ c.end_turn.new.memory c.end_turn.new.transfers (c.end_turn.ensures.memory ∙ ap ended (c.exchange-answer.ensures.stored ∙ written.is)) c.end_turn.ensures.transfers c.end_turn.ensures.reserved
    (c.with_word.ensures ∙ word_made old is begun room asked (word_of asked.addr) c.syndrome_read-syn.result (atomic_asked asked c.requires.kind) at (c.syndrome_read-syn.ensures ∙ ap syndrome_of_read c.exchange-answer.ensures.answer ∙ read_syndrome old.memory (word_of c.args.asked.addr))) _ written.values_are
    ∙ ap (made asked) (merged_is old is Atomic ByAtomic asked.addr asked.len c.args.value (ram_above _ asked.addr asked.len in_ram) at (refl))
    ∙ ap (λ (s : MemoryState). made asked (merged_in asked.addr asked.len c.args.value s)) c.self.view_is
