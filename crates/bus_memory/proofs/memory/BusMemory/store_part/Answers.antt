use Rattle.std.proofs.Common.{refl, ap, ◌∙◌}
use Rattle.coded_words.specs.Words.{Words, ended}
use Rattle.bus_memory.specs.Answers.{syndrome_of_answer}
use Rattle.bus_memory.specs.MemoryState.{MemoryState, store_answer, merged_in, made}
use Rattle.bus_memory.proofs.AskedLemmas.{part_asked}
use Rattle.bus_memory.proofs.InsideLemmas.{begun_in, room_in, in_array, word_there, past_fits, closed, closed_seen, word_made, written_one, writes_one, merged_is, part_way, part_syndrome, part_is, part_short, in_word, ram_above}
use Rattle.lf_model.specs.Bus.Words.{word_of}
use Rattle.lf_model.specs.declared.bus.TurnKind.TheVariants.{Store}
use Rattle.ram_words.specs.Ram.{place_of}
use Rattle.ram_words.specs.Parts.{merged}
use Rattle.lf_model.specs.Caches.Slot.{history_at}
use Rattle.lf_model.specs.Flips.How.{ByPartStore}
use Rattle.bus_memory.proofs.InsideLemmas.{past_written, place_same}
use Rattle.bus_memory.proofs.memory.BusMemory.store_part.Goals as goal

pub end_turn-requires-clause-past : goal.end_turn-requires-clause-past
end_turn-requires-clause-past c =
    let old = c.self.inside in
    let fits = past_fits old c.self.invariant (begun_in old c.args.self.now c.self.view_is c.requires.begun) (room_in old c.args.self.now c.self.view_is c.requires.room) in
    let same = ap (λ (m : Words). m.past) c.write_part-answer.ensures.stored ∙ past_written _ _ _ old.memory in
    rw same fits

pub invariant_of-self : goal.invariant_of-self
invariant_of-self c =
    let old = c.self.inside in
    let is = c.self.invariant in
    let begun = begun_in old c.args.self.now c.self.view_is c.requires.begun in
    let room = room_in old c.args.self.now c.self.view_is c.requires.room in
    let asked = c.args.asked in
    let short = part_short c.args.asked.len c.requires.part in
    let in_ram = in_array old c.args.self.now asked.addr asked.len is c.self.view_is c.requires.in_ram in
    let at = word_there _ asked.addr asked.len in_ram short.1 in
    let written = written_one old.memory Store (word_of asked.addr) asked.len (merged _ asked.addr asked.len c.args.value) in
    closed old is begun room asked c.with_word.result written.values _ c.end_turn.new.memory c.end_turn.new.transfers (c.end_turn.ensures.memory ∙ ap ended (c.write_part-answer.ensures.stored ∙ written.is)) c.end_turn.ensures.transfers c.end_turn.ensures.reserved
    (c.with_word.ensures ∙ word_made old is begun room asked (word_of asked.addr) c.syndrome_of-syn.result (part_asked asked c.requires.kind short.0) at (c.syndrome_of-syn.ensures ∙ ap syndrome_of_answer c.write_part-answer.ensures.answer ∙ part_syndrome old.memory c.args.asked.addr)) written.long
    (writes_one Store asked old.memory.histories c.requires.kind (λ w. refl) short.1 (in_word asked.addr asked.len c.requires.part c.requires.aligned) (ram_above _ asked.addr asked.len in_ram) (let w = at.within in place_same _ asked.addr (ram_above _ asked.addr asked.len in_ram) w))

pub returns-clause-answer : goal.returns-clause-answer
returns-clause-answer c =
    let old = c.self.inside in
    let is = c.self.invariant in
    let asked = c.args.asked in
    let short = part_short c.args.asked.len c.requires.part in
    let in_ram = in_array old c.args.self.now asked.addr asked.len is c.self.view_is c.requires.in_ram in
    let at = word_there _ asked.addr asked.len in_ram short.1 in
    c.write_part-answer.ensures.answer ∙ part_is old is asked.addr asked.len short.0 at ∙ ap (λ (s : MemoryState). store_answer s asked.addr asked.len) c.self.view_is

pub returns-clause-made : goal.returns-clause-made
returns-clause-made c =
    let old = c.self.inside in
    let is = c.self.invariant in
    let begun = begun_in old c.args.self.now c.self.view_is c.requires.begun in
    let room = room_in old c.args.self.now c.self.view_is c.requires.room in
    let asked = c.args.asked in
    let short = part_short c.args.asked.len c.requires.part in
    let in_ram = in_array old c.args.self.now asked.addr asked.len is c.self.view_is c.requires.in_ram in
    let at = word_there _ asked.addr asked.len in_ram short.1 in
    let written = written_one old.memory Store (word_of asked.addr) asked.len (merged _ asked.addr asked.len c.args.value) in
    closed_seen old is begun room asked c.with_word.result written.values _ c.end_turn.new.memory c.end_turn.new.transfers (c.end_turn.ensures.memory ∙ ap ended (c.write_part-answer.ensures.stored ∙ written.is)) c.end_turn.ensures.transfers c.end_turn.ensures.reserved
    (c.with_word.ensures ∙ word_made old is begun room asked (word_of asked.addr) c.syndrome_of-syn.result (part_asked asked c.requires.kind short.0) at (c.syndrome_of-syn.ensures ∙ ap syndrome_of_answer c.write_part-answer.ensures.answer ∙ part_syndrome old.memory c.args.asked.addr)) _ written.values_are
    ∙ ap (made asked) (merged_is old is Store ByPartStore asked.addr asked.len c.args.value (ram_above _ asked.addr asked.len in_ram) at (part_way asked.len (history_at (place_of (word_of asked.addr)) old.memory.histories) short.0))
    ∙ ap (λ (s : MemoryState). made asked (merged_in asked.addr asked.len c.args.value s)) c.self.view_is
