use Rattle.std.proofs.Common.{ap, ◌∙◌, arith}
use Rattle.coded_words.specs.Words.{ended}
use Rattle.bus_memory.proofs.AskedLemmas.{whole_asked}
use Rattle.bus_memory.proofs.InsideLemmas.{begun_in, room_in, in_array, word_at, closed, none_made, writes_store_word}
use Rattle.ram_words.specs.Ram.{place_of}
use Rattle.std.proofs.lemmas.List.{length-set}
use Rattle.bus_memory.proofs.memory.BusMemory.store_word.Goals as goal

pub invariant_of-self : goal.invariant_of-self
invariant_of-self c =
    let old = c.self.inside in
    let is = c.self.invariant in
    let begun = begun_in old c.args.self.now c.self.view_is c.requires.begun in
    let room = room_in old c.args.self.now c.self.view_is c.requires.room in
    let at = word_at _ c.args.asked.addr (in_array old c.args.self.now c.args.asked.addr 4 is c.self.view_is c.requires.in_ram) c.requires.aligned in
    closed old is begun room c.args.asked c.with_none.result _ _ c.end_turn.new.memory c.end_turn.new.transfers (c.end_turn.ensures.memory ∙ ap ended c.write_word.ensures) c.end_turn.ensures.transfers c.end_turn.ensures.reserved
    (c.with_none.ensures ∙ none_made old is begun room c.args.asked (whole_asked c.args.asked c.requires.kind (omega (arith, c.requires.length)))) (length-set old.memory.values (place_of c.args.asked.addr) c.args.value)
    (writes_store_word c.args.asked old.memory.histories c.requires.kind c.requires.length c.requires.aligned at.above at.within)
