use Rattle.std.proofs.Common.{ap, ◌∙◌, arith}
use Rattle.coded_words.specs.Words.{ended}
use Rattle.bus_memory.proofs.AskedLemmas.{whole_asked}
use Rattle.bus_memory.proofs.InsideLemmas.{begun_in, room_in, in_array, closed, none_made, ram_above}
use Rattle.bus_memory.proofs.WriteLemmas.{writes_double}
use Rattle.bus_memory.proofs.InsideLemmas.{second_within, double_written, double_long}
use Rattle.bus_memory.proofs.memory.BusMemory.store_double.Goals as goal

pub invariant_of-self : goal.invariant_of-self
invariant_of-self c =
    let old = c.self.inside in
    let is = c.self.invariant in
    let begun = begun_in old c.args.self.now c.self.view_is c.requires.begun in
    let room = room_in old c.args.self.now c.self.view_is c.requires.room in
    let in_ram = in_array old c.args.self.now c.args.asked.addr 8 is c.self.view_is c.requires.in_ram in
    closed old is begun room c.args.asked c.with_none.result _ _ c.end_turn.new.memory c.end_turn.new.transfers (c.end_turn.ensures.memory ∙ ap ended (double_written old.memory _ _ _ _ c.write_word.ensures c.write_word-2.ensures)) c.end_turn.ensures.transfers c.end_turn.ensures.reserved
    (c.with_none.ensures ∙ none_made old is begun room c.args.asked (whole_asked c.args.asked c.requires.kind (omega (arith, c.requires.length)))) (double_long old.memory _ _ _ _)
    (writes_double c.args.asked old.memory.histories c.requires.kind c.requires.length c.requires.aligned (ram_above _ c.args.asked.addr 8 in_ram) (second_within _ c.args.asked.addr in_ram))
