use Rattle.std.proofs.Common.{refl, ap, ◌∙◌}
use Rattle.bus_memory.proofs.AskedLemmas.{snoop_asked}
use Rattle.bus_memory.proofs.InsideLemmas.{begun_in, room_in, closed, none_made}
use Rattle.bus_memory.proofs.WriteLemmas.{writes_nothing}
use Rattle.lf_model.specs.Bus.Words.{write_of}
use Rattle.bus_memory.proofs.memory.BusMemory.snoop.Goals as goal

pub invariant_of-self : goal.invariant_of-self
invariant_of-self c =
    let old = c.self.inside in
    let is = c.self.invariant in
    let begun = begun_in old c.args.self.now c.self.view_is c.requires.begun in
    let room = room_in old c.args.self.now c.self.view_is c.requires.room in
    closed old is begun room c.args.asked c.with_none.result old.memory.values old.memory.histories c.end_turn.new.memory c.end_turn.new.transfers c.end_turn.ensures.memory c.end_turn.ensures.transfers c.end_turn.ensures.reserved
    (c.with_none.ensures ∙ none_made old is begun room c.args.asked (snoop_asked c.args.asked c.requires.kind)) refl
    (writes_nothing c.args.asked old.memory.histories (λ h. ap (write_of c.args.asked.len h) c.requires.kind))
