use Rattle.std.proofs.Common.{ap, ◌∙◌}
use Rattle.bus_memory.specs.MemoryState.{MemoryState, value_shown}
use Rattle.bus_memory.proofs.InsideLemmas.{in_array, word_at, peek_is}
use Rattle.bus_memory.proofs.memory.BusMemory.peek.Goals as goal

pub returns : goal.returns
returns c =
    let old = c.self.inside in
    let is = c.self.invariant in
    c.peek.ensures ∙ peek_is old is c.args.addr (word_at _ c.args.addr (in_array old c.args.self.now c.args.addr 4 is c.self.view_is c.requires.in_ram) c.requires.aligned)
    ∙ ap (λ (s : MemoryState). value_shown s c.args.addr) c.self.view_is
