use Rattle.std.proofs.Common.{ap, ◌∙◌}
use Rattle.bus_memory.specs.MemoryState.{MemoryState, ram_of}
use Rattle.bus_tables.proofs.MemoryLemmas.{merged_ram, merged_room}
use Rattle.bus_tables.proofs.tests.turns.exchange.Goals as goal

pub returns-clause-ram : goal.returns-clause-ram
returns-clause-ram g c = ap ram_of c.exchange.ensures.made ∙ merged_ram c.args.asked.addr c.args.asked.len c.args.value 64 c.args.memory.now c.requires.ram

pub returns-clause-room : goal.returns-clause-room
returns-clause-room g c =
    ap (λ (m : MemoryState). m.room) c.exchange.ensures.made ∙ merged_room c.args.asked.addr c.args.asked.len c.args.value 64 c.args.memory.now
