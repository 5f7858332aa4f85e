use Rattle.std.proofs.Common.{arith}
use Rattle.bus_memory.proofs.InsideLemmas.{whole_is, long_length}
use Rattle.bus_memory.proofs.memory.BusMemory.store.Goals as goal

pub returns-then-asked-eq4-clause-answer : goal.returns-then-asked-eq4-clause-answer
returns-then-asked-eq4-clause-answer c = whole_is c.args.self.now c.args.asked.addr c.args.asked.len (long_length c.args.asked.len (omega arith))

pub returns-else-asked-eq4-clause-answer : goal.returns-else-asked-eq4-clause-answer
returns-else-asked-eq4-clause-answer c = whole_is c.args.self.now c.args.asked.addr c.args.asked.len (long_length c.args.asked.len (omega arith))
