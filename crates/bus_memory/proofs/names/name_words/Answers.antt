use Rattle.std.proofs.Common.{◌/◌, ◌∙◌}
use Rattle.bus_memory.specs.Names.{names_of}
use Rattle.bus_memory.proofs.NamedArray.{next_new, next_same}
use Rattle.bus_memory.proofs.names.name_words.Goals as goal
use Rattle.bus_memory.proofs.names.name_words.Goals.{in-Some, in_default}

pub loop-k-preserved : goal.loop-k-preserved
loop-k-preserved c = elim c.match-new_name.branch [
  | in-Some w ↦
      next_new c.args.script.now.value c.args.transfers.now (c.args.ram / 4) (names_of c.args.cores.now) c.args.own.now c.loop-k.k _ c.loop-k-test.true
      w.in-Some.name.addr w.in-Some.name.turn c.loop-k.memory c.match-new_name.memory w.in-Some.ensures (w.memory-is ∙ w.name_in.ensures) c.loop-k.invariant
  | in_default w ↦
      next_same c.args.script.now.value c.args.transfers.now (c.args.ram / 4) (names_of c.args.cores.now) c.args.own.now c.loop-k.k _ c.loop-k-test.true
      c.loop-k.memory c.match-new_name.memory w.in_default.ensures w.memory-is c.loop-k.invariant
]
