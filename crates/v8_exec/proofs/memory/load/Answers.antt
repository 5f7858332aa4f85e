use Rattle.v8_exec.specs.Accesses.{load_access}
use Rattle.v8_exec.proofs.LoadLemmas.{load_does, operation_keeps}
use Rattle.v8_exec.proofs.memory.load.Goals as goal

pub returns-in-Ok-clause-does : goal.returns-in-Ok-clause-does
returns-in-Ok-clause-does g c =
    load_does (g.P.Ports.seen c.args.p.now) (g.P.Ports.seen c.look.new.p) (g.P.Ports.seen c.retire_with.new.p) (g.P.Ports.answers (g.P.Ports.state c.args.p.now))
    c.args.a.now c.retire_with.new.a c.args.name c.args.addr c.args.rd c.size.result c.in-Ok.value c.loaded.result
    c.size.ensures.size c.in-Ok.ensures.looks c.loaded.ensures c.retire_with.ensures.state c.retire_with.ensures.ops

pub returns-in-Ok-clause-keeps : goal.returns-in-Ok-clause-keeps
returns-in-Ok-clause-keeps g c =
    operation_keeps (g.P.Ports.seen c.args.p.now) (g.P.Ports.seen c.look.new.p) (g.P.Ports.seen c.retire_with.new.p)
    c.args.a.now c.retire_with.new.a (load_access c.args.addr c.size.result 0) c.in-Ok.value
    (g.P.Ports.room c.args.p.now) (g.P.Ports.room c.look.new.p) (g.P.Ports.room c.retire_with.new.p)
    (c.in-Ok.ensures.looks.made 0) c.retire_with.ensures.ops c.retire_with.ensures.site
    c.retire_with.ensures.sound c.retire_with.ensures.core c.retire_with.ensures.instructions c.retire_with.ensures.operations
    c.in-Ok.ensures.room c.retire_with.ensures.room
