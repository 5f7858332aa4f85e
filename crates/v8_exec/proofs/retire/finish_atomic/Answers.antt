use Rattle.std.proofs.Common.{◌+◌}
use Rattle.v8_exec.proofs.AtomicLemmas.{finished}
use Rattle.v8_exec.proofs.retire.finish_atomic.Goals as goal

pub returns-clause-finishes : goal.returns-clause-finishes
returns-clause-finishes g c i parts addr len new =
    finished i parts addr len new c.args.rd c.args.got c.args.a.now (record c.retire_with.new.a { n = c.retire_with.new.a.n + 1 }) (g.P.Ports.seen c.args.p.now) (g.P.Ports.seen c.retire_with.new.p)
    c.retire_with.ensures.state c.retire_with.ensures.ops c.retire_with.ensures.site
