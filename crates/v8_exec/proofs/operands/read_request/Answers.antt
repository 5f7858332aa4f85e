use Rattle.lf_model.specs.Instructions.{operand_registers, stored_registers}
use Rattle.v8_exec.proofs.ReadLemmas.{reads_both}
use Rattle.v8_exec.proofs.operands.read_request.Goals as goal

pub returns-in_err-value-clause-touches : goal.returns-in_err-value-clause-touches
returns-in_err-value-clause-touches g c =
    reads_both g.P.Ports.touch g.P.Ports.answers c.args.a.now.ctl.cwp (operand_registers c.args.rs1 c.args.src) (stored_registers c.args.name c.args.rd)
    (g.P.Ports.state c.args.p.now) (g.P.Ports.state c.read_operands.new.p) (g.P.Ports.state c.read_number.new.p)
    c.in_ok-operands.ensures.read.2 c.read_operands.ensures.touches c.read_operands.ensures.parts c.read_number.ensures.touches

pub returns-clause-touches : goal.returns-clause-touches
returns-clause-touches g c =
    reads_both g.P.Ports.touch g.P.Ports.answers c.args.a.now.ctl.cwp (operand_registers c.args.rs1 c.args.src) (stored_registers c.args.name c.args.rd)
    (g.P.Ports.state c.args.p.now) (g.P.Ports.state c.read_operands.new.p) (g.P.Ports.state c.read_number.new.p)
    c.in_ok-operands.ensures.read.2 c.read_operands.ensures.touches c.read_operands.ensures.parts c.read_number.ensures.touches
