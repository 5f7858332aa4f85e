use Rattle.std.proofs.Common.{[], ap, ◌∙◌}
use Rattle.core_parts.proofs.PortLemmas.{read_answer}
use Rattle.core_parts.proofs.Touching.{answers_read}
use Rattle.core_parts.specs.Inside.{ports_of}
use Rattle.core_parts.specs.PortState.{answers}
use Rattle.ft_regfile.specs.Registers.{Registers}
use Rattle.core_parts.proofs.ports.PartsPorts.reg.Goals as goal

pub returns-clause-answer : goal.returns-clause-answer
returns-clause-answer c = c.read.ensures.answer ∙ read_answer c.args.self.now.arrays.registers c.args.cell

pub returns-clause-parts : goal.returns-clause-parts
returns-clause-parts c =
    ap (λ (r : Registers). answers (record (ports_of c.args.self.now) { cells = r.histories })) c.read.ensures.read_back
    ∙ answers_read [] (ports_of c.args.self.now) c.args.cell
