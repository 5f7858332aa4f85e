use Rattle.std.proofs.Common.{◌≡◌, ◌∙◌, Some, None, not, refl, sym}
use Rattle.std.specs.Option.{option_or}
use Rattle.lf_model.specs.Traps.{when, privileged_instruction, mem_address_not_aligned, data_access_exception}
use Rattle.lf_model.specs.Effect.{with_reads}
use Rattle.lf_model.specs.Effects.{completed, effect}
use Rattle.lf_model.specs.OrdinaryTraps.{ordinary_trap}
use Rattle.lf_model.specs.Instructions.{registers_read}
use Rattle.lf_model.specs.Step.{state_of, run_seen}
use Rattle.lf_model.specs.declared.instruction.Instr.TheVariants.{Alternate}
use Rattle.v8_exec.proofs.TrapLemmas.{trap_does}
use Rattle.v8_exec.proofs.CheckLemmas.{cleared, privileged_access}
use Rattle.v8_exec.proofs.memory.alternate.Given.{Over}
use Rattle.v8_exec.proofs.memory.alternate.Goals as goal

-- the trap that is taken
taken : (g : Over) (c : goal.After-take g) → let seen = g.P.Ports.seen c.args.p.now in
    ordinary_trap seen.site (state_of c.args.a.now seen) (Alternate c.args.name c.args.rd c.args.rs1 c.args.rs2 c.args.asi) ≡ Some c.in-Some.tt
taken g c =
    let seen = g.P.Ports.seen c.args.p.now in
    let s = state_of c.args.a.now seen in
    let i = Alternate c.args.name c.args.rd c.args.rs1 c.args.rs2 c.args.asi in
    let value = privileged_access c.default.result c.first_trap.result (not c.args.a.now.ctl.s) c.is_misaligned.result c.is_alternate_refused.result (cleared c.default.result c.default.ensures) c.first_trap.ensures.value in
    let trap : ordinary_trap seen.site s i ≡ option_or (when (not c.args.a.now.ctl.s) privileged_instruction) (option_or (when c.is_misaligned.result mem_address_not_aligned) (option_or (when c.is_alternate_refused.result data_access_exception) None)) =
    rw c.is_misaligned.ensures (rw c.is_alternate_refused.ensures (rw c.read_request.ensures.seen (rw c.in_ok-x.ensures.read.0 refl))) in
    trap ∙ sym value ∙ c.in-Some.is

pub returns-in-Some-clause-does : goal.returns-in-Some-clause-does
unfolding effect
returns-in-Some-clause-does g c =
    let seen = g.P.Ports.seen c.args.p.now in
    let parts = g.P.Ports.answers (g.P.Ports.state c.args.p.now) in
    let s = state_of c.args.a.now seen in
    let i = Alternate c.args.name c.args.rd c.args.rs1 c.args.rs2 c.args.asi in
    trap_does seen.site.core parts (ordinary_trap seen.site s i) c.in-Some.tt s (with_reads (registers_read i) (completed seen.site s i)) c.take.result (run_seen c.args.a.now seen) (run_seen c.take.new.a (g.P.Ports.seen c.take.new.p))
    (taken g c)
    (rw (sym c.read_request.ensures.seen) (rw (sym c.read_request.ensures.parts) c.take.ensures.does))
