use Rattle.std.proofs.Common.{◌≡◌, refl}
use Rattle.lf_model.specs.Step.{state_of}
use Rattle.lf_model.specs.Traps.{handler_window}
use Rattle.v8_exec.proofs.TrapLemmas.{trap_entered, not_false}
use Rattle.v8_exec.proofs.trap.take.Goals as goal

pub returns-in-Vectored-clause-does : goal.returns-in-Vectored-clause-does
returns-in-Vectored-clause-does g c =
    let enabled = not_false c.args.a.now.ctl.et (λ disabled. let e = c.in-Vectored.is in let f = c.enter.ensures.error_mode.1 disabled in absurd (cc)) in
    let seen = g.P.Ports.seen c.args.p.now in
    let is = c.in-Vectored.is in
    let vectored = c.enter.ensures.vectored enabled in
    let window : c.in-Vectored.window ≡ handler_window c.args.a.now.ctl.cwp = cc in
    let pc : c.in-Vectored.pc ≡ c.args.a.now.ctl.pc = cc in
    let npc : c.in-Vectored.npc ≡ c.args.a.now.ctl.npc = cc in
    trap_entered seen (g.P.Ports.seen c.set_reg-in-Vectored.new.self) (g.P.Ports.answers (g.P.Ports.state c.args.p.now)) c.args.a.now c.enter.new.ctl c.args.tt c.in-Vectored.window
    enabled (c.enter.ensures.control enabled (state_of c.args.a.now seen) refl) window
    (rw c.set_reg-in-Vectored.ensures.seen (rw c.set_reg.ensures.seen (rw c.cell-in-Vectored.ensures.cell (rw c.cell.ensures.cell (rw pc (rw npc refl))))))
