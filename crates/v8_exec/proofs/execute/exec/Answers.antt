use Rattle.lf_model.specs.Effects.{effect}
use Rattle.lf_model.specs.Instructions.{instruction_of, registers_read}
use Rattle.lf_model.specs.Step.{state_of, run_seen}
use Rattle.v8_exec.proofs.JoinLemmas.{effect-reads, does_good, does_bad, touches_good, touches_bad}
use Rattle.v8_exec.proofs.TurnLemmas.{asks}
use Rattle.v8_exec.proofs.execute.exec.Goals as goal

-- A register is bad.

pub returns-in-Err-clause-does : goal.returns-in-Err-clause-does
returns-in-Err-clause-does g c =
    let seen = g.P.Ports.seen c.args.p.now in
    let parts = g.P.Ports.answers (g.P.Ports.state c.args.p.now) in
    let s = state_of c.args.a.now seen in
    let i = instruction_of c.args.w in
    let refused = c.in-Err.ensures.refuses in
    let stopped = does_bad seen.site.core parts (effect seen.site s i) (registers_read i) c.in-Err.bad (run_seen c.args.a.now seen) (effect-reads seen.site s i) c.in-Err.ensures.read in
    rw c.stop.ensures.stop (rw refused.answers (rw refused.arch (rw refused.seen stopped)))

pub returns-in-Err-clause-touches : goal.returns-in-Err-clause-touches
returns-in-Err-clause-touches g c =
    let seen = g.P.Ports.seen c.args.p.now in
    let s = state_of c.args.a.now seen in
    let i = instruction_of c.args.w in
    touches_bad g.P.Ports.touch (g.P.Ports.answers (g.P.Ports.state c.args.p.now)) c.args.a.now.ctl.cwp (effect seen.site s i) (registers_read i) c.in-Err.bad c.stop.result
    (g.P.Ports.state c.args.p.now) (g.P.Ports.state c.perform_word.new.p)
    (effect-reads seen.site s i) c.in-Err.ensures.read (c.stop.ensures.unretired (effect seen.site s i)) c.in-Err.ensures.touches

-- All registers are good.

pub returns-clause-does : goal.returns-clause-does
returns-clause-does g c =
    let seen = g.P.Ports.seen c.args.p.now in
    let s = state_of c.args.a.now seen in
    let i = instruction_of c.args.w in
    does_good seen.site.core (g.P.Ports.answers (g.P.Ports.state c.args.p.now)) (effect seen.site s i) (registers_read i) c.in-Ok.did
    (run_seen c.args.a.now seen) (run_seen c.perform_word.new.a (g.P.Ports.seen c.perform_word.new.p))
    (effect-reads seen.site s i) c.in-Ok.ensures.read c.in-Ok.ensures.does

pub returns-clause-touches : goal.returns-clause-touches
returns-clause-touches g c =
    let seen = g.P.Ports.seen c.args.p.now in
    let s = state_of c.args.a.now seen in
    let i = instruction_of c.args.w in
    touches_good g.P.Ports.touch (g.P.Ports.answers (g.P.Ports.state c.args.p.now)) c.args.a.now.ctl.cwp (effect seen.site s i) (registers_read i) c.in-Ok.did
    (g.P.Ports.state c.args.p.now) (g.P.Ports.state c.perform_word.new.p)
    (effect-reads seen.site s i) c.in-Ok.ensures.read c.in-Ok.ensures.touches

pub returns-clause-turn : goal.returns-clause-turn
returns-clause-turn g c =
    let seen = g.P.Ports.seen c.args.p.now in
    let parts = g.P.Ports.answers (g.P.Ports.state c.args.p.now) in
    let s = state_of c.args.a.now seen in
    let i = instruction_of c.args.w in
    let does = does_good seen.site.core parts (effect seen.site s i) (registers_read i) c.in-Ok.did
    (run_seen c.args.a.now seen) (run_seen c.perform_word.new.a (g.P.Ports.seen c.perform_word.new.p))
    (effect-reads seen.site s i) c.in-Ok.ensures.read c.in-Ok.ensures.does in
    asks seen.site seen.site parts s i c.in-Ok.did does.answer c.in-Ok.ensures.turn
