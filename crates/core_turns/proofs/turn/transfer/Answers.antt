use Rattle.std.proofs.Common.{sym, subst}
use Rattle.core_parts.specs.CanRun.{CanRun}
use Rattle.lf_model.specs.declared.step.Turn.{Turn}
use Rattle.core_turns.proofs.Transferring.{access_at, fetch_shown, load_shown, atomic_shown, drain_shown}
use Rattle.core_turns.proofs.turn.transfer.Goals as goal
use Rattle.core_turns.specs.CanTurn.{CanTurn, steps_ended, looked_before}
use Rattle.core_turns.specs.Transfers.{Transfers}

pub fetch-requires-clause-access : goal.fetch-requires-clause-access
fetch-requires-clause-access c = access_at c.args.arch.now.ctl.pc c.requires.core.pc

pub returns-in-Fetch : goal.returns-in-Fetch
returns-in-Fetch c =
    subst (λ (t : Turn). Transfers t c.args.arch.now c.args.arch.now c.args.parts.now c.fetch.new.parts c.args.bus.now c.fetch.new.bus c.fetch.result) (sym c.in-Fetch.is)
    (fetch_shown c.args.arch.now c.args.parts.now c.args.bus.now c.requires.setup c.requires.ok c.requires.core c.in-Fetch.line c.in-Fetch.why (subst (λ (t : Turn). CanTurn t c.args.arch.now c.args.parts.now) c.in-Fetch.is c.requires.can) c.fetch.ensures.address (subst (λ (t : Turn). CanRun (steps_ended c.args.parts.now) (looked_before t) c.args.parts.now) c.in-Fetch.is c.requires.runs) c.steps.result c.steps.ensures.steps c.fetch.new.parts c.fetch.new.bus c.fetch.result c.fetch.ensures.filled c.fetch.ensures.made c.fetch.ensures.answer c.fetch.ensures.ok)

pub returns-in-Load : goal.returns-in-Load
returns-in-Load c =
    subst (λ (t : Turn). Transfers t c.args.arch.now c.args.arch.now c.args.parts.now c.load.new.parts c.args.bus.now c.load.new.bus c.load.result) (sym c.in-Load.is)
    (load_shown c.args.arch.now c.args.parts.now c.args.bus.now c.requires.setup c.requires.ok c.requires.core c.in-Load.addr c.in-Load.len c.in-Load.why (subst (λ (t : Turn). CanRun (steps_ended c.args.parts.now) (looked_before t) c.args.parts.now) c.in-Load.is c.requires.runs) c.steps.result c.steps.ensures.steps c.load.new.parts c.load.new.bus c.load.result c.load.ensures.filled c.load.ensures.made (c.load.ensures.answer c.args.arch.now.ctl.pc) c.load.ensures.ok)

pub returns-in-Atomic : goal.returns-in-Atomic
returns-in-Atomic c =
    subst (λ (t : Turn). Transfers t c.args.arch.now c.atomic.new.arch c.args.parts.now c.atomic.new.parts c.args.bus.now c.atomic.new.bus c.atomic.result) (sym c.in-Atomic.is)
    (atomic_shown c.args.arch.now c.args.parts.now c.args.bus.now c.requires.setup c.requires.ok c.requires.core c.in-Atomic.addr c.in-Atomic.len c.in-Atomic.new c.in-Atomic.rd c.steps.result c.steps.ensures.steps c.from.result c.from.ensures c.atomic.new.arch c.atomic.new.parts c.atomic.new.bus c.atomic.result c.atomic.ensures.core c.atomic.ensures.made (c.atomic.ensures.answer c.args.arch.now.ctl.pc) c.atomic.ensures.ok c.atomic.ensures.keeps c.atomic.ensures.runs)

pub returns-in-Drain : goal.returns-in-Drain
returns-in-Drain c =
    subst (λ (t : Turn). Transfers t c.args.arch.now c.args.arch.now c.args.parts.now c.drain.new.parts c.args.bus.now c.drain.new.bus c.drain.result) (sym c.in-Drain.is)
    (drain_shown c.args.arch.now c.args.parts.now c.args.bus.now c.requires.setup c.requires.ok c.requires.core c.in-Drain.why (subst (λ (t : Turn). CanRun (steps_ended c.args.parts.now) (looked_before t) c.args.parts.now) c.in-Drain.is c.requires.runs) c.steps.result c.steps.ensures.steps c.drain.new.parts c.drain.new.bus c.drain.result c.drain.ensures.parts c.drain.ensures.made (c.drain.ensures.answer c.args.arch.now.ctl.pc) c.drain.ensures.ok)
