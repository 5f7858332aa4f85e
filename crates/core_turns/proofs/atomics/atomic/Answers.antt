use Rattle.std.proofs.Common.{Ok, Err, ◌∙◌, ◌+◌, ◌*◌, ◌^◌, ◌<◌, length, ap, sym, subst}
use Rattle.std.proofs.lemmas.Result.{err_from_is_err_and}
use Rattle.ahb_bus.specs.BusState.{BusState}
use Rattle.core_parts.specs.Inside.{value_of}
use Rattle.core_turns.proofs.AtomicKept.{part_small}
use Rattle.core_turns.proofs.ExchangeAnswers.{answers, core_exchanged, core_same, log_longer}
use Rattle.core_turns.proofs.Transferring.{exchange_here, runs_same}
use Rattle.core_turns.proofs.atomics.atomic.Goals as goal
use Rattle.core_turns.specs.CanTurn.{steps_ended}

pub atomic-requires-clause-begun : goal.atomic-requires-clause-begun
atomic-requires-clause-begun c = c.requires.begun

pub atomic-requires-clause-turn : goal.atomic-requires-clause-turn
atomic-requires-clause-turn c = c.requires.turn

pub atomic-requires-clause-entry : goal.atomic-requires-clause-entry
atomic-requires-clause-entry c = c.requires.entry

pub atomic-requires-clause-length : goal.atomic-requires-clause-length
atomic-requires-clause-length c = c.requires.can.exchange.size

pub atomic-requires-clause-in_ram : goal.atomic-requires-clause-in_ram
atomic-requires-clause-in_ram c = (exchange_here c.args.arch.now c.args.parts.now c.args.bus.now c.requires.setup c.requires.ok c.requires.core c.args.asked.now c.args.rd c.requires.can).store.in_ram

pub atomic-requires-clause-aligned : goal.atomic-requires-clause-aligned
atomic-requires-clause-aligned c = (exchange_here c.args.arch.now c.args.parts.now c.args.bus.now c.requires.setup c.requires.ok c.requires.core c.args.asked.now c.args.rd c.requires.can).store.aligned

pub atomic-requires-clause-value : goal.atomic-requires-clause-value
atomic-requires-clause-value c = (exchange_here c.args.arch.now c.args.parts.now c.args.bus.now c.requires.setup c.requires.ok c.requires.core c.args.asked.now c.args.rd c.requires.can).store.value

pub atomic-requires-clause-text : goal.atomic-requires-clause-text
atomic-requires-clause-text c = (exchange_here c.args.arch.now c.args.parts.now c.args.bus.now c.requires.setup c.requires.ok c.requires.core c.args.asked.now c.args.rd c.requires.can).store.text

pub number_read-number-requires-clause-length : goal.number_read-number-requires-clause-length
number_read-number-requires-clause-length c = c.requires.can.exchange.size

pub number_read-number-requires-clause-aligned : goal.number_read-number-requires-clause-aligned
number_read-number-requires-clause-aligned c = c.requires.can.exchange.store.aligned

pub retire_atomic-requires-clause-core : goal.retire_atomic-requires-clause-core
retire_atomic-requires-clause-core c = c.requires.core

pub retire_atomic-requires-clause-can : goal.retire_atomic-requires-clause-can
retire_atomic-requires-clause-can c = c.requires.can

pub retire_atomic-requires-clause-runs : goal.retire_atomic-requires-clause-runs
retire_atomic-requires-clause-runs c = c.requires.runs

pub retire_atomic-requires-clause-number : goal.retire_atomic-requires-clause-number
retire_atomic-requires-clause-number c = subst (λ n. n < 2 ^ (8 * c.args.asked.now.len)) (sym c.number_read-number.ensures) (part_small c.in_ok-got.got.value c.args.asked.now.addr c.args.asked.now.len c.requires.can.exchange.size)

pub retire_atomic-requires-clause-seen : goal.retire_atomic-requires-clause-seen
retire_atomic-requires-clause-seen c =
    c.len.ensures.length ∙ (ap length c.log.ensures.entries ∙ (ap (λ (b : BusState). length b.log) c.atomic.ensures.made
    ∙ (log_longer c.args.bus.now c.args.who c.args.asked.now c.args.rd c.requires.ok (exchange_here c.args.arch.now c.args.parts.now c.args.bus.now c.requires.setup c.requires.ok c.requires.core c.args.asked.now c.args.rd c.requires.can) c.in_ok-got.got c.in_ok-got.ensures.answer ∙ ap (λ n. n + 1) (sym c.requires.seen))))

pub returns-in_err-got-clause-core : goal.returns-in_err-got-clause-core
returns-in_err-got-clause-core c = λ quiet named phase.
    core_same c.args.bus.now c.args.who c.args.asked.now c.args.rd c.requires.ok (exchange_here c.args.arch.now c.args.parts.now c.args.bus.now c.requires.setup c.requires.ok c.requires.core c.args.asked.now c.args.rd c.requires.can) c.in_err-got.field-0.0 c.in_err-got.ensures.answer (value_of c.args.arch.now c.args.parts.now quiet named phase)

pub returns-in_err-got-clause-made : goal.returns-in_err-got-clause-made
returns-in_err-got-clause-made c = c.atomic.ensures.made

pub returns-in_err-got-clause-answer : goal.returns-in_err-got-clause-answer
returns-in_err-got-clause-answer c = λ pc.
    let p = err_from_is_err_and c.from_residual.result c.from_residual.ensures.1 in
    rw (p.1, p.2) (answers c.args.bus.now c.args.who c.args.asked.now c.args.rd c.requires.ok (exchange_here c.args.arch.now c.args.parts.now c.args.bus.now c.requires.setup c.requires.ok c.requires.core c.args.asked.now c.args.rd c.requires.can) pc (Err c.in_err-got.field-0.0) c.in_err-got.ensures.answer)

pub returns-in_err-got-clause-ok : goal.returns-in_err-got-clause-ok
returns-in_err-got-clause-ok c = c.atomic.ensures.ok

pub returns-in_err-got-clause-keeps : goal.returns-in_err-got-clause-keeps
returns-in_err-got-clause-keeps c = c.requires.core

pub returns-in_err-got-clause-runs : goal.returns-in_err-got-clause-runs
returns-in_err-got-clause-runs c = runs_same (steps_ended c.args.parts.now) c.args.parts.now c.requires.runs

pub returns-clause-core : goal.returns-clause-core
returns-clause-core c = λ quiet named phase.
    core_exchanged c.args.bus.now c.args.who c.args.asked.now c.args.rd c.requires.ok (exchange_here c.args.arch.now c.args.parts.now c.args.bus.now c.requires.setup c.requires.ok c.requires.core c.args.asked.now c.args.rd c.requires.can) c.in_ok-got.got c.in_ok-got.ensures.answer c.number_read-number.result c.number_read-number.ensures
    (value_of c.args.arch.now c.args.parts.now quiet named phase) (value_of c.retire_atomic.new.arch c.retire_atomic.new.parts quiet named phase) (c.retire_atomic.ensures.core quiet named phase)

pub returns-clause-made : goal.returns-clause-made
returns-clause-made c = c.atomic.ensures.made

pub returns-clause-answer : goal.returns-clause-answer
returns-clause-answer c = λ pc. answers c.args.bus.now c.args.who c.args.asked.now c.args.rd c.requires.ok (exchange_here c.args.arch.now c.args.parts.now c.args.bus.now c.requires.setup c.requires.ok c.requires.core c.args.asked.now c.args.rd c.requires.can) pc (Ok c.in_ok-got.got) c.in_ok-got.ensures.answer

pub returns-clause-ok : goal.returns-clause-ok
returns-clause-ok c = c.atomic.ensures.ok

pub returns-clause-keeps : goal.returns-clause-keeps
returns-clause-keeps c = c.retire_atomic.ensures.keeps

pub returns-clause-runs : goal.returns-clause-runs
returns-clause-runs c = c.retire_atomic.ensures.runs
