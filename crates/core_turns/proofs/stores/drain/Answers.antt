use Rattle.std.proofs.Common.{◌∙◌, ◌+◌, Ok, Err, length, sym, ap}
use Rattle.ahb_bus.specs.BusState.{BusState}
use Rattle.core_turns.proofs.DrainLemmas.{IsFirst, first, enters, lost, answers, log_longer, taken_out, parts_lost, parts_drained, some_wait, none_waits}
use Rattle.core_turns.proofs.stores.drain.Goals as goal

pub unreachable-requires : goal.unreachable-requires
unreachable-requires c = none_waits c.args.bus.now.setup c.args.parts.now.buffer.waiting c.front.result c.in_default.is c.front.ensures.empty c.requires.waits

pub unreachable-unreachable : goal.unreachable-unreachable
unreachable-unreachable c = none_waits c.args.bus.now.setup c.args.parts.now.buffer.waiting c.front.result c.in_default.is c.front.ensures.empty c.requires.waits

pub store-requires-clause-begun : goal.store-requires-clause-begun
store-requires-clause-begun c = c.requires.begun

pub store-requires-clause-turn : goal.store-requires-clause-turn
store-requires-clause-turn c = c.requires.turn

pub store-requires-clause-entry : goal.store-requires-clause-entry
store-requires-clause-entry c = c.requires.entry

pub store-requires-clause-cause : goal.store-requires-clause-cause
store-requires-clause-cause c = c.requires.cause

pub store-requires-clause-length : goal.store-requires-clause-length
store-requires-clause-length c = (first c.args.bus.now c.args.who c.args.why c.args.parts.now.buffer.waiting c.in-Some.store (sym c.in-Some.is ∙ c.front.ensures.oldest) c.requires.waits).can.size

pub store-requires-clause-in_ram : goal.store-requires-clause-in_ram
store-requires-clause-in_ram c = (first c.args.bus.now c.args.who c.args.why c.args.parts.now.buffer.waiting c.in-Some.store (sym c.in-Some.is ∙ c.front.ensures.oldest) c.requires.waits).can.in_ram

pub store-requires-clause-aligned : goal.store-requires-clause-aligned
store-requires-clause-aligned c = (first c.args.bus.now c.args.who c.args.why c.args.parts.now.buffer.waiting c.in-Some.store (sym c.in-Some.is ∙ c.front.ensures.oldest) c.requires.waits).can.aligned

pub store-requires-clause-value : goal.store-requires-clause-value
store-requires-clause-value c = (first c.args.bus.now c.args.who c.args.why c.args.parts.now.buffer.waiting c.in-Some.store (sym c.in-Some.is ∙ c.front.ensures.oldest) c.requires.waits).can.value

pub store-requires-clause-text : goal.store-requires-clause-text
store-requires-clause-text c = (first c.args.bus.now c.args.who c.args.why c.args.parts.now.buffer.waiting c.in-Some.store (sym c.in-Some.is ∙ c.front.ensures.oldest) c.requires.waits).can.text

pub lose_waiting-requires : goal.lose_waiting-requires
lose_waiting-requires c = record { some = some_wait c.args.bus.now.setup c.args.parts.now.buffer.waiting c.requires.waits }

pub returns-in-Err-clause-parts : goal.returns-in-Err-clause-parts
returns-in-Err-clause-parts c =
    let h : IsFirst c.args.bus.now c.args.who c.args.why c.args.parts.now.buffer.waiting c.in-Some.store = first c.args.bus.now c.args.who c.args.why c.args.parts.now.buffer.waiting c.in-Some.store (sym c.in-Some.is ∙ c.front.ensures.oldest) c.requires.waits in
    parts_lost _ c.args.parts.now c.lose_waiting.new.self (lost c.args.bus.now c.args.who c.args.why c.args.parts.now.buffer.waiting c.in-Some.store c.requires.ok h c.in-Err.bad (sym c.in-Err.is ∙ c.store.ensures.answer)) c.lose_waiting.ensures.lost

pub returns-in-Err-clause-made : goal.returns-in-Err-clause-made
returns-in-Err-clause-made c = c.store.ensures.made ∙ sym (first c.args.bus.now c.args.who c.args.why c.args.parts.now.buffer.waiting c.in-Some.store (sym c.in-Some.is ∙ c.front.ensures.oldest) c.requires.waits).made

pub returns-in-Err-clause-answer : goal.returns-in-Err-clause-answer
returns-in-Err-clause-answer c = λ pc.
    let h : IsFirst c.args.bus.now c.args.who c.args.why c.args.parts.now.buffer.waiting c.in-Some.store = first c.args.bus.now c.args.who c.args.why c.args.parts.now.buffer.waiting c.in-Some.store (sym c.in-Some.is ∙ c.front.ensures.oldest) c.requires.waits in
    answers c.args.bus.now c.args.who c.args.why c.args.parts.now.buffer.waiting c.in-Some.store c.requires.ok h pc (Err c.in-Err.bad) (sym c.in-Err.is ∙ c.store.ensures.answer)

pub returns-in-Err-clause-ok : goal.returns-in-Err-clause-ok
returns-in-Err-clause-ok c = c.store.ensures.ok

pub returns-clause-parts : goal.returns-clause-parts
returns-clause-parts c =
    let h : IsFirst c.args.bus.now c.args.who c.args.why c.args.parts.now.buffer.waiting c.in-Some.store = first c.args.bus.now c.args.who c.args.why c.args.parts.now.buffer.waiting c.in-Some.store (sym c.in-Some.is ∙ c.front.ensures.oldest) c.requires.waits in
    let is = sym c.in_default-store.is ∙ c.store.ensures.answer in
    parts_drained _ c.args.parts.now c.pop.new.self c.see.new.self
    (enters c.args.bus.now c.args.who c.args.why c.args.parts.now.buffer.waiting c.in-Some.store c.requires.ok h c.in_default-store.field-0 is)
    (taken_out c.pop.result c.args.parts.now.buffer c.pop.new.self c.in-Some.store (sym c.in-Some.is ∙ c.front.ensures.oldest) c.pop.ensures.oldest c.pop.ensures.empty)
    (c.see.ensures
    ∙ ap (λ n. record c.args.parts.now.«record» { seen = n })
    (c.len.ensures.length ∙ (ap length c.log.ensures.entries ∙ (ap (λ (b : BusState). length b.log) c.store.ensures.made
    ∙ (log_longer c.args.bus.now c.args.who c.args.why c.args.parts.now.buffer.waiting c.in-Some.store c.requires.ok h c.in_default-store.field-0 is ∙ ap (λ n. n + 1) (sym c.requires.seen))))))

pub returns-clause-made : goal.returns-clause-made
returns-clause-made c = c.store.ensures.made ∙ sym (first c.args.bus.now c.args.who c.args.why c.args.parts.now.buffer.waiting c.in-Some.store (sym c.in-Some.is ∙ c.front.ensures.oldest) c.requires.waits).made

pub returns-clause-answer : goal.returns-clause-answer
returns-clause-answer c = λ pc.
    let h : IsFirst c.args.bus.now c.args.who c.args.why c.args.parts.now.buffer.waiting c.in-Some.store = first c.args.bus.now c.args.who c.args.why c.args.parts.now.buffer.waiting c.in-Some.store (sym c.in-Some.is ∙ c.front.ensures.oldest) c.requires.waits in
    answers c.args.bus.now c.args.who c.args.why c.args.parts.now.buffer.waiting c.in-Some.store c.requires.ok h pc (Ok c.in_default-store.field-0) (sym c.in_default-store.is ∙ c.store.ensures.answer)

pub returns-clause-ok : goal.returns-clause-ok
returns-clause-ok c = c.store.ensures.ok
