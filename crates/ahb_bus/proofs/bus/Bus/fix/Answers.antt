use Rattle.std.proofs.Common.{[], length, ap, sym, subst, ◌∙◌}
use Rattle.bus_memory.specs.MemoryState.{fix_answer}
use Rattle.lf_model.specs.declared.bus.Transfer.{Transfer}
use Rattle.lf_model.specs.declared.bus.TurnKind.TheVariants.{Fix}
use Rattle.lf_model.specs.declared.bus.Why.TheVariants as whys
use Rattle.ahb_bus.specs.Asks.{HasFields, IsTaken}
use Rattle.ahb_bus.specs.BusOk.{BusOk}
use Rattle.ahb_bus.specs.BusState.{BusState, memory_of, after_turn}
use Rattle.ahb_bus.proofs.InsideLemmas.{plain_asked}
use Rattle.ahb_bus.proofs.TakenLemmas.{taken_fix}
use Rattle.ahb_bus.proofs.bus.Bus.fix.Goals as goal

pub fix_word-requires-clause-taken : goal.fix_word-requires-clause-taken
fix_word-requires-clause-taken c =
    let s = c.args.self.now in
    let same = plain_asked s c.args.w Fix whys.None c.args.addr c.turns.result c.asked-made.ensures.value (c.turns.ensures ∙ ap (λ (b : BusState). length b.transfers) c.self.view_is) in
    subst (IsTaken s) (sym same)
    (taken_fix s (subst BusOk c.self.view_is c.self.invariant.ok) c.args.w c.args.addr c.requires.turn c.requires.in_ram (subst HasFields same c.asked-made.ensures.fields))

pub returns-clause-answer : goal.returns-clause-answer
returns-clause-answer c = c.fix_word.ensures.answer ∙ ap (λ (t : Transfer). fix_answer (memory_of c.args.self.now) t.addr) c.asked-made.ensures.value

pub returns-clause-made : goal.returns-clause-made
returns-clause-made c =
    c.fix_word.ensures.made
    ∙ ap (λ (t : Transfer). after_turn t [] c.args.self.now.values c.args.self.now)
    (plain_asked c.args.self.now c.args.w Fix whys.None c.args.addr c.turns.result c.asked-made.ensures.value (c.turns.ensures ∙ ap (λ (b : BusState). length b.transfers) c.self.view_is))
