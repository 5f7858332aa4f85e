use Rattle.std.proofs.Common.{[], length, ap, sym, subst, ◌∙◌}
use Rattle.bus_memory.specs.MemoryState.{line_shown}
use Rattle.lf_model.specs.declared.bus.Transfer.{Transfer}
use Rattle.lf_model.specs.declared.bus.TurnKind.TheVariants.{Look}
use Rattle.lf_model.specs.declared.bus.Why.TheVariants as whys
use Rattle.ahb_bus.specs.Asks.{HasFields, IsTaken}
use Rattle.ahb_bus.specs.BusOk.{BusOk}
use Rattle.ahb_bus.specs.BusState.{BusState, memory_of, after_turn}
use Rattle.ahb_bus.proofs.InsideLemmas.{plain_asked}
use Rattle.ahb_bus.proofs.TakenLemmas.{taken_look}
use Rattle.ahb_bus.proofs.bus.Bus.look.Goals as goal

pub read_line-requires-clause-taken : goal.read_line-requires-clause-taken
read_line-requires-clause-taken c =
    let s = c.args.self.now in
    let same = plain_asked s c.args.w Look whys.None c.args.line c.turns.result c.asked-made.ensures.value (c.turns.ensures ∙ ap (λ (b : BusState). length b.transfers) c.self.view_is) in
    subst (IsTaken s) (sym same)
    (taken_look s (subst BusOk c.self.view_is c.self.invariant.ok) c.args.w c.args.line c.requires.turn c.requires.in_ram (subst HasFields same c.asked-made.ensures.fields))

pub returns-clause-line : goal.returns-clause-line
returns-clause-line c = c.read_line.ensures.line ∙ ap (λ (t : Transfer). line_shown (memory_of c.args.self.now) t.addr) c.asked-made.ensures.value

pub returns-clause-made : goal.returns-clause-made
returns-clause-made c =
    c.read_line.ensures.made
    ∙ ap (λ (t : Transfer). after_turn t [] c.args.self.now.values c.args.self.now)
    (plain_asked c.args.self.now c.args.w Look whys.None c.args.line c.turns.result c.asked-made.ensures.value (c.turns.ensures ∙ ap (λ (b : BusState). length b.transfers) c.self.view_is))
