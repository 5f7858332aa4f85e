use Rattle.std.proofs.Common.{[], length, ap, sym, subst, ◌∙◌}
use Rattle.bus_memory.specs.MemoryState.{line_shown}
use Rattle.lf_model.specs.declared.bus.Transfer.{Transfer}
use Rattle.ahb_bus.specs.Asks.{HasFields, IsTaken}
use Rattle.ahb_bus.specs.BusOk.{BusOk}
use Rattle.ahb_bus.specs.BusState.{BusState, memory_of, after_turn}
use Rattle.ahb_bus.proofs.InsideLemmas.{way_asked}
use Rattle.ahb_bus.proofs.TakenLemmas.{taken_fill, fields_way}
use Rattle.ahb_bus.proofs.bus.Bus.fill.Goals as goal

pub read_line-requires-clause-taken : goal.read_line-requires-clause-taken
read_line-requires-clause-taken c =
    let s = c.args.self.now in
    let same = way_asked s c.args.w c.args.kind c.args.why c.args.line c.turns.result c.asked.ensures.value (c.turns.ensures ∙ ap (λ (b : BusState). length b.transfers) c.self.view_is) c.args.way in
    let fields = subst HasFields same (fields_way _ c.args.way c.asked.ensures.fields c.ranges.way.fits) in
    subst (IsTaken s) (sym same)
    (taken_fill s (subst BusOk c.self.view_is c.self.invariant.ok) c.args.w c.args.kind c.args.why c.args.line c.args.way c.requires.turn c.requires.kind c.requires.cause c.requires.in_ram fields)

pub returns-clause-line : goal.returns-clause-line
returns-clause-line c = c.read_line.ensures.line ∙ ap (λ (t : Transfer). line_shown (memory_of c.args.self.now) t.addr) c.asked.ensures.value

pub returns-clause-made : goal.returns-clause-made
returns-clause-made c =
    c.read_line.ensures.made
    ∙ ap (λ (t : Transfer). after_turn t [] c.args.self.now.values c.args.self.now)
    (way_asked c.args.self.now c.args.w c.args.kind c.args.why c.args.line c.turns.result c.asked.ensures.value (c.turns.ensures ∙ ap (λ (b : BusState). length b.transfers) c.self.view_is) c.args.way)
