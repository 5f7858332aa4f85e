use Rattle.std.proofs.Common.{[], length, ap, sym, subst, ◌∙◌}
use Rattle.lf_model.specs.declared.bus.Transfer.{Transfer}
use Rattle.lf_model.specs.declared.bus.TurnKind.TheVariants.{Snoop}
use Rattle.lf_model.specs.declared.bus.Why.TheVariants as whys
use Rattle.ahb_bus.specs.Asks.{HasFields, IsTaken}
use Rattle.ahb_bus.specs.BusOk.{BusOk}
use Rattle.ahb_bus.specs.BusState.{BusState, after_turn}
use Rattle.ahb_bus.proofs.InsideLemmas.{plain_asked}
use Rattle.ahb_bus.proofs.TakenLemmas.{taken_snoop}
use Rattle.ahb_bus.proofs.bus.Bus.snooped.Goals as goal

pub snoop-requires-clause-taken : goal.snoop-requires-clause-taken
snoop-requires-clause-taken c =
    let s = c.args.self.now in
    let same = plain_asked s c.args.w Snoop whys.Window 0 c.turns.result c.asked-made.ensures.value (c.turns.ensures ∙ ap (λ (b : BusState). length b.transfers) c.self.view_is) in
    subst (IsTaken s) (sym same)
    (taken_snoop s (subst BusOk c.self.view_is c.self.invariant.ok) c.args.w c.requires.turn (subst HasFields same c.asked-made.ensures.fields))

pub returns-clause-made : goal.returns-clause-made
returns-clause-made c =
    c.snoop.ensures.made
    ∙ ap (λ (t : Transfer). after_turn t [] c.args.self.now.values c.args.self.now)
    (plain_asked c.args.self.now c.args.w Snoop whys.Window 0 c.turns.result c.asked-made.ensures.value (c.turns.ensures ∙ ap (λ (b : BusState). length b.transfers) c.self.view_is))
