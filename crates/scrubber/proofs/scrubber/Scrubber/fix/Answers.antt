use Rattle.std.proofs.Common.{◌+◌, ◌<◌, ℕ, List, length, sym, ap, ◌∙◌, subst}
use Rattle.ahb_bus.specs.declared.record.Who.{Who}
use Rattle.lf_model.specs.Bus.Walk.{Walk, scrubber, walk_after}
use Rattle.scrubber.specs.Inside.{seen}
use Rattle.scrubber.specs.WalkState.{WalkState, MayWalk, walk_made}
use Rattle.scrubber.proofs.WalkLemmas.{scrub_turn, fix_made, fix_walked, first_and_rest}
use Rattle.scrubber.proofs.scrubber.Scrubber.fix.Goals as goal

pub fix-requires-clause-turn : goal.fix-requires-clause-turn
fix-requires-clause-turn c = scrub_turn c.args.self.now c.args.bus.now c.who-who.result c.requires.may (ap (λ (w : Who). w.master) c.who-who.ensures)

pub returns-clause-made : goal.returns-clause-made
returns-clause-made c =
    let old = c.self.inside in
    let may : MayWalk (seen old) c.args.bus.now = subst (λ (s : WalkState). MayWalk s c.args.bus.now) (sym c.self.view_is) c.requires.may in
    let some : 0 < length old.noted.items = subst (λ (s : WalkState). 0 < length s.walk.noted) (sym c.self.view_is) c.requires.some in
    let who = c.who-who.ensures ∙ ap (λ (s : WalkState). record { master = scrubber; step = s.walk.turns }) (sym c.self.view_is) in
    c.fix.ensures.made ∙ fix_made (seen old) c.args.bus.now may c.who-who.result who c.remove-addr.result _ (first_and_rest old.noted.items c.remove-addr.result some c.remove-addr.ensures.value)
    ∙ ap (λ (s : WalkState). walk_made s c.args.bus.now) c.self.view_is

pub returns-clause-walk : goal.returns-clause-walk
returns-clause-walk c =
    let old = c.self.inside in
    let may : MayWalk (seen old) c.args.bus.now = subst (λ (s : WalkState). MayWalk s c.args.bus.now) (sym c.self.view_is) c.requires.may in
    let some : 0 < length old.noted.items = subst (λ (s : WalkState). 0 < length s.walk.noted) (sym c.self.view_is) c.requires.some in
    let who = c.who-who.ensures ∙ ap (λ (s : WalkState). record { master = scrubber; step = s.walk.turns }) (sym c.self.view_is) in
    ap (λ (noted : List ℕ). record { config = old.config.value; walk = record { line = old.line; noted = noted; turns = old.turns + 1 } }) c.remove-addr.ensures.items
    ∙ ap (λ (walk : Walk). record { config = old.config.value; walk = walk })
    (fix_walked (seen old) c.args.bus.now may c.who-who.result who c.fix.new.self c.remove-addr.result _ c.fix.ensures.made (first_and_rest old.noted.items c.remove-addr.result some c.remove-addr.ensures.value))
    ∙ ap (λ (s : WalkState). record s { walk = walk_after s.config.scrub c.fix.new.self.transfers }) c.self.view_is
