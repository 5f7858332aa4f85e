use Rattle.std.proofs.Common.{◌≡◌, ◌+◌, ℕ, cond, nat_eq, List, sym, ap, ap₂, ◌∙◌, subst, arith}
use Rattle.std.specs.List.{AllByRecursion}
use Rattle.ahb_bus.specs.declared.record.Who.{Who}
use Rattle.lf_model.specs.Bus.Walk.{Walk, scrubber, next_line, walk_after}
use Rattle.scrubber.specs.Inside.{seen, IsWordOfRam}
use Rattle.scrubber.specs.WalkState.{WalkState, MayWalk, walk_made}
use Rattle.scrubber.proofs.WalkLemmas.{IsLine, scrub_turn, next_is_line, line_in_ram, noted_in_ram, look_made, look_walked}
use Rattle.scrubber.proofs.scrubber.Scrubber.look.Goals as goal

pub look-read-requires-clause-turn : goal.look-read-requires-clause-turn
look-read-requires-clause-turn c = scrub_turn c.args.self.now c.args.bus.now c.who.result c.requires.may (ap (λ (w : Who). w.master) c.who.ensures)

pub overflow_add-self : goal.overflow_add-self
overflow_add-self c =
    let old = c.self.inside in
    let is = c.self.invariant in
    let may : MayWalk (seen old) c.args.bus.now = subst (λ (s : WalkState). MayWalk s c.args.bus.now) (sym c.self.view_is) c.requires.may in
    let left = may.left in
    omega (arith, left, is.few)

pub invariant_of-self : goal.invariant_of-self
invariant_of-self c =
    let old = c.self.inside in
    let is = c.self.invariant in
    let may : MayWalk (seen old) c.args.bus.now = subst (λ (s : WalkState). MayWalk s c.args.bus.now) (sym c.self.view_is) c.requires.may in
    let left = may.left in
    let line : IsLine old.config.value old.line = record { aligned = is.aligned; low = is.low; high = is.high } in
    let next : c.next_line-self-inside.result ≡ next_line old.config.value.scrub old.line =
    c.next_line-self-inside.ensures ∙ ap₂ (λ (first end : ℕ). cond (nat_eq (old.line + 32) end) first (old.line + 32)) is.first is.end in
    let after : IsLine old.config.value c.next_line-self-inside.result = subst (IsLine old.config.value) (sym next) (next_is_line old.config.value old.line is.range line) in
    record {
      range = is.range;
      first = is.first;
      end = is.end;
      most = is.most;
      turns = omega (arith, left);
      few = is.few;
      aligned = after.aligned;
      low = after.low;
      high = after.high;
      noted = subst (AllByRecursion (IsWordOfRam old.config.value.ram)) (sym c.noted_in-self-inside.ensures)
          (noted_in_ram old.config.value.ram old.line c.look-read.result.syn is.aligned (line_in_ram old.config.value old.line is.range line));
    }

pub returns-clause-made : goal.returns-clause-made
returns-clause-made c =
    let old = c.self.inside in
    let is = c.self.invariant in
    let may : MayWalk (seen old) c.args.bus.now = subst (λ (s : WalkState). MayWalk s c.args.bus.now) (sym c.self.view_is) c.requires.may in
    let none = ap (λ (s : WalkState). s.walk.noted) c.self.view_is ∙ c.requires.none in
    let who = c.who.ensures ∙ ap (λ (s : WalkState). record { master = scrubber; step = s.walk.turns }) (sym c.self.view_is) in
    c.look-read.ensures.made ∙ look_made (seen old) c.args.bus.now may c.who.result who none
    ∙ ap (λ (s : WalkState). walk_made s c.args.bus.now) c.self.view_is

pub returns-clause-walk : goal.returns-clause-walk
returns-clause-walk c =
    let old = c.self.inside in
    let is = c.self.invariant in
    let may : MayWalk (seen old) c.args.bus.now = subst (λ (s : WalkState). MayWalk s c.args.bus.now) (sym c.self.view_is) c.requires.may in
    let none = ap (λ (s : WalkState). s.walk.noted) c.self.view_is ∙ c.requires.none in
    let who = c.who.ensures ∙ ap (λ (s : WalkState). record { master = scrubber; step = s.walk.turns }) (sym c.self.view_is) in
    let next : c.next_line-self-inside.result ≡ next_line old.config.value.scrub old.line =
    c.next_line-self-inside.ensures ∙ ap₂ (λ (first end : ℕ). cond (nat_eq (old.line + 32) end) first (old.line + 32)) is.first is.end in
    ap₂ (λ (line : ℕ) (noted : List ℕ). record { config = old.config.value; walk = record { line = line; noted = noted; turns = old.turns + 1 } }) next c.noted_in-self-inside.ensures
    ∙ ap (λ (walk : Walk). record { config = old.config.value; walk = walk })
    (look_walked (seen old) c.args.bus.now may c.who.result who c.look-read.new.self c.look-read.result c.look-read.ensures.made none c.look-read.ensures.line)
    ∙ ap (λ (s : WalkState). record s { walk = walk_after s.config.scrub c.look-read.new.self.transfers }) c.self.view_is
