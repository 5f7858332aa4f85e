use Rattle.std.proofs.Common.{◌≡◌, ◌∙◌, ℕ, List, get_or, ap, subst, arith, below_more}
use Rattle.std.proofs.lemmas.List.{take_all}
use Rattle.lf_model.specs.Bus.Walk.{Walk, walk_by, walk_after, WalkAt}
use Rattle.lf_model.specs.declared.bus.Transfer.{Transfer}
use Rattle.ledger_audit.proofs.WalkPlaces.{no_transfer, walk_more, is_next, other_turns}
use Rattle.ledger_audit.specs.WalkState.{WalkState, reported_at}
use Rattle.ledger_audit.proofs.walk.scrub_walk.Goals as goal

pub loop-turn-preserved : goal.loop-turn-preserved
loop-turn-preserved c =
    let ts = c.as_slice-transfer-items.result.now in
    let i = c.loop-turn.turn in
    let range = c.args.setup.now.config.scrub in
    let so_far = c.loop-turn.invariant in
    let t = get_or ts i no_transfer in
    record {
      same = so_far.same;
      at = c.follow.ensures.walked c.if-not-follow.false
          ∙ (ap (λ (w : WalkState). record w { walk = walk_by w.range w.walk t }) so_far.at
          ∙ ap (λ (k : Walk). record { range = range; walk = k }) (walk_more range ts i no_transfer c.loop-turn-test.true));
      turns = c.follow.ensures.turns;
      held = below_more (λ (j : ℕ). WalkAt range ts j) i so_far.held
          (is_next range ts i no_transfer c.loop-turn-test.true
          (λ own. subst (λ (w : WalkState). reported_at i w.walk t ≡ t) so_far.at (c.follow.ensures.right c.if-not-follow.false own)));
    }

pub returns-else-turns-setup : goal.returns-else-turns-setup
returns-else-turns-setup c =
    let ts = c.as_slice-transfer-items.result.now in
    let range = c.args.setup.now.config.scrub in
    let so_far = c.loop-turn.invariant in
    record {
      first = other_turns c.args.setup.now c.args.trace.now ts so_far.same (λ j low. so_far.held j (omega (arith, low, c.loop-turn-test.false)))
          (λ e. c.if-turns-setup.false (c.turns.ensures
          ∙ (ap (λ (w : WalkState). w.walk.turns) so_far.at
          ∙ (ap (λ (us : List Transfer). (walk_after range us).turns) (take_all c.loop-turn.turn ts (omega (arith, c.loop-turn-test.false))) ∙ e))));
    }
