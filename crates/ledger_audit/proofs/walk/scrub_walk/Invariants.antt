use Rattle.std.proofs.Common.{◌≡◌, ◌≤◌, ◌<◌, ℕ, take}
use Rattle.lf_model.specs.Bus.Walk.{walk_after, WalkAt}
use Rattle.ledger_audit.proofs.walk.scrub_walk.Given as goal

abbrev pub invariant-loop-turn : goal.invariant-loop-turn
invariant-loop-turn l = record {
  same : l.transfer-items ≡ l.trace.transfers;
  at : l.walk ≡ record { range = l.setup.config.scrub; walk = walk_after l.setup.config.scrub (take l.turn l.transfer-items) };
  turns : l.walk.walk.turns ≤ l.turn;
  held : (j : ℕ) → j < l.turn → WalkAt l.setup.config.scrub l.transfer-items j;
}
