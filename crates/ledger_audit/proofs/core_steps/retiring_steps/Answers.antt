use Rattle.std.proofs.Common.{◌∙◌, ◌+◌, ◌-◌, ℕ, ap, ap₂}
use Rattle.std.specs.Int.{from_bool}
use Rattle.ledger_audit.proofs.CoreSteps.{same_retiring}
use Rattle.ledger_audit.proofs.core_steps.retiring_steps.Goals as goal

pub returns : goal.returns
returns c = ap₂ (λ (a b : ℕ). a + b)
    (c.saturating_sub-without.ensures ∙ ap₂ (λ (a b : ℕ). a - b)
    (c.saturating_sub.ensures ∙ ap₂ (λ (a b : ℕ). a - b) c.from.ensures c.count_in_steps-made.ensures)
    (c.from-stopped.ensures ∙ ap from_bool c.stops_in_last.ensures))
    c.count_retiring.ensures.counted
    ∙ same_retiring c.args.core c.args.transfers.now c.args.told.now.end c.args.told.now.steps
