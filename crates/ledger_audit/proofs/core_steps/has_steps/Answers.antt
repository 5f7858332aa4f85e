use Rattle.std.proofs.Common.{◌∙◌, ◌==◌, ◌&&◌, ◌||◌, ℕ, ap, ap₂, sym}
use Rattle.std.specs.Prelude.{nat_le}
use Rattle.ledger_audit.proofs.CoreSteps.{all_pass, passes_all}
use Rattle.ledger_audit.proofs.core_steps.has_steps.Goals as goal

pub returns : goal.returns
returns c =
    let allowed = c.may_drain-allowed.ensures ∙ ap (λ (n : ℕ). nat_le n 8 && (n == 0 || c.args.told.now.steps == c.args.setup.now.config.steps)) c.count_past_steps.ensures in
    let counted = ap₂ (λ (a b : ℕ). a == b) c.retiring_steps.ensures c.from.ensures in (
      (λ pass. all_pass c.args.core c.args.transfers.now c.args.setup.now c.args.told.now _ _ _ _ _ c.are_in_order-ordered.ensures.ordered c.are_in_order-ordered.ensures.ascending
          c.are_in_order-ordered.ensures.found c.are_last_drains-drained.ensures allowed counted c.halts_in_last-halted.ensures (sym c.all_hold.ensures ∙ pass)),
      (λ h. c.all_hold.ensures ∙ passes_all c.args.core c.args.transfers.now c.args.setup.now c.args.told.now _ _ _ _ _ c.are_in_order-ordered.ensures.ordered
          c.are_in_order-ordered.ensures.ascending c.are_in_order-ordered.ensures.found c.are_last_drains-drained.ensures allowed counted c.halts_in_last-halted.ensures h),
    )
