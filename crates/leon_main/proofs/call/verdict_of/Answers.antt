use Rattle.leon_main.proofs.PlayableLemmas.{can_audit}
use Rattle.leon_main.proofs.call.verdict_of.Goals as goal

-- What can be played can be audited.
pub audit-requires-clause-setup : goal.audit-requires-clause-setup
audit-requires-clause-setup c = can_audit c.args.reported.now.setup c.requires.playable
