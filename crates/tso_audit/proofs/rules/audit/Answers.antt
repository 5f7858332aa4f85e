use Rattle.std.proofs.Common.{◌≡◌, ◌↔◌}
use Rattle.std.proofs.lemmas.Result.{IfOk-weaker}
use Rattle.tso_audit.proofs.AuditYes.{yes_exactly}
use Rattle.tso_audit.proofs.rules.audit.Goals as goal
use Rattle.tso_audit.specs.Audit.{IsVerdict, AllHold}
use Rattle.tso_audit.specs.declared.verdict.Verdict.TheVariants.{Yes}

pub returns-clause-yes : goal.returns-clause-yes
returns-clause-yes c =
    let setup = c.args.setup.now in
    let trace = c.args.trace.now in
    IfOk-weaker c.verdict_on.result (IsVerdict setup trace) (λ verdict. verdict ≡ Yes ↔ AllHold setup trace) (yes_exactly setup trace) c.verdict_on.ensures
