use Rattle.std.proofs.Common.{◌∙◌, sym}
use Rattle.std.proofs.lemmas.Bool.{eqb-true, eq-eqb}
use Rattle.ledger_audit.proofs.LostSpans.{none_right, none_wrong, some_right, some_wrong}
use Rattle.ledger_audit.proofs.lost.LostStores.are.Goals as goal

pub returns-in-Some : goal.returns-in-Some
returns-in-Some c = λ order tells once.
    let some = sym (tells.lost c.args.core c.requires.core) ∙ c.in-Some.is in
    let before = tells.before c.args.core c.requires.core in (
      (λ passes. let these = c.are_these.ensures.0 passes in some_right c.args.core order once c.in-Some.lost some _ before c.args.given.first c.args.given.count these.0 these.1 these.2),
      (λ same. c.are_these.ensures.1 (some_wrong c.args.core order once c.in-Some.lost some _ before c.args.given.first c.args.given.count same)),
    )

pub returns-in-None : goal.returns-in-None
returns-in-None c = λ order tells once.
    let none = sym (tells.lost c.args.core c.requires.core) ∙ c.in-None.is in (
      (λ passes. none_right c.args.core order once none c.args.given.first c.args.given.count (eqb-true c.args.given.count 0 passes)),
      (λ same. eq-eqb c.args.given.count 0 (none_wrong c.args.core order once none c.args.given.first c.args.given.count same)),
    )
