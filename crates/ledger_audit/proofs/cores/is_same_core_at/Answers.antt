use Rattle.std.proofs.Common.{◌≡◌, ◌≤◌, Some, slice_get, ap, sym, length, arith}
use Rattle.std.proofs.lemmas.Bool.{false≢true, ltb-false, leb-true, le-leb}
use Rattle.std.proofs.lemmas.Grind.{common_steps}
use Rattle.std.proofs.lemmas.Option.{gets, same_Some}
use Rattle.lf_model.specs.Ledger.CoreAccount.{CoreAccount}
use Rattle.ledger_audit.proofs.CorePlaces.{here, at_place, neither, given_alone, none_told}
use Rattle.ledger_audit.proofs.cores.is_same_core_at.Goals as goal

pub returns-in-Some-get : goal.returns-in-Some-get
returns-in-Some-get c =
    let g : slice_get c.args.given.now c.args.core ≡ Some c.in-Some.given.now = grind (arith, common_steps, gets) in
    let r : slice_get c.args.trace.now.cores c.args.core ≡ Some c.in-Some-get.shown.now = grind (arith, common_steps, gets) in (
      (λ passes. here c.args.given.now c.args.trace.now c.args.core _ _ g r (ap (λ (a : CoreAccount). Some a) (c.is_same_core.ensures.0 passes))),
      (λ same. c.is_same_core.ensures.1 (same_Some _ _ (at_place c.args.given.now c.args.trace.now c.args.core _ _ g r same))),
    )

pub returns-in-None-get : goal.returns-in-None-get
returns-in-None-get c =
    let g : slice_get c.args.given.now c.args.core ≡ Some c.in-Some.given.now = grind (arith, common_steps, gets) in
    let past : length c.args.trace.now.cores ≤ c.args.core = grind (arith, common_steps, gets) in (
      (λ passes. absurd (false≢true passes)),
      (λ same. absurd (given_alone c.args.given.now c.args.trace.now c.args.core _ g past same)),
    )

pub returns-in-None : goal.returns-in-None
returns-in-None c =
    let past : length c.args.given.now ≤ c.args.core = ltb-false c.args.core (length c.args.given.now) (sym c.in-None.ensures.lookup.0) in (
      (λ passes. neither c.args.given.now c.args.trace.now c.args.core past (omega (arith, leb-true c.len.result c.args.core passes, c.len.ensures.length))),
      (λ same. let told = none_told c.args.given.now c.args.trace.now c.args.core past same in le-leb c.len.result c.args.core (omega (arith, told, c.len.ensures.length))),
    )
