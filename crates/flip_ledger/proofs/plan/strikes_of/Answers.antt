use Rattle.std.proofs.Common.{◌≡◌, ◌++◌, List, [], drop, sym, ap, ◌∙◌}
use Rattle.std.proofs.Math.ListN.{drop_of_length-le}
use Rattle.std.proofs.lemmas.List.{append-nil}
use Rattle.lf_model.specs.declared.flip.Flip.{Flip}
use Rattle.flip_ledger.proofs.PlanLemmas.{strikes_from, strikes_numbered}
use Rattle.flip_ledger.proofs.plan.strikes_of.Goals as goal

pub returns : goal.returns
returns c =
    let strikes = c.loop-number.strikes.items in
    let rest : drop c.loop-number.number c.args.flips.now ≡ [] = drop_of_length-le c.args.flips.now c.loop-number-test.false in
    sym (append-nil strikes)
    ∙ ap (λ (flips : List Flip). strikes ++ strikes_from c.args.owner c.loop-number.number flips) (sym rest)
    ∙ c.loop-number.invariant
    ∙ strikes_numbered c.args.owner 0 c.args.flips.now
