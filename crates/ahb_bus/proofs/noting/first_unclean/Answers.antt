use Rattle.std.proofs.Common.{◌≡◌, ap, sym, ◌∙◌, arith}
use Rattle.std.proofs.lemmas.Bool.{eq-eqb, ne_eqb}
use Rattle.ahb_bus.specs.Noting.{first_unclean_from}
use Rattle.ahb_bus.proofs.UncleanLemmas.{unclean_later, unclean_here, unclean_none, unclean_start}
use Rattle.ahb_bus.proofs.noting.first_unclean.Goals as goal

pub returns-then-line-place-ne0 : goal.returns-then-line-place-ne0
returns-then-line-place-ne0 c =
    let syn = c.args.line.now.syn in
    sym (unclean_here syn c.loop-place.place c.loop-place-test.true (ne_eqb _ 0 c.if-line-place-ne0.true)) ∙ c.loop-place.invariant ∙ unclean_start syn

pub loop-place-preserved : goal.loop-place-preserved
loop-place-preserved c =
    let syn = c.args.line.now.syn in
    sym (unclean_later syn c.loop-place.place c.loop-place-test.true (eq-eqb _ 0 c.if-line-place-ne0.false)) ∙ c.loop-place.invariant

pub returns : goal.returns
returns c =
    let syn = c.args.line.now.syn in
    let last : c.loop-place.place ≡ 8 = omega (arith, c.loop-place-test.false, c.loop-place.auto.place-end) in
    sym (unclean_none syn) ∙ ap (first_unclean_from syn) (sym last) ∙ c.loop-place.invariant ∙ unclean_start syn
