use Rattle.std.specs.Prelude.{ℕ, ◌≡◌, ◌+◌, ◌*◌, ◌^◌}
use Rattle.std.proofs.Common.{rules, refl, ap, ◌∙◌, arith, add-one}
use Rattle.lf_num.specs.Arithmetic.{Steps, stepped, stepped_times}
use Rattle.lf_num.proofs.StepLemmas.{steps-multiply, mixed_product-unsigned}
use Rattle.v8_muldiv.specs.Stepping.{steps_of}
use Rattle.v8_muldiv.proofs.multiply_by_steps.Goals as goal

pub loop-init : goal.loop-init
unfolding stepped_times
loop-init c = refl

pub loop-preserved : goal.loop-preserved
unfolding stepped_times
loop-preserved c =
    let made : steps_of c.mulscc-out.result ≡ stepped c.args.b (steps_of c.loop.out) = search rules in
    rw (add-one c.loop.counter) (made ∙ ap (stepped c.args.b) c.loop.invariant)

-- the state after the loop and the last step multiplies, as the law says
product : goal.returns-clause-product
product c =
    let made : steps_of c.mulscc.result ≡ stepped 0 (steps_of c.loop.out) = search rules in
    let at_end : c.loop.counter ≡ 32 = omega arith in
    let whole : steps_of c.mulscc.result ≡ stepped 0 (stepped_times 32 c.args.b (record { value = 0; icc = 0; y = c.args.y }))
    = made ∙ ap (stepped 0) (c.loop.invariant ∙ ap (λ (n : ℕ). stepped_times n c.args.b (record { value = 0; icc = 0; y = c.args.y })) at_end) in
    ap (λ (s : Steps). s.value * 2 ^ 32 + s.y) whole ∙ steps-multiply c.args.y c.args.b c.ranges.y.fits c.ranges.b.fits 0 refl refl

pub returns-clause-product : goal.returns-clause-product
returns-clause-product c = product c

pub returns-clause-unsigned : goal.returns-clause-unsigned
returns-clause-unsigned c = λ low. product c ∙ mixed_product-unsigned c.args.y c.args.b low

pub returns-clause-law : goal.returns-clause-law
returns-clause-law c = steps-multiply c.args.y c.args.b c.ranges.y.fits c.ranges.b.fits
