use Rattle.std.proofs.Common.{◌≡◌, ℕ, true, arith, below_more}
use Rattle.lf_model.specs.Once.{OnceAtCore}
use Rattle.tso_audit.proofs.parts.first_unnumbered_core.Goals as goal

pub returns-then-not-branch : goal.returns-then-not-branch
returns-then-not-branch c = (
  c.loop-c-test.true,
  (λ once. let holds : c.in_ok-is_numbered.field-0 ≡ true = c.in_ok-is_numbered.ensures.1 once in cc),
  c.loop-c.invariant,
)

pub loop-c-preserved : goal.loop-c-preserved
loop-c-preserved c = below_more (λ (j : ℕ). OnceAtCore c.args.order.now j) c.loop-c.c c.loop-c.invariant (c.in_ok-is_numbered.ensures.0 c.if-not-branch.false)

pub returns : goal.returns
returns c = λ i low. c.loop-c.invariant i (omega (arith, low))
