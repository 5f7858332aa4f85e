use Rattle.std.proofs.Common.{◌-◌, ◌+◌, Some, refl, sym, ap, ◌∙◌, arith}
use Rattle.report_fields.proofs.Power.{hex_small, hex_grown}
use Rattle.report_fields.proofs.Steps.{hex_step}
use Rattle.report_fields.proofs.digits.hex_digits.Goals as goal

pub overflow_mul-n : goal.overflow_mul-n
overflow_mul-n c = omega (arith, hex_small c.loop-i.n c.loop-i._i c.loop-i.invariant.small (omega arith))

pub overflow_add-n : goal.overflow_add-n
overflow_add-n c = omega (arith, hex_small c.loop-i.n c.loop-i._i c.loop-i.invariant.small (omega arith), c.in_ok-digit.ensures.below, c.from.ensures)

pub loop-i-preserved : goal.loop-i-preserved
loop-i-preserved c = record {
  read = hex_step (c.args.digits - c.loop-i._i) (c.args.digits - (c.loop-i._i + 1)) c.loop-i.n _ c.in_ok-b.b c.loop-i.rest.now _ _ (omega arith)
      (sym c.in_ok-digit.ensures.value ∙ ap Some (sym c.from.ensures)) c.in_ok-b.ensures c.loop-i.invariant.read;
  small = hex_grown c.loop-i.n c.loop-i._i c.from.result _ (omega (arith, c.in_ok-digit.ensures.below, c.from.ensures)) refl c.loop-i.invariant.small;
}
