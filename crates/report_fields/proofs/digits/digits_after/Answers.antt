use Rattle.std.proofs.Common.{refl, sym, arith}
use Rattle.report_fields.proofs.Power.{one_digit, digit_more}
use Rattle.report_fields.proofs.Steps.{digits_step, at_most_9}
use Rattle.report_fields.proofs.digits.digits_after.Goals as goal

pub loop-b-init : goal.loop-b-init
loop-b-init c = record { read = refl; few = c.requires.few; small = one_digit _ _ c.requires.small c.requires.few }

pub loop-b-preserved : goal.loop-b-preserved
loop-b-preserved c =
    let digit = sym c.if-not-is_digit.ensures.digit in
    record {
      read = digits_step _ c.loop-b.left _ _ _ c.in-Some.b c.loop-b.rest.now _ _ (omega arith) c.if-b-stop.false digit c.from.ensures c.in-Some.ensures c.loop-b.invariant.read;
      few = omega arith;
      small = digit_more c.loop-b.n c.loop-b.left _ c.from.result _ c.loop-b.invariant.few (omega arith) (at_most_9 c.in-Some.b _ digit c.from.ensures) refl c.loop-b.invariant.small;
    }
