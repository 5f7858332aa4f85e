use Rattle.std.proofs.Common.{◌≡◌, ◌-◌, ◌<◌, ◌≤◌, ◌^◌, length}
use Rattle.report_fields.specs.Digits.{digits_more}
use Rattle.report_fields.proofs.digits.digits_after.Given as goal

abbrev pub invariant-loop-b : goal.invariant-loop-b
invariant-loop-b l = record {
  read : digits_more l.stop l.left l.n l.rest ≡ digits_more l.stop l.most l.fn.n l.bytes;
  few : l.left ≤ 9;
  small : l.n < 10 ^ (10 - l.left);
}

abbrev pub decreases-loop-b : goal.decreases-loop-b
decreases-loop-b l = length l.rest
