use Rattle.std.proofs.Common.{◌≡◌, ◌-◌, ◌<◌, ◌^◌}
use Rattle.report_fields.specs.Digits.{hex_more}
use Rattle.report_fields.proofs.digits.hex_digits.Given as goal

abbrev pub invariant-loop-i : goal.invariant-loop-i
invariant-loop-i l = record {
  read : hex_more (l.digits - l._i) l.n l.rest ≡ hex_more l.digits 0 l.bytes;
  small : l.n < 16 ^ l._i;
}
