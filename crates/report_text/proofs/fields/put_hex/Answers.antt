use Rattle.std.proofs.Common.{◌-◌, arith}
use Rattle.report_text.proofs.Digits.{hex_step, hex_done}
use Rattle.report_text.proofs.fields.put_hex.Goals as goal

pub loop-left-preserved : goal.loop-left-preserved
loop-left-preserved c = record {
  appended = hex_step _ _ _ c.loop-left.left (c.loop-left.left - 1) _ _ _ (omega arith) c.loop-left.invariant.appended c.push.ensures.items
      c.glyph_of.ensures.glyph c.digit_at.ensures.digit;
  grown = omega (arith, c.loop-left.invariant.grown, c.push.ensures.len);
}

pub returns-clause-appended : goal.returns-clause-appended
returns-clause-appended c = hex_done _ _ _ _ (omega arith) c.loop-left.invariant.appended
