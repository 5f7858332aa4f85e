use Rattle.std.proofs.Common.{◌≡◌, ◌+◌, ◌++◌}
use Rattle.arrayvec.specs.ArrayVec.{array_vec_len}
use Rattle.lf_model.specs.Texts.{hex}
use Rattle.report_text.proofs.fields.put_hex.Given as goal

abbrev pub invariant-loop-left : goal.invariant-loop-left
invariant-loop-left l = record {
  appended : l.piece.items ++ hex l.left l.n ≡ l.fn.piece.items ++ hex l.digits l.n;
  grown : array_vec_len l.piece + l.left ≡ array_vec_len l.fn.piece + l.digits;
}

abbrev pub decreases-loop-left : goal.decreases-loop-left
decreases-loop-left l = l.left
