use Rattle.std.proofs.Common.{◌≡◌, ◌+◌, ◌*◌, ◌++◌, length, take}
use Rattle.std.specs.List.{flat_map}
use Rattle.arrayvec.specs.ArrayVec.{array_vec_len}
use Rattle.lf_model.specs.Texts.{space}
use Rattle.lf_model.specs.Report.{word_field}
use Rattle.report_text.proofs.cores.put_front_words.Given as goal

abbrev pub invariant-loop-word : goal.invariant-loop-word
invariant-loop-word l = record {
  appended : l.piece.items ≡ l.fn.piece.items ++ flat_map (word_field space) (take l.word-index l.words);
  grown : array_vec_len l.piece ≡ array_vec_len l.fn.piece + 9 * l.word-index;
}
