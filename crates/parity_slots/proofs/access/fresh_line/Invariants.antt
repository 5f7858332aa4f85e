use Rattle.std.proofs.Common.{◌≡◌, ℕ, ◌<◌, length, slice_index}
use Rattle.lf_model.specs.Operation.{byte_of}
use Rattle.parity_slots.specs.ParityWords.{byte_in, word_at}
use Rattle.parity_units.specs.Bytes.{fresh_byte}
use Rattle.parity_slots.proofs.access.fresh_line.Given as goal

abbrev pub invariant-loop-i : goal.invariant-loop-i
invariant-loop-i l = record {
  line_length : length l.line ≡ 8;
  filled : (w k : ℕ) → w < l.i → k < 4 → byte_in (word_at l.line w) k ≡ fresh_byte (byte_of (slice_index l.words w) 4 k);
}
