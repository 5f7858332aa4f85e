-- The only word of the instruction is what the encoder answers.
use Rattle.std.proofs.Common.{List, ℕ, ◌∙◌, ◌++◌, ap, sym, arith}
use Rattle.work_gen.specs.Encoding.{word_of}
use Rattle.work_gen.proofs.Bytes.{bytes_of_one, encoded_by}
use Rattle.work_gen.proofs.OneWord.{only_word}
use Rattle.work_gen.proofs.code.push.Goals as goal

pub returns-clause-bytes : goal.returns-clause-bytes
returns-clause-bytes c =
    let told = only_word c.args.instruction.now c.encode.result c.unwrap-word.result c.unwrap-word.ensures (omega arith) c.encode.ensures.back c.encode.ensures.unnamed in
    c.in_ok-extend_from_slice.ensures.items ∙ ap (λ (bytes : List ℕ). c.args.code.now.items ++ bytes)
    (c.to_be_bytes.ensures ∙ sym (bytes_of_one c.args.instruction.now c.unwrap-word.result c.requires.word told.1))

pub returns-clause-encoded : goal.returns-clause-encoded
returns-clause-encoded c =
    let told = only_word c.args.instruction.now c.encode.result c.unwrap-word.result c.unwrap-word.ensures (omega arith) c.encode.ensures.back c.encode.ensures.unnamed in
    encoded_by c.args.instruction.now (word_of c.args.instruction.now) c.unwrap-word.result c.requires.word told.1 (omega arith) told.0
