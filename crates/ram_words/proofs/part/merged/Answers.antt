use Rattle.std.proofs.Common.{arith}
use Rattle.std.proofs.lemmas.Bool.Decides.{nat_tests}
use Rattle.ram_words.proofs.PartLemmas.{first_byte, second_byte, third_byte, fourth_byte, first_half, second_half}
use Rattle.ram_words.proofs.part.merged.Goals as goal

pub returns-in-1-eq0 : goal.returns-in-1-eq0
returns-in-1-eq0 c =
    rw (first_byte c.args.word c.args.addr c.args.len c.args.value (omega arith) (omega arith), c.from_be_bytes.ensures, c.to_be_bytes.ensures, c.to_be_bytes-2.ensures) (omega arith)

pub returns-in-1-eq1 : goal.returns-in-1-eq1
returns-in-1-eq1 c =
    rw (second_byte c.args.word c.args.addr c.args.len c.args.value (omega arith) (omega arith), c.from_be_bytes-in-1-eq1.ensures, c.to_be_bytes.ensures, c.to_be_bytes-2.ensures) (omega arith)

pub returns-in-1-eq2 : goal.returns-in-1-eq2
returns-in-1-eq2 c =
    rw (third_byte c.args.word c.args.addr c.args.len c.args.value (omega arith) (omega arith), c.from_be_bytes-in-1-eq2.ensures, c.to_be_bytes.ensures, c.to_be_bytes-2.ensures) (omega arith)

pub returns-in-1-default : goal.returns-in-1-default
returns-in-1-default c =
    rw (fourth_byte c.args.word c.args.addr c.args.len c.args.value (omega arith) (omega arith), c.from_be_bytes-in-1-default.ensures, c.to_be_bytes.ensures, c.to_be_bytes-2.ensures) (omega arith)

pub returns-in_default-eq0 : goal.returns-in_default-eq0
returns-in_default-eq0 c =
    rw (first_half c.args.word c.args.addr c.args.len c.args.value (grind (arith, nat_tests)) (omega arith), c.from_be_bytes-in_default-eq0.ensures, c.to_be_bytes.ensures, c.to_be_bytes-2.ensures) (omega arith)

pub returns-in_default : goal.returns-in_default
returns-in_default c =
    rw (second_half c.args.word c.args.addr c.args.len c.args.value (grind (arith, nat_tests)) (grind (arith, nat_tests)), c.from_be_bytes-in_default.ensures, c.to_be_bytes.ensures, c.to_be_bytes-2.ensures) (omega arith)
