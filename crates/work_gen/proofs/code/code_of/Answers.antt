-- The three parts make the program.
use Rattle.std.proofs.Common.{List, ℕ, ◌∙◌, ◌++◌, ap}
use Rattle.work_gen.specs.Encoding.{bytes_of}
use Rattle.work_gen.specs.Program.{start_up}
use Rattle.work_gen.proofs.Bytes.{program_bytes, program_encoded}
use Rattle.work_gen.proofs.code.code_of.Goals as goal

pub returns-clause-bytes : goal.returns-clause-bytes
returns-clause-bytes c =
    program_bytes c.args.address c.args.start c.args.size c.push_start_up.new.code.items c.push_body.new.code.items c.push.new.code.items
    (c.in_ok-push_start_up.ensures.bytes ∙ ap (λ (old : List ℕ). old ++ bytes_of (start_up c.args.address)) c.in_ok-code.ensures.items)
    c.in_ok-push_body.ensures.bytes c.in_ok-push.ensures.bytes

pub returns-clause-encoded : goal.returns-clause-encoded
returns-clause-encoded c =
    program_encoded c.args.address c.args.start c.args.size c.in_ok-push_start_up.ensures.encoded c.in_ok-push_body.ensures.encoded c.in_ok-push.ensures.encoded
