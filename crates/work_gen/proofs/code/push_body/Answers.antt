-- Each draw adds the next instruction of the body.
use Rattle.std.proofs.Common.{List, [], ◌∷◌, ℕ, ◌∙◌, ◌++◌, ap, sym, subst, append-nil}
use Rattle.std.specs.Prelude.{All}
use Rattle.std.proofs.lemmas.List.Elements.{All-nil}
use Rattle.lf_model.specs.declared.instruction.Instr.{Instr}
use Rattle.work_gen.specs.Encoding.{bytes_of, IsEncoded}
use Rattle.work_gen.specs.Program.{body_instruction}
use Rattle.work_gen.proofs.Bytes.{body_bytes, body_encoded, body_ends, bytes_of_none}
use Rattle.work_gen.proofs.code.push_body.Goals as goal

pub loop-i-preserved : goal.loop-i-preserved
loop-i-preserved c =
    let made = c.body_instruction.ensures.instruction ∙ ap body_instruction c.draw.ensures.number in
    record {
      bytes = rw c.draw.ensures.next (body_bytes c.args.size c.loop-i._i c.loop-i.draws.state c.loop-i.code.items c.push.new.code.items _ c.loop-i-test.true
          (c.in_ok-push.ensures.bytes ∙ ap (λ (i : Instr). c.loop-i.code.items ++ bytes_of (i ∷ [])) made) c.loop-i.invariant.bytes);
      encoded = rw c.draw.ensures.next (body_encoded c.args.size c.loop-i._i c.loop-i.draws.state _ c.loop-i-test.true
          (subst IsEncoded made c.in_ok-push.ensures.encoded) c.loop-i.invariant.encoded);
    }

pub returns-clause-bytes : goal.returns-clause-bytes
returns-clause-bytes c =
    sym (append-nil c.loop-i.code.items)
    ∙ ap (λ (rest : List ℕ). c.loop-i.code.items ++ rest) (sym (ap bytes_of (body_ends c.args.size c.loop-i._i c.loop-i.draws.state c.loop-i-test.false) ∙ bytes_of_none))
    ∙ c.loop-i.invariant.bytes

pub returns-clause-encoded : goal.returns-clause-encoded
returns-clause-encoded c = c.loop-i.invariant.encoded
    (subst (All IsEncoded) (sym (body_ends c.args.size c.loop-i._i c.loop-i.draws.state c.loop-i-test.false)) (All-nil IsEncoded))
