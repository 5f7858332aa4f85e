-- Each number that is set adds its instruction.
use Rattle.std.proofs.Common.{[], ◌∷◌, ℕ, ◌≡◌, ◌∙◌, ◌++◌, ap, sym, subst, map, arith}
use Rattle.std.specs.Prelude.{All}
use Rattle.std.specs.List.{range_with_len}
use Rattle.std.proofs.lemmas.List.Elements.{All-append, All-cons, All-nil}
use Rattle.lf_model.specs.declared.instruction.Instr.{Instr}
use Rattle.work_gen.specs.Encoding.{bytes_of, IsEncoded}
use Rattle.work_gen.specs.Program.{set_data, set_number}
use Rattle.work_gen.proofs.Bytes.{bytes_push, numbers_more}
use Rattle.work_gen.proofs.code.push_start_up.Goals as goal

pub loop-n-preserved : goal.loop-n-preserved
loop-n-preserved c =
    let made = c.set_number.ensures.instruction in
    let before = set_data c.args.address ∷ map set_number (range_with_len 0 c.loop-n.n) in
    let more = numbers_more (set_data c.args.address) c.loop-n.n in
    record {
      bytes = bytes_push c.args.code.now.items c.loop-n.code.items c.push-in-loop-n.new.code.items before _ (set_number c.loop-n.n) c.loop-n.invariant.bytes
          (c.in_ok-push-2.ensures.bytes ∙ ap (λ (i : Instr). c.loop-n.code.items ++ bytes_of (i ∷ [])) made) more;
      encoded = subst (All IsEncoded) (sym more) (All-append IsEncoded before (set_number c.loop-n.n ∷ []) c.loop-n.invariant.encoded
          (All-cons IsEncoded (set_number c.loop-n.n) [] (subst IsEncoded made c.in_ok-push-2.ensures.encoded) (All-nil IsEncoded)));
    }

pub returns-clause-encoded : goal.returns-clause-encoded
returns-clause-encoded c = let all : c.loop-n.n ≡ 6 = omega arith in subst (λ (n : ℕ). All IsEncoded (set_data c.args.address ∷ map set_number (range_with_len 0 n))) all c.loop-n.invariant.encoded
