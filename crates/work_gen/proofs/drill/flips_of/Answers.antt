-- Each draw adds the next flip.
use Rattle.std.proofs.Common.{[], ◌∷◌, ◌∙◌, ◌++◌, ap}
use Rattle.lf_model.specs.declared.flip.Flip.{Flip}
use Rattle.work_gen.specs.Drill.{flip_of}
use Rattle.work_gen.proofs.Flips.{flips_more, flips_end}
use Rattle.work_gen.proofs.drill.flips_of.Goals as goal

pub loop-i-preserved : goal.loop-i-preserved
loop-i-preserved c =
    rw c.draw.ensures.next (flips_more c.args.size c.args.count c.loop-i.i c.loop-i.draws.state c.loop-i.flips.items c.push.new.self.items _ c.loop-i-test.true
    (c.in_ok-push.ensures.items ∙ ap (λ (f : Flip). c.loop-i.flips.items ++ f ∷ []) (c.flip_of.ensures ∙ ap (flip_of c.args.size c.loop-i.i) c.draw.ensures.number))
    c.loop-i.invariant)

pub returns : goal.returns
returns c =
    c.from_vec.ensures.items ∙ flips_end c.args.size c.args.count c.loop-i.i c.loop-i.draws.state c.loop-i.flips.items _ c.loop-i-test.false c.loop-i.invariant
