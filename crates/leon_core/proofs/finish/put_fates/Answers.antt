use Rattle.std.proofs.Common.{◌∙◌, ◌+◌, ℕ, ap, arith}
use Rattle.core_parts.specs.Fates.{own_fate}
use Rattle.core_parts.specs.Strikes.{arrays_of}
use Rattle.leon_core.proofs.FatesPut.{put_next, put_all}
use Rattle.lf_model.specs.declared.flip.Flip.{Flip}
use Rattle.leon_core.proofs.finish.put_fates.Goals as goal

pub loop-number-preserved : goal.loop-number-preserved
loop-number-preserved c = record {
  used = c.push_reserved.ensures.len ∙ ap (λ n. n + 1) c.loop-number.invariant.used;
  room = c.push_reserved.ensures.capacity ∙ c.loop-number.invariant.room;
  fates = λ script core step is came long.
      c.push_reserved.ensures.items
      ∙ put_next (λ (flip : ℕ × Flip). own_fate core (arrays_of c.args.arrays.now) flip.0 flip.1) script c.loop-number.fates.items c.loop-number.number c.fate.result (c.loop-number.invariant.fates script core step is came long)
      (omega (arith, c.loop-number-test.true, long)) (λ flip this. c.fate.ensures.fate script core step flip is came this);
}

pub returns : goal.returns
returns c = λ script core step is came long.
    put_all (λ (flip : ℕ × Flip). own_fate core (arrays_of c.args.arrays.now) flip.0 flip.1) script c.loop-number.fates.items c.loop-number.number (c.loop-number.invariant.fates script core step is came long)
    (omega (arith, c.loop-number-test.false, long))
