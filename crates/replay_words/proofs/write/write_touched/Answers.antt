use Rattle.std.proofs.Common.{◌≡◌, ◌+◌, ◌*◌, ℕ, ap, ◌∙◌, map, arith}
use Rattle.replay_words.specs.Places.{words_of}
use Rattle.replay_words.specs.Writing.{written_at}
use Rattle.replay_words.proofs.WriteLemmas.{partly, partly_none, partly_more, partly_all, keeps_same, keeps_then, units_kept}
use Rattle.replay_words.proofs.write.write_touched.Goals as goal

pub loop-i-init : goal.loop-i-init
loop-i-init c = (partly_none c.args.made.now c.touched-span.result.first c.args.places.now c.args.units.now.histories c.requires.aligned, keeps_same c.args.units.now)

pub write_at-requires-clause-units : goal.write_at-requires-clause-units
write_at-requires-clause-units c = units_kept _ _ _ c.loop-i.invariant.1 c.requires.units

pub loop-i-preserved : goal.loop-i-preserved
loop-i-preserved c =
    let t = c.args.made.now in
    let first = c.touched-span.result.first in
    let addr : c.from.result + 4 * c.from-in-loop-i.result ≡ first + 4 * c.loop-i.i = omega (arith, c.from.ensures, c.from-in-loop-i.ensures) in (
      c.write_at.ensures.words
          ∙ ap (λ (a : ℕ). map (written_at t a) (words_of c.args.places.now c.loop-i.units.histories)) addr
          ∙ ap (map (written_at t (first + 4 * c.loop-i.i))) c.loop-i.invariant.0
          ∙ partly_more t first c.args.places.now c.args.units.now.histories c.requires.aligned c.touched-span.ensures.aligned c.loop-i.i,
      keeps_then _ _ _ c.loop-i.invariant.1 c.write_at.ensures.keeps,
    )

pub returns-clause-words : goal.returns-clause-words
returns-clause-words c =
    let t = c.args.made.now in
    let first = c.touched-span.result.first in
    let end : c.loop-i.i ≡ c.touched-span.result.count = omega (arith, c.loop-i.auto.i-end, c.loop-i-test.false) in
    c.loop-i.invariant.0
    ∙ ap (λ (i : ℕ). map (partly t first i) (words_of c.args.places.now c.args.units.now.histories)) end
    ∙ partly_all t first c.args.places.now c.args.units.now.histories c.requires.aligned c.touched-span.result.count c.touched-span.ensures.touches

pub returns-clause-keeps : goal.returns-clause-keeps
returns-clause-keeps c = c.loop-i.invariant.1
