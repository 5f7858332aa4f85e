use Rattle.std.proofs.Common.{◌+◌, ◌*◌, ℕ, List, [], ◌∷◌, ◌++◌, length, ap, sym, ◌∙◌, arith}
use Rattle.std.proofs.lemmas.Bool.{eq-eqb, ne_eqb}
use Rattle.arrayvec.specs.ArrayVec.{ArrayVec}
use Rattle.scrubber.proofs.NotedLemmas.{noted_clean, noted_unclean}
use Rattle.scrubber.proofs.scrubber.noted_in.Goals.{then-read-place-ne0, else-read-place-ne0}
use Rattle.scrubber.proofs.scrubber.noted_in.Goals as goal

pub loop-place-preserved : goal.loop-place-preserved
loop-place-preserved c =
    let syn = c.args.read.now.syn in
    let place = c.loop-place.place in
    elim c.if-read-place-ne0.branch [
      | then-read-place-ne0 w ↦ (
        ap (λ (v : ArrayVec ℕ). v.items) w.noted-is ∙ w.push.ensures.items
            ∙ ap (λ (xs : List ℕ). xs ++ (c.args.line + 4 * place) ∷ []) c.loop-place.invariant.0
            ∙ sym (noted_unclean c.args.line syn place (ne_eqb _ 0 w.if-read-place-ne0.true)),
        omega (arith, ap (λ (v : ArrayVec ℕ). length v.items) w.noted-is, w.push.ensures.len, c.loop-place.invariant.1),
      )
      | else-read-place-ne0 w ↦ (
        ap (λ (v : ArrayVec ℕ). v.items) w.noted-is ∙ c.loop-place.invariant.0
            ∙ sym (noted_clean c.args.line syn place (eq-eqb _ 0 w.if-read-place-ne0.false)),
        omega (arith, ap (λ (v : ArrayVec ℕ). length v.items) w.noted-is, c.loop-place.invariant.1),
      )
    ]
