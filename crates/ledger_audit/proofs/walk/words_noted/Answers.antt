use Rattle.std.proofs.Common.{◌+◌, ◌*◌, ℕ, List, [], ◌∷◌, ◌++◌, length, ap, sym, ◌∙◌, arith}
use Rattle.std.proofs.lemmas.Bool.{eq-eqb, ne_eqb}
use Rattle.arrayvec.specs.ArrayVec.{ArrayVec}
use Rattle.lf_model.specs.Course.Syndromes.{syndromes_of}
use Rattle.ledger_audit.proofs.NotedWords.{noted_clean, noted_unclean}
use Rattle.ledger_audit.proofs.walk.words_noted.Goals.{then-syndrome_of-ne0, else-syndrome_of-ne0}
use Rattle.ledger_audit.proofs.walk.words_noted.Goals as goal

pub loop-place-preserved : goal.loop-place-preserved
loop-place-preserved c =
    let syn = syndromes_of c.args.look.now in
    let place = c.loop-place.place in
    elim c.if-syndrome_of-ne0.branch [
      | then-syndrome_of-ne0 w ↦ (
        ap (λ (v : ArrayVec ℕ). v.items) w.noted-is ∙ w.push.ensures.items
            ∙ ap (λ (n : ℕ). c.loop-place.noted.items ++ (c.args.look.now.addr + 4 * n) ∷ []) w.from.ensures
            ∙ ap (λ (xs : List ℕ). xs ++ (c.args.look.now.addr + 4 * place) ∷ []) c.loop-place.invariant.0
            ∙ sym (noted_unclean c.args.look.now.addr syn place (ne_eqb _ 0 (λ e. w.if-syndrome_of-ne0.true (c.syndrome_of.ensures ∙ e)))),
        omega (arith, ap (λ (v : ArrayVec ℕ). length v.items) w.noted-is, w.push.ensures.len, c.loop-place.invariant.1),
      )
      | else-syndrome_of-ne0 w ↦ (
        ap (λ (v : ArrayVec ℕ). v.items) w.noted-is ∙ c.loop-place.invariant.0
            ∙ sym (noted_clean c.args.look.now.addr syn place (eq-eqb _ 0 (sym c.syndrome_of.ensures ∙ w.if-syndrome_of-ne0.false))),
        omega (arith, ap (λ (v : ArrayVec ℕ). length v.items) w.noted-is, c.loop-place.invariant.1),
      )
    ]
