use Rattle.std.proofs.Common.{◌∙◌, ◌==◌, ℕ, not, slice_index, ap, sym, arith}
use Rattle.std.proofs.lemmas.Bool.{eq-eqb}
use Rattle.lf_model.specs.Course.Syndromes.{syndromes_of}
use Rattle.ledger_audit.proofs.FirstUnclean.{find_next}
use Rattle.ledger_audit.proofs.ahb.first_unclean.Goals as goal

pub loop-place-preserved : goal.loop-place-preserved
loop-place-preserved c =
    let syndromes = syndromes_of c.args.transfer.now in
    c.loop-place.invariant ∙ find_next (λ (j : ℕ). not (slice_index syndromes j == 0)) c.loop-place.place c.args.transfer.now.words (omega (arith, c.loop-place-test.true))
    (ap not (eq-eqb (slice_index syndromes c.loop-place.place) 0 (sym c.syndrome_of.ensures ∙ c.if-syndrome_of-ne0.false)))
