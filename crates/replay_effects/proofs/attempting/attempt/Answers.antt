use Rattle.std.proofs.Common.{◌∙◌, ℕ, sym, ap}
use Rattle.lf_model.specs.Caches.Look.{look}
use Rattle.lf_model.specs.Start.{is_text_word}
use Rattle.replay_effects.specs.Attempts.{looked_by}
use Rattle.replay_effects.proofs.FootprintAttempts.{at_text, off_text}
use Rattle.replay_effects.proofs.attempting.attempt.Goals as goal

-- src/attempting.rt:88:1
pub returns-then-is_text-clause-comes : goal.returns-then-is_text-clause-comes
returns-then-is_text-clause-comes g c image s e text pc is =
    let a = g.A.LookUps.arrays c.args.arrays.now in
    c.fetched.ensures.comes
    ∙ (ap (λ (n : ℕ). looked_by c.args.footprint.now a (look n 4 a.fetch_cache)) (sym pc)
    ∙ at_text s e c.args.footprint.now is image a (ap (λ (n : ℕ). is_text_word image.text n) pc ∙ (text ∙ c.if-is_text.true)))

-- src/attempting.rt:88:1
pub returns-else-is_text-clause-comes : goal.returns-else-is_text-clause-comes
returns-else-is_text-clause-comes g c image s e text pc is =
    off_text s e c.args.footprint.now is image (g.A.LookUps.arrays c.args.arrays.now) (ap (λ (n : ℕ). is_text_word image.text n) pc ∙ (text ∙ c.if-is_text.false))
