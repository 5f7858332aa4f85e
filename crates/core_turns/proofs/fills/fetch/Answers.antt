use Rattle.std.proofs.Common.{refl, ap}
use Rattle.std.proofs.lemmas.Result.{err_from_is_err_and}
use Rattle.lf_model.specs.Caches.Slot.{line_of}
use Rattle.lf_model.specs.declared.bus.TurnKind.TheVariants.{Fetch}
use Rattle.lf_model.specs.declared.step.Turn.TheVariants as turns
use Rattle.core_turns.proofs.Answers.{fill_good, fill_met}
use Rattle.core_turns.proofs.fills.fetch.Goals as goal
use Rattle.core_turns.specs.AskedTurn.{asked_fill}

pub fill_text-got-requires-clause-fill : goal.fill_text-got-requires-clause-fill
fill_text-got-requires-clause-fill c = c.requires.fill

pub returns-in_err-good_wanted-clause-filled : goal.returns-in_err-good_wanted-clause-filled
returns-in_err-good_wanted-clause-filled c = ap (λ cache. record c.args.parts.now { arrays = record c.args.parts.now.arrays { fetch_cache = cache } }) c.fill_text-got.ensures.filled

pub returns-in_err-good_wanted-clause-answer : goal.returns-in_err-good_wanted-clause-answer
returns-in_err-good_wanted-clause-answer c =
    let p = err_from_is_err_and c.from_residual.result c.from_residual.ensures.1 in
    rw (p.1, p.2)
    (fill_met c.args.bus.now c.requires.ok (asked_fill c.args.bus.now c.args.who Fetch c.args.why (line_of c.args.pc) c.args.parts.now.arrays.fetch_cache.cache) refl c.fill_text-got.result c.fill_text-got.ensures.line
    (turns.Fetch (line_of c.args.pc) c.args.why) c.args.pc c.args.pc 4 refl _ c.in_err-good_wanted.field-0.0 refl c.in_err-good_wanted.ensures.answer)

pub returns-clause-filled : goal.returns-clause-filled
returns-clause-filled c = ap (λ cache. record c.args.parts.now { arrays = record c.args.parts.now.arrays { fetch_cache = cache } }) c.fill_text-got.ensures.filled

pub returns-clause-answer : goal.returns-clause-answer
returns-clause-answer c =
    fill_good c.args.bus.now c.requires.ok (asked_fill c.args.bus.now c.args.who Fetch c.args.why (line_of c.args.pc) c.args.parts.now.arrays.fetch_cache.cache) refl c.fill_text-got.result c.fill_text-got.ensures.line
    (turns.Fetch (line_of c.args.pc) c.args.why) c.args.pc c.args.pc 4 refl c.in_ok-good_wanted.field-0 c.in_ok-good_wanted.ensures.answer
