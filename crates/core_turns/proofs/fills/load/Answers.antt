use Rattle.std.proofs.Common.{refl, ap}
use Rattle.std.proofs.lemmas.Result.{err_from_is_err_and}
use Rattle.lf_model.specs.Caches.Slot.{line_of}
use Rattle.lf_model.specs.declared.bus.TurnKind.TheVariants.{Load}
use Rattle.lf_model.specs.declared.step.Turn.TheVariants as turns
use Rattle.core_turns.proofs.Answers.{fill_good, fill_met}
use Rattle.core_turns.proofs.fills.load.Goals as goal
use Rattle.core_turns.specs.AskedTurn.{asked_fill}

pub fill_data-got-requires-clause-fill : goal.fill_data-got-requires-clause-fill
fill_data-got-requires-clause-fill c = c.requires.fill

pub returns-in_err-good_wanted-clause-filled : goal.returns-in_err-good_wanted-clause-filled
returns-in_err-good_wanted-clause-filled c = ap (λ cache. record c.args.parts.now { arrays = record c.args.parts.now.arrays { data_cache = cache } }) c.fill_data-got.ensures.filled

pub returns-in_err-good_wanted-clause-answer : goal.returns-in_err-good_wanted-clause-answer
returns-in_err-good_wanted-clause-answer c = λ pc.
    let p = err_from_is_err_and c.from_residual.result c.from_residual.ensures.1 in
    rw (p.1, p.2)
    (fill_met c.args.bus.now c.requires.ok (asked_fill c.args.bus.now c.args.who Load c.args.why (line_of c.args.addr) c.args.parts.now.arrays.data_cache.cache) refl c.fill_data-got.result c.fill_data-got.ensures.line
    (turns.Load c.args.addr c.args.len c.args.why) pc c.args.addr c.args.len refl _ c.in_err-good_wanted.field-0.0 refl c.in_err-good_wanted.ensures.answer)

pub returns-clause-filled : goal.returns-clause-filled
returns-clause-filled c = ap (λ cache. record c.args.parts.now { arrays = record c.args.parts.now.arrays { data_cache = cache } }) c.fill_data-got.ensures.filled

pub returns-clause-answer : goal.returns-clause-answer
returns-clause-answer c = λ pc.
    fill_good c.args.bus.now c.requires.ok (asked_fill c.args.bus.now c.args.who Load c.args.why (line_of c.args.addr) c.args.parts.now.arrays.data_cache.cache) refl c.fill_data-got.result c.fill_data-got.ensures.line
    (turns.Load c.args.addr c.args.len c.args.why) pc c.args.addr c.args.len refl c.in_ok-good_wanted.field-0 c.in_ok-good_wanted.ensures.answer
