use Rattle.std.proofs.Common.{◌∙◌, [], refl, ap}
use Rattle.ahb_bus.specs.BusState.{asked_by, answered, after_turn}
use Rattle.lf_model.specs.declared.bus.Line.{Line}
use Rattle.lf_model.specs.declared.bus.Transfer.{Transfer}
use Rattle.lf_model.specs.declared.bus.TurnKind.TheVariants.{Load}
use Rattle.parity_cache.specs.CacheState.{filled_cache}
use Rattle.core_turns.proofs.Answers.{data_bits}
use Rattle.core_turns.proofs.fills.fill_data.Goals as goal
use Rattle.core_turns.specs.AfterTurn.{data_valid}
use Rattle.core_turns.specs.AskedTurn.{asked_fill}

pub returns-clause-filled : goal.returns-clause-filled
returns-clause-filled c =
    let asked : Transfer = asked_fill c.args.bus.now c.args.who Load c.args.why c.args.line c.args.cache.now.cache in
    let t : Transfer = answered c.args.bus.now asked in
    c.fill.ensures.filled
    ∙ (ap (λ valid. filled_cache c.args.line valid c.fill-got.result.words c.args.cache.now)
    (c.good_words.ensures ∙ data_bits c.args.bus.now c.requires.ok asked refl c.fill-got.result c.fill-got.ensures.line)
    ∙ ap (λ (l : Line). filled_cache c.args.line (data_valid t) l.words c.args.cache.now) c.fill-got.ensures.line)

pub returns-clause-made : goal.returns-clause-made
returns-clause-made c =
    c.fill-got.ensures.made
    ∙ ap (λ way. after_turn (asked_by c.args.bus.now c.args.who Load c.args.why c.args.line way 0) [] c.args.bus.now.values c.args.bus.now) c.victim-way.ensures

pub victim-way-requires : goal.victim-way-requires
victim-way-requires c = c.requires.fill.clean

pub fill-got-requires-clause-cause : goal.fill-got-requires-clause-cause
fill-got-requires-clause-cause c = c.requires.fill.cause

pub fill-got-requires-clause-in_ram : goal.fill-got-requires-clause-in_ram
fill-got-requires-clause-in_ram c = c.requires.fill.in_ram
