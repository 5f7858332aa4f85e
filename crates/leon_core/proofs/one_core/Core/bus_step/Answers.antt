use Rattle.std.proofs.Common.{◌∙◌, length, sym, ap}
use Rattle.ahb_bus.specs.BusState.{BusState}
use Rattle.core_course.specs.Settled.{phase_after}
use Rattle.leon_core.proofs.TurnAsks.{meets, can_make, runs_turn, core_turn, entry_for, counts, takes}
use Rattle.leon_core.proofs.TurnEnds.{did_same, answer_same, adds, ends, core_right}
use Rattle.leon_core.proofs.TurnedInside.{TurnsTo, is_turned, seen_turned, stores_then, moves_then}
use Rattle.leon_core.proofs.one_core.Core.bus_step.Goals as goal

pub make_turn-answer-requires-clause-turn : goal.make_turn-answer-requires-clause-turn
make_turn-answer-requires-clause-turn c =
    let old = c.self.inside in
    let start = c.turn_start-number in
    let r = c.requires in
    core_turn old c.self.invariant c.args.turn start.new.self
    (meets old c.args.self.now c.args.turn c.args.bus.now start.new.self c.self.view_is start.ensures.begun
    r.turn r.setup r.joins start.ensures.ok)

pub make_turn-answer-requires-clause-entry : goal.make_turn-answer-requires-clause-entry
make_turn-answer-requires-clause-entry c =
    let old = c.self.inside in
    let start = c.turn_start-number in
    let r = c.requires in
    entry_for old c.self.invariant c.args.turn start.new.self
    (meets old c.args.self.now c.args.turn c.args.bus.now start.new.self c.self.view_is start.ensures.begun
    r.turn r.setup r.joins start.ensures.ok)

pub make_turn-answer-requires-clause-can : goal.make_turn-answer-requires-clause-can
make_turn-answer-requires-clause-can c =
    let old = c.self.inside in
    let start = c.turn_start-number in
    let r = c.requires in
    let m =
    meets old c.args.self.now c.args.turn c.args.bus.now start.new.self c.self.view_is start.ensures.begun
    r.turn r.setup r.joins start.ensures.ok in
    can_make old c.self.invariant c.args.turn m.may

pub make_turn-answer-requires-clause-runs : goal.make_turn-answer-requires-clause-runs
make_turn-answer-requires-clause-runs c =
    let old = c.self.inside in
    let start = c.turn_start-number in
    let r = c.requires in
    let m =
    meets old c.args.self.now c.args.turn c.args.bus.now start.new.self c.self.view_is start.ensures.begun
    r.turn r.setup r.joins start.ensures.ok in
    runs_turn old c.self.invariant c.args.turn m.may

pub end_turn-requires : goal.end_turn-requires
end_turn-requires c =
    let old = c.self.inside in
    let start = c.turn_start-number in
    let r = c.requires in
    let m =
    meets old c.args.self.now c.args.turn c.args.bus.now start.new.self c.self.view_is start.ensures.begun
    r.turn r.setup r.joins start.ensures.ok in
    let number_is = start.ensures.number ∙ sym (ap (λ (b : BusState). length b.transfers) start.ensures.begun) in
    record { number = counts old c.self.invariant c.args.turn start.new.self m start.result number_is }

pub invariant_of-self : goal.invariant_of-self
invariant_of-self c =
    let old = c.self.inside in
    let start = c.turn_start-number in
    let made = c.make_turn-answer in
    let r = c.requires in
    let m =
    meets old c.args.self.now c.args.turn c.args.bus.now start.new.self c.self.view_is start.ensures.begun
    r.turn r.setup r.joins start.ensures.ok in
    is_turned old c.self.invariant c.args.turn m.may start.new.self made.new.arch made.new.parts start.result made.result
    c.end_turn.new.made c.phase_after-self-inside.result c.name_word.new.named
    (record {
      core_is = made.ensures.core old.quiet old.room.named.items old.phase;
      answer_is = made.ensures.answer old.quiet old.room.named.items old.phase;
      number_is = start.ensures.number ∙ sym (ap (λ (b : BusState). length b.transfers) start.ensures.begun);
      made_is = c.end_turn.ensures.ended;
      phase_is = c.phase_after-self-inside.ensures ∙ ap phase_after c.did_of_turn-did.ensures;
      named_is = c.name_word.ensures.named;
      named_room = c.name_word.ensures.room;
      keeps = made.ensures.keeps;
      runs = made.ensures.runs;
    })

pub returns : goal.returns
returns c =
    let old = c.self.inside in
    let is = c.self.invariant in
    let v = c.args.self.now in
    let turn = c.args.turn in
    let before = c.args.bus.now in
    let start = c.turn_start-number in
    let bus = start.new.self in
    let made = c.make_turn-answer in
    let over = c.end_turn.new.made in
    let then = c.phase_after-self-inside in
    let named = c.name_word.new.named in
    let r = c.requires in
    let m = meets old v turn before bus c.self.view_is start.ensures.begun r.turn r.setup r.joins start.ensures.ok in
    let to : TurnsTo old turn bus made.new.arch made.new.parts start.result made.result over then.result named =
    record {
      core_is = made.ensures.core old.quiet old.room.named.items old.phase;
      answer_is = made.ensures.answer old.quiet old.room.named.items old.phase;
      number_is = start.ensures.number ∙ sym (ap (λ (b : BusState). length b.transfers) start.ensures.begun);
      made_is = c.end_turn.ensures.ended;
      phase_is = then.ensures ∙ ap phase_after c.did_of_turn-did.ensures;
      named_is = c.name_word.ensures.named;
      named_room = c.name_word.ensures.room;
      keeps = made.ensures.keeps;
      runs = made.ensures.runs;
    } in
    let seen = seen_turned old is turn m.may bus made.new.arch made.new.parts start.result made.result over then.result named to in
    let moves = moves_then old is turn m.may bus made.new.arch made.new.parts start.result made.result over then.result named to v c.self.view_is c.did_of_turn-did.result then.ensures in
    let stores = stores_then old is turn m.may bus made.new.arch made.new.parts start.result made.result over then.result named to v c.self.view_is in
    let made_so = made.ensures.bus old.quiet old.room.named.items old.phase in
    let taken = takes old is turn bus m made.ensures.entries in
    record {
      ends = ends old v c.self.view_is turn before bus start.ensures.begun made.new.bus made_so _ seen is;
      answer = c.did_of_turn-did.ensures ∙ did_same turn start.ensures.number (to.answer_is ∙ answer_same turn start.ensures.begun c.self.view_is);
      moves = moves;
      stores = stores;
      adds = adds old v c.self.view_is turn before bus start.ensures.begun made.new.bus made_so taken;
      ok = core_right old v c.self.view_is turn before bus start.ensures.begun made.new.bus made_so _ seen taken;
      bus_ok = made.ensures.ok;
    }
