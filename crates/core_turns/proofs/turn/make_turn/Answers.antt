use Rattle.std.proofs.Common.{◌≡◌, ◌∙◌, ◌≤◌, length, drop, sym, ap, subst, List}
use Rattle.std.specs.List.{AllByRecursion}
use Rattle.ahb_bus.specs.Asks.{IsCoreTurn}
use Rattle.core_parts.specs.CanRun.{CanRun}
use Rattle.core_parts.specs.Inside.{value_of}
use Rattle.core_parts.specs.declared.parts.Parts.{Parts}
use Rattle.lf_model.specs.declared.bus.Entry.{Entry}
use Rattle.order_log.specs.LogState.{IsLogEntry}
use Rattle.core_turns.proofs.turn.make_turn.Goals as goal
use Rattle.core_turns.specs.AskedTurn.{transfer_of, turn_answer}
use Rattle.core_turns.specs.CanTurn.{HasEntryFor, who_in, steps_ended, turn_over, looked_before}
use Rattle.core_turns.specs.CatchingUp.{caught_up_parts}
use Rattle.core_turns.specs.MakesTurn.{transferred_by, bus_by}

pub catch_up-requires : goal.catch_up-requires
catch_up-requires c = subst (λ (es : List Entry). c.args.parts.now.«record».seen ≤ length es) (sym c.log.ensures.entries) c.requires.seen

pub transfer-requires-clause-turn : goal.transfer-requires-clause-turn
transfer-requires-clause-turn c =
    let e : c.catch_up.new.parts ≡ caught_up_parts c.args.bus.now.log c.args.parts.now = c.catch_up.ensures.parts ∙ ap (λ (es : List Entry). caught_up_parts es c.args.parts.now) c.log.ensures.entries in
    subst (λ (q : Parts). IsCoreTurn (who_in c.args.arch.now q) c.args.bus.now) (sym e) c.requires.turn

pub transfer-requires-clause-entry : goal.transfer-requires-clause-entry
transfer-requires-clause-entry c =
    let e : c.catch_up.new.parts ≡ caught_up_parts c.args.bus.now.log c.args.parts.now = c.catch_up.ensures.parts ∙ ap (λ (es : List Entry). caught_up_parts es c.args.parts.now) c.log.ensures.entries in
    subst (λ (q : Parts). HasEntryFor c.args.turn (who_in c.args.arch.now q) c.args.bus.now) (sym e) c.requires.entry

pub transfer-requires-clause-setup : goal.transfer-requires-clause-setup
transfer-requires-clause-setup c =
    let e : c.catch_up.new.parts ≡ caught_up_parts c.args.bus.now.log c.args.parts.now = c.catch_up.ensures.parts ∙ ap (λ (es : List Entry). caught_up_parts es c.args.parts.now) c.log.ensures.entries in
    c.requires.setup ∙ sym (ap (λ (q : Parts). q.site) e)

pub transfer-requires-clause-seen : goal.transfer-requires-clause-seen
transfer-requires-clause-seen c =
    let e : c.catch_up.new.parts ≡ caught_up_parts c.args.bus.now.log c.args.parts.now = c.catch_up.ensures.parts ∙ ap (λ (es : List Entry). caught_up_parts es c.args.parts.now) c.log.ensures.entries in
    ap (λ (q : Parts). q.«record».seen) e

pub transfer-requires-clause-core : goal.transfer-requires-clause-core
transfer-requires-clause-core c = c.catch_up.ensures.core c.args.arch.now c.requires.core

pub transfer-requires-clause-can : goal.transfer-requires-clause-can
transfer-requires-clause-can c = c.catch_up.ensures.can c.args.turn c.args.arch.now c.requires.can

pub transfer-requires-clause-runs : goal.transfer-requires-clause-runs
transfer-requires-clause-runs c =
    let e : c.catch_up.new.parts ≡ caught_up_parts c.args.bus.now.log c.args.parts.now = c.catch_up.ensures.parts ∙ ap (λ (es : List Entry). caught_up_parts es c.args.parts.now) c.log.ensures.entries in
    subst (λ n. CanRun n (looked_before c.args.turn) c.catch_up.new.parts) (sym (ap steps_ended e)) (c.catch_up.ensures.runs (steps_ended c.args.parts.now) (looked_before c.args.turn) c.requires.runs)

pub returns-clause-core : goal.returns-clause-core
returns-clause-core c = λ quiet named phase.
    let e : c.catch_up.new.parts ≡ caught_up_parts c.args.bus.now.log c.args.parts.now = c.catch_up.ensures.parts ∙ ap (λ (es : List Entry). caught_up_parts es c.args.parts.now) c.log.ensures.entries in
    c.transfer.ensures.core quiet named phase ∙ ap (λ (q : Parts). transferred_by c.args.bus.now c.args.turn q.buffer.waiting (value_of c.args.arch.now q quiet named phase)) e

pub returns-clause-bus : goal.returns-clause-bus
returns-clause-bus c = λ quiet named phase.
    let e : c.catch_up.new.parts ≡ caught_up_parts c.args.bus.now.log c.args.parts.now = c.catch_up.ensures.parts ∙ ap (λ (es : List Entry). caught_up_parts es c.args.parts.now) c.log.ensures.entries in
    c.transfer.ensures.made quiet named phase ∙ ap (λ (q : Parts). bus_by c.args.bus.now c.args.turn q.buffer.waiting (value_of c.args.arch.now q quiet named phase)) e

pub returns-clause-answer : goal.returns-clause-answer
returns-clause-answer c = λ quiet named phase.
    let e : c.catch_up.new.parts ≡ caught_up_parts c.args.bus.now.log c.args.parts.now = c.catch_up.ensures.parts ∙ ap (λ (es : List Entry). caught_up_parts es c.args.parts.now) c.log.ensures.entries in
    c.transfer.ensures.answer quiet named phase ∙ ap (λ (q : Parts). turn_answer c.args.arch.now.ctl.pc c.args.turn (transfer_of (value_of c.args.arch.now q quiet named phase) c.args.bus.now c.args.turn)) e

pub returns-clause-entries : goal.returns-clause-entries
returns-clause-entries c = subst (λ (es : List Entry). AllByRecursion IsLogEntry (drop c.args.parts.now.«record».seen es)) c.log.ensures.entries c.catch_up.ensures.entries

pub returns-clause-ok : goal.returns-clause-ok
returns-clause-ok c = c.transfer.ensures.ok

pub returns-clause-keeps : goal.returns-clause-keeps
returns-clause-keeps c = c.transfer.ensures.keeps

pub returns-clause-runs : goal.returns-clause-runs
returns-clause-runs c =
    let e : c.catch_up.new.parts ≡ caught_up_parts c.args.bus.now.log c.args.parts.now = c.catch_up.ensures.parts ∙ ap (λ (es : List Entry). caught_up_parts es c.args.parts.now) c.log.ensures.entries in
    subst (λ n. CanRun n 0 (turn_over c.transfer.new.parts)) (ap steps_ended e) c.transfer.ensures.runs
