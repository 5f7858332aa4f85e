use Rattle.std.proofs.Common.{◌≡◌, ◌∙◌, sym}
use Rattle.std.proofs.lemmas.Bool.{false≢true}
use Rattle.lf_model.specs.declared.step.Did.TheVariants.{Need}
use Rattle.lf_model.specs.declared.step.Turn.TheVariants.{Atomic}
use Rattle.tso_thread.proofs.StepKept.{retired_goes, retired_apart, halted_goes, other_apart, atomic_goes, atomic_apart, atomic_other}
use Rattle.tso_thread.proofs.running.Thread.step.Goals as goal
use Rattle.tso_thread.specs.ReplayInside.{answering_in}
use Rattle.tso_thread.specs.ReplayState.{got_next}

pub returns-in-Retired-clause-goes : goal.returns-in-Retired-clause-goes
returns-in-Retired-clause-goes c = λ agrees setup core ops n left at.
    retired_goes setup core ops n left c.args.self.now c.requires.going at c.instruction.new.arch c.instruction.new.replay c.instruction.result c.instruction.ensures.does
    c.instruction.ensures.ops c.instruction.ensures.counts c.in-Retired.is (c.agrees.ensures.0 agrees)

pub returns-in-Retired-clause-apart : goal.returns-in-Retired-clause-apart
returns-in-Retired-clause-apart c = λ not setup core ops n left at.
    retired_apart setup core ops n left c.args.self.now c.requires.going at c.instruction.new.arch c.instruction.new.replay c.instruction.result c.instruction.ensures.does
    c.instruction.ensures.ops c.instruction.ensures.counts c.in-Retired.is (λ front. false≢true (sym not ∙ c.agrees.ensures.1 front))

pub returns-in-Halt-clause-goes : goal.returns-in-Halt-clause-goes
returns-in-Halt-clause-goes c = λ _ setup core ops n left at.
    halted_goes setup core ops n left c.args.self.now c.requires.going at c.instruction.new.arch c.instruction.new.replay c.instruction.result c.instruction.ensures.does
    c.instruction.ensures.ops c.instruction.ensures.counts c.in-Halt.tt c.in-Halt.is

pub returns-then-exchange-clause-goes : goal.returns-then-exchange-clause-goes
returns-then-exchange-clause-goes c = λ agrees setup core ops n left at.
    let a = c.in-Need-Atomic in
    let is : c.instruction.result ≡ Need (Atomic a.addr a.len a.new a.rd) = cc in
    atomic_goes setup core ops n left c.args.self.now c.requires.going at c.instruction.new.arch c.instruction.new.replay c.instruction.result c.instruction.ensures.does
    c.instruction.ensures.ops c.instruction.ensures.counts a.addr a.len a.new a.rd is (got_next (answering_in c.instruction.new.replay)) (c.exchange.ensures.like c.if-exchange.true)
    c.exchange.new.self c.exchange.ensures.halt (c.exchange.ensures.made c.if-exchange.true) c.exchange.ensures.ops c.exchange.ensures.room (c.agrees-then-exchange.ensures.0 agrees)

pub returns-then-exchange-clause-apart : goal.returns-then-exchange-clause-apart
returns-then-exchange-clause-apart c = λ not setup core ops n left at.
    let a = c.in-Need-Atomic in
    let is : c.instruction.result ≡ Need (Atomic a.addr a.len a.new a.rd) = cc in
    atomic_other setup core ops n left c.args.self.now c.requires.going at c.instruction.new.arch c.instruction.new.replay c.instruction.result c.instruction.ensures.does
    c.instruction.ensures.ops c.instruction.ensures.counts a.addr a.len a.new a.rd is (got_next (answering_in c.instruction.new.replay)) (c.exchange.ensures.like c.if-exchange.true)
    c.exchange.new.self c.exchange.ensures.halt (c.exchange.ensures.made c.if-exchange.true) c.exchange.ensures.ops c.exchange.ensures.room
    (λ front. false≢true (sym not ∙ c.agrees-then-exchange.ensures.1 front))

pub returns-else-exchange-clause-apart : goal.returns-else-exchange-clause-apart
returns-else-exchange-clause-apart c = λ _ setup core ops n left at.
    let a = c.in-Need-Atomic in
    let is : c.instruction.result ≡ Need (Atomic a.addr a.len a.new a.rd) = cc in
    atomic_apart setup core ops n left c.args.self.now c.requires.going at c.instruction.new.arch c.instruction.new.replay c.instruction.result c.instruction.ensures.does
    c.instruction.ensures.ops c.instruction.ensures.counts a.addr a.len a.new a.rd is (c.exchange.ensures.unlike c.if-exchange.false)

pub returns-in-Need-Load-clause-apart : goal.returns-in-Need-Load-clause-apart
returns-in-Need-Load-clause-apart c = λ _ setup core ops n left at.
    let is = c.in-Need-Load.is in
    let turn = c.in-Need-Load.field-0-is in
    other_apart setup core ops n left c.args.self.now c.requires.going at c.instruction.new.arch c.instruction.new.replay c.instruction.result c.instruction.ensures.does
    c.instruction.ensures.ops c.instruction.ensures.counts (λ e. absurd cc) (λ tt_ e. absurd cc) (λ addr len put rd e. absurd cc)

pub returns-in-Stop-clause-apart : goal.returns-in-Stop-clause-apart
returns-in-Stop-clause-apart c = λ _ setup core ops n left at.
    let is = c.in-Stop.is in
    other_apart setup core ops n left c.args.self.now c.requires.going at c.instruction.new.arch c.instruction.new.replay c.instruction.result c.instruction.ensures.does
    c.instruction.ensures.ops c.instruction.ensures.counts (λ e. absurd cc) (λ tt_ e. absurd cc) (λ addr len put rd e. absurd cc)
