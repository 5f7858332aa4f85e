-- The first line, each line, and the answers.
use Rattle.std.proofs.Common.{◌≡◌, ◌+◌, ◌∙◌, inl, refl}
use Rattle.std.specs.Str.Lines.{lines}
use Rattle.run_texts.specs.Grammar.{fault_at}
use Rattle.run_texts.specs.Schedule.{event_lines, IsEventBehind}
use Rattle.run_texts.proofs.GrammarLemmas.{start, passed, more, faulty, whole, no_fault_in_read}
use Rattle.run_texts.proofs.RowLemmas.{one_fault}
use Rattle.run_texts.proofs.TextAnswers.{no_event_fault}
use Rattle.run_texts.proofs.schedule.read_schedule.Goals as goal

pub loop-line-init : goal.loop-line-init
loop-line-init c =
    let left : c.into_iter-line-iterator.result ≡ lines c.args.text.now = c.into_iter-line-iterator.ensures.into_iter_gives ∙ c.new-line-items.ensures in
    (tt, tt, rw (c.new-events.ensures.empty, left) (start (event_lines c.args.config.now) (IsEventBehind c.args.config.now) c.args.text.now))

pub loop-line-preserved-in-Ok-None : goal.loop-line-preserved-in-Ok-None
loop-line-preserved-in-Ok-None c =
    let so_far = rw c.in-Some.ensures.steps at c.loop-line.invariant.2 in
    let answer = rw c.in-Ok-None.field-0-is at c.in-Ok-None.ensures in
    (tt, tt, passed (event_lines c.args.config.now) (IsEventBehind c.args.config.now) c.args.text.now c.in-Some.line.now c.loop-line.number c.loop-line.events c.next.new.self so_far answer)

pub loop-line-preserved : goal.loop-line-preserved
loop-line-preserved c =
    let so_far = rw c.in-Some.ensures.steps at c.loop-line.invariant.2 in
    let answer = rw c.in-Ok-Some.field-0-is at c.in-Ok-Some.ensures in (
      tt,
      tt,
      rw c.in_ok-push-in-Ok-Some.ensures.ok
          (more (event_lines c.args.config.now) (IsEventBehind c.args.config.now) c.args.text.now c.in-Some.line.now c.loop-line.number c.loop-line.events c.next.new.self so_far c.in-Ok-Some.event answer),
    )

pub returns-in-Err-clause-refused : goal.returns-in-Err-clause-refused
returns-in-Err-clause-refused c =
    let so_far = rw c.in-Some.ensures.steps at c.loop-line.invariant.2 in
    faulty (event_lines c.args.config.now) (IsEventBehind c.args.config.now) c.args.text.now c.in-Some.line.now c.loop-line.number c.loop-line.events c.next.new.self so_far c.in-Err.why c.in-Err.ensures

pub returns-in-Err-clause-schedule : goal.returns-in-Err-clause-schedule
returns-in-Err-clause-schedule c events schedule =
    absurd (no_fault_in_read (event_lines c.args.config.now) (λ earlier. no_event_fault c.args.config.now) c.args.text.now events (c.loop-line.number + 1) c.in-Err.why schedule (returns-in-Err-clause-refused c))

pub returns-in-Err-clause-fault : goal.returns-in-Err-clause-fault
returns-in-Err-clause-fault c line why fault =
    let same = one_fault (fault_at (event_lines c.args.config.now) c.args.text.now) (c.loop-line.number + 1) line c.in-Err.why why (returns-in-Err-clause-refused c) fault in
    inl (rw (same.0, same.1) refl)

pub returns-clause-read : goal.returns-clause-read
returns-clause-read c =
    rw c.into_vec.ensures.items (whole (event_lines c.args.config.now) (IsEventBehind c.args.config.now) c.args.text.now c.loop-line.number c.loop-line.events (rw c.in-None.ensures.steps.0 at c.loop-line.invariant.2))

pub returns-clause-fault : goal.returns-clause-fault
returns-clause-fault c line why fault =
    absurd (no_fault_in_read (event_lines c.args.config.now) (λ earlier. no_event_fault c.args.config.now) c.args.text.now _ line why (returns-clause-read c) fault)
