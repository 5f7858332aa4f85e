-- The first line, each line, and the answers.
use Rattle.std.proofs.Common.{◌≡◌, ◌+◌, ◌∙◌, inl, refl}
use Rattle.std.specs.Str.Lines.{lines}
use Rattle.run_texts.specs.Grammar.{fault_at}
use Rattle.run_texts.specs.Script.{flip_lines, IsFlipBehind}
use Rattle.run_texts.proofs.GrammarLemmas.{start, passed, more, faulty, whole, no_fault_in_read}
use Rattle.run_texts.proofs.RowLemmas.{one_fault}
use Rattle.run_texts.proofs.TextAnswers.{no_flip_fault, few_flips, flips_of_machine}
use Rattle.run_texts.proofs.script.read_script.Goals as goal

pub loop-line-init : goal.loop-line-init
loop-line-init c =
    let left : c.into_iter-line-iterator.result ≡ lines c.args.text.now = c.into_iter-line-iterator.ensures.into_iter_gives ∙ c.new-line-items.ensures in
    (tt, tt, rw (c.new-flips.ensures.empty, left) (start (flip_lines c.args.config.now) (IsFlipBehind c.args.config.now) c.args.text.now))

pub loop-line-preserved-in-Ok-None : goal.loop-line-preserved-in-Ok-None
loop-line-preserved-in-Ok-None c =
    let so_far = rw c.in-Some.ensures.steps at c.loop-line.invariant.2 in
    let answer = rw (c.in-Ok-None.field-0-is, c.len.ensures.length) at c.in-Ok-None.ensures in
    (tt, tt, passed (flip_lines c.args.config.now) (IsFlipBehind c.args.config.now) c.args.text.now c.in-Some.line.now c.loop-line.number c.loop-line.flips c.next.new.self so_far answer)

pub loop-line-preserved : goal.loop-line-preserved
loop-line-preserved c =
    let so_far = rw c.in-Some.ensures.steps at c.loop-line.invariant.2 in
    let answer = rw (c.in-Ok-Some.field-0-is, c.len.ensures.length) at c.in-Ok-Some.ensures in (
      tt,
      tt,
      rw c.in_ok-push-in-Ok-Some.ensures.ok
          (more (flip_lines c.args.config.now) (IsFlipBehind c.args.config.now) c.args.text.now c.in-Some.line.now c.loop-line.number c.loop-line.flips c.next.new.self so_far c.in-Ok-Some.flip answer),
    )

pub returns-in-Err-clause-refused : goal.returns-in-Err-clause-refused
returns-in-Err-clause-refused c =
    let so_far = rw c.in-Some.ensures.steps at c.loop-line.invariant.2 in
    let answer = rw c.len.ensures.length at c.in-Err.ensures in
    faulty (flip_lines c.args.config.now) (IsFlipBehind c.args.config.now) c.args.text.now c.in-Some.line.now c.loop-line.number c.loop-line.flips c.next.new.self so_far c.in-Err.why answer

pub returns-in-Err-clause-script : goal.returns-in-Err-clause-script
returns-in-Err-clause-script c flips script =
    absurd (no_fault_in_read (flip_lines c.args.config.now) (no_flip_fault c.args.config.now) c.args.text.now flips (c.loop-line.number + 1) c.in-Err.why script (returns-in-Err-clause-refused c))

pub returns-in-Err-clause-fault : goal.returns-in-Err-clause-fault
returns-in-Err-clause-fault c line why fault =
    let same = one_fault (fault_at (flip_lines c.args.config.now) c.args.text.now) (c.loop-line.number + 1) line c.in-Err.why why (returns-in-Err-clause-refused c) fault in
    inl (rw (same.0, same.1) refl)

pub returns-clause-read : goal.returns-clause-read
returns-clause-read c =
    whole (flip_lines c.args.config.now) (IsFlipBehind c.args.config.now) c.args.text.now c.loop-line.number c.loop-line.flips (rw c.in-None.ensures.steps.0 at c.loop-line.invariant.2)

pub returns-clause-fault : goal.returns-clause-fault
returns-clause-fault c line why fault =
    absurd (no_fault_in_read (flip_lines c.args.config.now) (no_flip_fault c.args.config.now) c.args.text.now c.loop-line.flips line why (returns-clause-read c) fault)

pub returns-clause-few : goal.returns-clause-few
returns-clause-few c =
    let so_far = rw c.in-None.ensures.steps.0 at c.loop-line.invariant.2 in
    few_flips c.args.config.now c.loop-line.flips so_far.fit

pub returns-clause-of_machine : goal.returns-clause-of_machine
returns-clause-of_machine c =
    let so_far = rw c.in-None.ensures.steps.0 at c.loop-line.invariant.2 in
    flips_of_machine c.args.config.now c.loop-line.flips so_far.fit
